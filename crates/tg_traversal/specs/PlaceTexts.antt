-- What the block at the wanted place says itself: its text there, and its sizes (UnixFS specification, File; Trustless
-- Gateway specification, entity-bytes).
use Rattle.tg_traversal.specs.declared.position.Ask.TheVariants as asks
use Rattle.std.specs.Prelude.{List, None, Option, Some, ℕ, ⊤, ◌≡◌, ◌≢◌, ◌⊎◌}
use Rattle.tg_traversal.specs.Left.{LeftState, WantedAt}
use Rattle.tg_traversal.specs.Places.{standing_of}
use Rattle.tg_traversal.specs.declared.position.Ask.{Ask}
use Rattle.tg_traversal.specs.declared.text.SizeFault.{SizeFault}
use Rattle.tg_model.specs.Dag.{Section, total_of}
use Rattle.tg_model.specs.Placed.{StandsForKind}
use Rattle.tg_model.specs.Sound.{IsOfSize, Position, TellsSize, child, part, top}
use Rattle.tg_model.specs.declared.kinds.Kind.{Kind}
use Rattle.tg_model.specs.declared.kinds.Kind.TheVariants.{Basic, File, Raw, Shard, Symlink}
use Rattle.tg_model.specs.declared.placed.PlacedKind.{PlacedKind}
use Rattle.tg_model.specs.Queries.{QueryParts}
use Rattle.tg_model.specs.Traversal.{Reach, all_reach, bundled, entire, listed, ranged}
use Rattle.tg_model.specs.declared.queries.Scope.TheVariants as scopes
use Rattle.tg_model.specs.declared.queries.Scope.{Scope}
use Rattle.tg_model_laws.specs.Tasks.{Want, fault_at, node_want, segment_want, terminal_want}

-- the section has these bytes, and stands for this kind
pub record IsBlockAt (section : Section) (kind : Kind) (found : PlacedKind) (block : List ℕ) : Type 0 where
  pub block_is : section.block ≡ block
  pub stands : StandsForKind block found kind

-- and it stands at the place that is wanted, where a block of its kind may
pub record IsBlockHere (state : LeftState) (at : WantedAt) (section : Section) (kind : Kind) (found : PlacedKind) (block : List ℕ) : Type 0 where
  pub wanted : state.wanted ≡ Some at
  pub fits : fault_at state.query at.want kind ≡ None
  pub block_at : IsBlockAt section kind found block

-- ---- texts

-- all below the block is bundled, so that the line of a record stands before it, unless it is a child of a shard
abbrev pub IsBundled : Reach → Type 0
IsBundled (bundled path) = ⊤
IsBundled entire = ⊥
IsBundled (ranged low high) = ⊥
IsBundled listed = ⊥

-- of a terminal
abbrev pub IsFirstRecord : Scope → Kind → Type 0
IsFirstRecord scopes.Block kind = ⊥
IsFirstRecord scopes.Entity kind = ⊥
IsFirstRecord scopes.All kind = IsBundled (all_reach kind)

-- of a place
abbrev pub IsRecordAt : QueryParts → Want → Kind → Type 0
IsRecordAt q (segment_want i position name path depth) kind = ⊥
IsRecordAt q (terminal_want depth) kind = IsFirstRecord q.scope kind
IsRecordAt q (node_want reach position depth) kind = IsBundled reach

-- ---- sizes

-- where the block of a place stands
abbrev pub standing_at : Ask → Position
standing_at (asks.Segment i position) = standing_of position
standing_at asks.Terminal = top
standing_at (asks.Node reach position) = standing_of position

-- the size that a parent declares for its part
abbrev pub part_size : Position → Option ℕ
part_size top = None
part_size (part size) = Some size
part_size (child above) = None

-- the size of all of its content that a file tells
abbrev pub told_size : Kind → Option ℕ
told_size Raw = None
told_size (File inline filesize parts) = filesize
told_size (Basic entries) = None
told_size (Shard slots) = None
told_size (Symlink target) = None

-- the number of content bytes of a raw block or a file
abbrev pub content_size : Section → Kind → Option ℕ
content_size section Raw = Some (total_of section Raw)
content_size section (File inline filesize parts) = Some (total_of section (File inline filesize parts))
content_size section (Basic entries) = None
content_size section (Shard slots) = None
content_size section (Symlink target) = None

-- a size that is told, and isn't the actual one
pub record IsOther (told : Option ℕ) (actual : ℕ) (fault : SizeFault) : Type 0 where
  pub declared : told ≡ Some fault.declared
  pub actual_is : fault.actual ≡ actual
  pub differs : fault.declared ≢ actual

-- none is told, or it is the actual one
abbrev pub IsSame : Option ℕ → ℕ → Type 0
IsSame None actual = ⊤
IsSame (Some size) actual = size ≡ actual

abbrev pub IsDiffering : Option ℕ → ℕ → Option SizeFault → Type 0
IsDiffering told actual None = IsSame told actual
IsDiffering told actual (Some fault) = IsOther told actual fault

-- the size that its parent declares for the block and the one that it tells itself are its own; or the first of these
-- that isn't
abbrev pub IsSizeFault : Position → Section → Kind → Option SizeFault → Type 0
IsSizeFault position section kind None =
    IsOfSize position (total_of section kind) × TellsSize kind (total_of section kind)
IsSizeFault position section kind (Some fault) =
    IsOther (part_size position) (total_of section kind) fault
    ⊎ (IsOfSize position (total_of section kind) × IsOther (told_size kind) (total_of section kind) fault)
