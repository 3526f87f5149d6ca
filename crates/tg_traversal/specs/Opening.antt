-- What a block that was read leaves where it stands.
use Rattle.tg_traversal.specs.declared.position.Miss.{Miss}
use Rattle.tg_traversal.specs.declared.position.Place.{Place}
use Rattle.tg_traversal.specs.declared.position.Position.{Position}
use Rattle.tg_model.specs.declared.placed.PlacedKind.TheVariants as placed
use Rattle.tg_model.specs.declared.queries.Scope.TheVariants as scopes
use Rattle.std.specs.Prelude.{Bool, Err, List, None, Ok, Option, Result, Some, [], drop, false, length, true, ℕ, ◌∷◌}
use Rattle.std.specs.Prelude.{◌≡◌}
use Rattle.tg_bytes.specs.Ascii.{slash}
use Rattle.tg_traversal.specs.Frames.{block_parts}
use Rattle.tg_traversal.specs.Left.{IsOnPath}
use Rattle.tg_traversal.specs.Places.{missing_of, standing_of, want_of}
use Rattle.tg_model.specs.Computed.{read}
use Rattle.tg_model.specs.Dag.{Section, links_of}
use Rattle.tg_model.specs.Placed.{IsFileAt, StandsForKind}
use Rattle.tg_model.specs.Queries.{QueryParts, SpanParts}
use Rattle.tg_model.specs.Sound.{position_fault}
use Rattle.tg_model.specs.Traversal.{bundled, entire, file_reach, listed, ranged}
use Rattle.tg_model.specs.Traversal.{Reach as Reaching}
use Rattle.tg_model.specs.declared.kinds.Part.{Part}
use Rattle.tg_model.specs.declared.placed.FilePlaces.{FilePlaces}
use Rattle.tg_model.specs.declared.queries.Scope.{Scope}
use Rattle.tg_model.specs.declared.kinds.Kind.{Kind}
use Rattle.tg_model.specs.declared.kinds.Kind.TheVariants.{Basic, Raw, Shard}
use Rattle.tg_model.specs.declared.placed.PlacedKind.{PlacedKind}
use Rattle.tg_model_laws.specs.Tasks.{open_block, stop_at, tasks_of}
use Rattle.tg_traversal.specs.Places.{step_want}

-- the section is read as this kind, which may stand there
pub record IsReadBy (position : Position) (section : Section) (kind : Kind) (found : PlacedKind) : Type 0 where
  pub reads : read section.cid section.block ≡ Ok kind
  pub fits : position_fault (standing_of position) kind ≡ None
  pub stands : StandsForKind section.block found kind

-- a directory, or as what any other block is taken: none of them leads on
abbrev pub directory_kind : PlacedKind → Kind
directory_kind placed.Raw = Raw
directory_kind (placed.File places) = Raw
directory_kind (placed.Basic entries) = Basic entries
directory_kind (placed.Shard slots) = Shard slots
directory_kind (placed.Symlink target) = Raw

-- the step with a segment leaves one place, or leads nowhere
abbrev pub IsStepLeft : QueryParts → ℕ → Position → ℕ → Section → Kind → Result Place Miss → Type 0
IsStepLeft q i position depth section kind (Ok place) =
    (tasks_of q (step_want i (standing_of position) (drop i q.path) depth) section kind (links_of kind) ≡ open_block (want_of q.path place.ask place.depth) place.cid ∷ [])
    × IsOnPath place.ask (length q.path)
IsStepLeft q i position depth section kind (Err miss) =
    tasks_of q (step_want i (standing_of position) (drop i q.path) depth) section kind (links_of kind) ≡ stop_at (missing_of miss) ∷ []

-- the place, or the segment
abbrev pub IsParted : Result Place Miss → Option Place → Option Miss → Type 0
IsParted (Ok place) wanted missed = (wanted ≡ Some place) × (missed ≡ None)
IsParted (Err miss) wanted missed = (wanted ≡ None) × (missed ≡ Some miss)

-- how much is asked of a terminal: of a directory, and of any other block
abbrev pub directory_asked : Scope → Reaching
directory_asked scopes.Block = listed
directory_asked scopes.Entity = listed
directory_asked scopes.All = bundled (slash ∷ [])

abbrev pub file_asked : Option SpanParts → PlacedKind → Reaching
file_asked span placed.Raw = entire
file_asked span (placed.File places) = file_reach span places.total
file_asked span (placed.Basic entries) = entire
file_asked span (placed.Shard slots) = entire
file_asked span (placed.Symlink target) = entire

-- whether all is bundled
abbrev pub is_bundled : Reaching → Bool
is_bundled (bundled path) = true
is_bundled entire = false
is_bundled (ranged low high) = false
is_bundled listed = false

-- the bytes are those of a block that is this file
pub record IsFileHere (places : FilePlaces) (block inline : List ℕ) (filesize : Option ℕ) (parts : List Part) : Type 0 where
  pub section : Section
  pub block_is : section.block ≡ block
  pub file_at : IsFileAt section.block places inline filesize parts
  pub parts_are : block_parts section.block ≡ parts

-- how many links a block has that is read as this kind
abbrev pub placed_links : PlacedKind → ℕ
placed_links placed.Raw = 0
placed_links (placed.File places) = places.count
placed_links (placed.Basic entries) = length entries
placed_links (placed.Shard slots) = length slots
placed_links (placed.Symlink target) = 0
