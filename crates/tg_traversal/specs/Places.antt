-- What the places of a traversal ask, as values (Trustless Gateway specification: dag-scope, entity-bytes; UnixFS
-- specification).
use Rattle.tg_traversal.specs.declared.position.Ask.TheVariants as asks
use Rattle.tg_traversal.specs.declared.position.Miss.TheVariants as misses
use Rattle.tg_traversal.specs.declared.position.Position.TheVariants as positions
use Rattle.tg_traversal.specs.declared.position.Reach.TheVariants as reaches
use Rattle.std.specs.Prelude.{Bool, List, None, Option, Some, [], drop, false, if◌then◌else◌, length, true, ⊤, ℕ, ◌-◌, ◌∷◌, ◌≡◌}
use Rattle.tg_cid.specs.Cid.{CidParts}
use Rattle.tg_traversal.specs.declared.position.Ask.{Ask}
use Rattle.tg_traversal.specs.declared.position.Miss.{Miss}
use Rattle.tg_traversal.specs.declared.position.Place.{Place}
use Rattle.tg_traversal.specs.declared.position.Position.{Position}
use Rattle.tg_traversal.specs.declared.position.Reach.{Reach}
use Rattle.tg_traversal.specs.declared.position.Role.{Role}
use Rattle.tg_traversal.specs.declared.position.Role.TheVariants as roles
use Rattle.tg_model.specs.Sound.{child, part, top}
use Rattle.tg_model.specs.Sound.{Position as Standing}
use Rattle.tg_model.specs.Traversal.{bundled, entire, is_met, listed, ranged}
use Rattle.tg_model.specs.Traversal.{Reach as Reaching}
use Rattle.tg_model_laws.specs.Tasks.{Want, no_directory, no_entry, node_want, segment_want, terminal_want}
use Rattle.tg_model_laws.specs.Tasks.{Miss as Missing}

-- where it stands
abbrev pub standing_of : Position → Standing
standing_of positions.Top = top
standing_of (positions.Part size) = part size
standing_of (positions.Child above) = child above

-- how much is asked of it
abbrev pub reach_of : Reach → Reaching
reach_of (reaches.Bundled path) = bundled path
reach_of reaches.Entire = entire
reach_of (reaches.Ranged low high) = ranged low high
reach_of reaches.Listed = listed

-- the step with the first of these names, where there is one
abbrev pub step_want : ℕ → Standing → List (List ℕ) → ℕ → Want
step_want i standing [] depth = terminal_want depth
step_want i standing (name ∷ path) depth = segment_want i standing name path depth

-- what is asked there, by the path of the query
abbrev pub want_of : List (List ℕ) → Ask → ℕ → Want
want_of path (asks.Segment i position) depth = step_want i (standing_of position) (drop i path) depth
want_of path asks.Terminal depth = terminal_want depth
want_of path (asks.Node reach position) depth = node_want (reach_of reach) (standing_of position) depth

-- what a block below the terminal is where no range is asked: an entry that is bundled, a part of a file, or a child of
-- a shard behind so many slots
abbrev pub role_in : Reaching → Standing → Option Role
role_in (bundled path) top = Some roles.Entry
role_in (bundled path) (part size) = None
role_in (bundled path) (child above) = Some (roles.Child (length above))
role_in entire top = None
role_in entire (part size) = Some roles.Part
role_in entire (child above) = None
role_in (ranged low high) standing = None
role_in listed top = None
role_in listed (part size) = None
role_in listed (child above) = Some (roles.Child (length above))

abbrev pub role_at : Want → Option Role
role_at (segment_want i standing name path depth) = None
role_at (terminal_want depth) = None
role_at (node_want reach standing depth) = role_in reach standing

-- whether it is the terminal, to which the path of the query leads
abbrev pub is_terminal : Want → Bool
is_terminal (segment_want i standing name path depth) = false
is_terminal (terminal_want depth) = true
is_terminal (node_want reach standing depth) = false

-- a segment that leads nowhere
abbrev pub missing_of : Miss → Missing
missing_of (misses.NoEntry i) = no_entry i
missing_of (misses.NoDirectory i) = no_directory i

-- how a directory is gone over: its entries are bundled under a path, or listed
abbrev pub directory_reach : Option (List ℕ) → Reaching
directory_reach None = listed
directory_reach (Some path) = bundled path

-- what is asked of a part that begins at `from`, where it is gone into
abbrev pub part_reach : Option (ℕ × ℕ) → ℕ → ℕ → Option Reaching
part_reach None from size = Some entire
part_reach (Some range) from size =
    if is_met range.0 range.1 from size then Some (ranged (range.0 - from) (range.1 - from)) else None

abbrev pub IsReachOfPart : Option Reach → Option Reaching → Type 0
IsReachOfPart None None = ⊤
IsReachOfPart None (Some reaching) = ⊥
IsReachOfPart (Some reach) None = ⊥
IsReachOfPart (Some reach) (Some reaching) = reach_of reach ≡ reaching

-- a child that is gone into with this reach and position is the place of this CID and depth; or none is gone into
abbrev pub IsPlaceOf : ℕ → CidParts → Option (Reaching × Standing) → Option Place → Type 0
IsPlaceOf depth cid None None = ⊤
IsPlaceOf depth cid None (Some place) = ⊥
IsPlaceOf depth cid (Some into) None = ⊥
IsPlaceOf depth cid (Some into) (Some place) =
    (place.cid ≡ cid) × (place.depth ≡ depth) × ((path : List (List ℕ)) → want_of path place.ask depth ≡ node_want into.0 into.1 depth)
