-- Where the children of a node stand that are gone into, and to which of them a step of a path leads.
use Rattle.std.specs.Prelude.{List, None, Option, Some, [], suc, zero, ℕ, ⊤, ◌∷◌, ◌≡◌}
use Rattle.tg_model.specs.PathWalk.{StepTo, absent, child_below, not_folder_here, step_of, to_child, to_entry}
use Rattle.tg_model.specs.Sound.{Position, positions, top}
use Rattle.tg_model.specs.Traversal.{Reach, Visit, visits}
use Rattle.tg_model.specs.declared.kinds.Kind.{Kind}
use Rattle.tg_murmur.specs.NameHash.{slot_of}

-- visit by visit, a relation holds between what is gone into and the position of the child
abbrev pub Each : (Option (Reach × Position) → Position → Type 0) → List Visit → List Position → Type 0
Each R [] [] = ⊤
Each R (visit ∷ visits) (position ∷ positions) = R visit.into position × Each R visits positions
Each R [] (position ∷ positions) = ⊥
Each R (visit ∷ visits) [] = ⊥

-- a child is gone into at its position, or passed over
abbrev pub Stands : Option (Reach × Position) → Position → Type 0
Stands None position = ⊤
Stands (Some into) position = into.1 ≡ position

-- whatever the reach, each child is gone into at its position
abbrev pub VisitsStand : Type 0
VisitsStand = (reach : Reach) (position : Position) (kind : Kind) → Each Stands (visits reach position kind) (positions position kind)

-- the position with this index
abbrev pub IsAt : ℕ → Position → List Position → Type 0
IsAt k position [] = ⊥
IsAt zero position (p ∷ places) = p ≡ position
IsAt (suc k) position (p ∷ places) = IsAt k position places

-- a step leads to an entry, which stands at the top, or to a child shard behind the slots that were passed
abbrev pub IsLedTo : List Position → Position → StepTo → Type 0
IsLedTo places below (to_entry k) = IsAt k top places
IsLedTo places below (to_child k) = IsAt k below places
IsLedTo places below absent = ⊤
IsLedTo places below not_folder_here = ⊤

-- so does a step at any node
abbrev pub StepsLead : Type 0
StepsLead = (position : Position) (kind : Kind) (level : ℕ) (name : List ℕ) → IsLedTo (positions position kind) (child_below position (slot_of name level)) (step_of kind level name)
