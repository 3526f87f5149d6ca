-- What is done at the links of a node, beside where the children stand.
use Rattle.std.proofs.Common.{Bool, true, false, Option, Some, None, List, [], ◌∷◌, ◌++◌, ℕ, ◌+◌, ◌-◌, map, refl, length}
use Rattle.std.specs.Prelude.{if◌then◌else◌}
use Rattle.tg_cid.specs.Cid.{CidParts}
use Rattle.tg_model_laws.specs.Standing.{Each, Stands}
use Rattle.tg_model.specs.Sound.{Position, part, passed, position_by_name, positions, slot_position, top}
use Rattle.tg_model.specs.Traversal.{Reach, Visit, bundled, entire, entry_visit, file_visits, is_met, listed, part_visits, passed_over, ranged, slot_visit, visit_by_name, visits}
use Rattle.tg_model.specs.declared.kinds.Kind.{Kind}
use Rattle.tg_model.specs.declared.kinds.Kind.TheVariants.{Basic, File, Raw, Shard, Symlink}
use Rattle.tg_model.specs.declared.kinds.Part.{Part}

-- both are made of the same links, one by one
pub each_mapped : {A : Type 0} (R : Option (Reach × Position) → Position → Type 0) (visit : A → Visit) (position : A → Position)
    → ((x : A) → R (visit x).into (position x)) → (xs : List A) → Each R (map visit xs) (map position xs)
each_mapped R visit position h [] = tt
each_mapped R visit position h (x ∷ xs) = (h x, each_mapped R visit position h xs)

-- a part is gone into at its position where the range meets it
met_part_stands : (met : Bool) (low high size : ℕ)
    → Stands (if met then record { met = []; into = Some (ranged low high, part size) } else passed_over).into (part size)
met_part_stands true low high size = refl
met_part_stands false low high size = tt

-- the parts that a range meets
parts_stand : (low high from : ℕ) (parts : List Part) → Each Stands (part_visits low high from parts) (map (λ p. part p.size) parts)
parts_stand low high from [] = tt
parts_stand low high from (p ∷ parts) =
    (met_part_stands (is_met low high from p.size) (low - from) (high - from) p.size, parts_stand low high (from + p.size) parts)

-- the parts of a file
file_stands : (reach : Reach) (inline : List ℕ) (parts : List Part) → Each Stands (file_visits reach inline parts) (map (λ p. part p.size) parts)
file_stands (bundled path) inline parts = each_mapped Stands (λ p. record { met = []; into = Some (entire, part p.size) }) (λ p. part p.size) (λ p. refl) parts
file_stands entire inline parts = each_mapped Stands (λ p. record { met = []; into = Some (entire, part p.size) }) (λ p. part p.size) (λ p. refl) parts
file_stands (ranged low high) inline parts = parts_stand low high (length inline) parts
file_stands listed inline parts = each_mapped Stands (λ p. passed_over) (λ p. part p.size) (λ p. tt) parts

-- an entry of a directory
entry_stands : (reach : Reach) (name : List ℕ) (cid : CidParts) → Stands (entry_visit reach name cid).into top
entry_stands (bundled path) name cid = refl
entry_stands _ name cid = tt

-- a slot is an entry or a child shard
pub slot_stands : (reach : Reach) (position : Position) (number : ℕ) (cid : CidParts) (name : Option (List ℕ))
    → Stands (visit_by_name reach position number cid name).into (position_by_name (passed position ++ number ∷ []) name)
slot_stands reach position number cid (Some name) = entry_stands reach name cid
slot_stands (bundled path) position number cid None = refl
slot_stands listed position number cid None = refl
slot_stands _ position number cid None = tt

-- whatever the reach, each child is gone into at its position
pub visits_stand : (reach : Reach) (position : Position) (kind : Kind) → Each Stands (visits reach position kind) (positions position kind)
visits_stand reach position Raw = tt
visits_stand reach position (File inline filesize parts) = file_stands reach inline parts
visits_stand reach position (Basic entries) = each_mapped Stands (λ e. entry_visit reach e.name e.cid) (λ entry. top) (λ e. entry_stands reach e.name e.cid) entries
visits_stand reach position (Shard slots) =
    each_mapped Stands (slot_visit reach position) (slot_position (passed position)) (λ s. slot_stands reach position s.slot s.cid s.name) slots
visits_stand reach position (Symlink target) = tt
