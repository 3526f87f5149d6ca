-- When a range meets a part, and when a shard may stand behind the slots that were passed.
use Rattle.std.proofs.Common.{◌≡◌, ◌↔◌, ◌≤◌, ◌<◌, ◌+◌, ◌++◌, ◌∷◌, ℕ, zero, suc, Bool, true, false, cond, not, List, [], All, Option, Some, None, length, max, nat_lt, refl, ap, ◌∙◌, arith}
use Rattle.std.proofs.lemmas.Bool.{and_from, and_parts, eq-eqb, eqb-true, le-ltb, lt-ltb, ltb-false, ltb-true}
use Rattle.std.proofs.lemmas.List.Elements.{All-cons, All-head, All-nil, All-tail}
use Rattle.std.specs.Prelude.{◌==◌, slice_get}
use Rattle.tg_model_laws.specs.Places.{LiesInBoth, MayStand, StandsBehind}
use Rattle.tg_model.specs.Sound.{has_slots, is_misplaced, is_name_elsewhere, misplaced_from, shard_fault}
use Rattle.tg_model.specs.Traversal.{is_met}
use Rattle.tg_model.specs.declared.fault.BlockFault.{BlockFault}
use Rattle.tg_model.specs.declared.fault.BlockFault.TheVariants as faults
use Rattle.tg_model.specs.declared.kinds.Slot.{Slot}
use Rattle.tg_murmur.specs.NameHash.{slot_of}

-- ---- parts

met_bytes : (low high from size : ℕ) → is_met low high from size ≡ true → LiesInBoth low high from size
met_bytes low high from size e =
    let some = and_parts (nat_lt 0 size) _ e in
    let range = and_parts (nat_lt low high) _ some.1 in
    let ends = and_parts (nat_lt from high) _ range.1 in
    let h = ltb-true 0 size some.0 in
    let k = ltb-true low high range.0 in
    let m = ltb-true from high ends.0 in
    let n = ltb-true low (from + size) ends.1 in
    record { byte = max low from; range_begins = omega arith; range_ends = omega arith; part_begins = omega arith; part_ends = omega arith }

bytes_met : (low high from size : ℕ) → LiesInBoth low high from size → is_met low high from size ≡ true
bytes_met low high from size h =
    let byte : ℕ = h.byte in
    let a : low ≤ byte = h.range_begins in
    let b : byte < high = h.range_ends in
    let c : from ≤ byte = h.part_begins in
    let d : byte < from + size = h.part_ends in
    and_from (nat_lt 0 size) _ (lt-ltb 0 size (omega arith))
    (and_from (nat_lt low high) _ (lt-ltb low high (omega arith))
    (and_from (nat_lt from high) _ (lt-ltb from high (omega arith)) (lt-ltb low (from + size) (omega arith))))

pub met_by_bytes : (low high from size : ℕ) → (is_met low high from size ≡ true) ↔ LiesInBoth low high from size
met_by_bytes low high from size = (met_bytes low high from size, bytes_met low high from size)

-- ---- shards

-- a name's slots from a level on
abbrev HasSlotsFrom : List ℕ → ℕ → List ℕ → Type 0
HasSlotsFrom name from slots = (level slot : ℕ) → slice_get slots level ≡ Some slot → slot_of name (from + level) ≡ slot

has_each : (name : List ℕ) (from : ℕ) (slots : List ℕ) → has_slots name from slots ≡ true → HasSlotsFrom name from slots
has_each name from [] h level slot e = absurd (cc)
has_each name from (first ∷ slots) h zero slot e =
    let parts = and_parts (slot_of name from == first) (has_slots name (from + 1) slots) h in
    let here : slot_of name from ≡ first = eqb-true (slot_of name from) first parts.0 in
    let same : first ≡ slot = cc in
    let level : from + 0 ≡ from = omega arith in
    ap (slot_of name) level ∙ here ∙ same
has_each name from (first ∷ slots) h (suc level) slot e =
    let parts = and_parts (slot_of name from == first) (has_slots name (from + 1) slots) h in
    let next : from + suc level ≡ (from + 1) + level = omega arith in
    ap (slot_of name) next ∙ has_each name (from + 1) slots parts.1 level slot e

each_has : (name : List ℕ) (from : ℕ) (slots : List ℕ) → HasSlotsFrom name from slots → has_slots name from slots ≡ true
each_has name from [] h = refl
each_has name from (first ∷ slots) h =
    let level : from ≡ from + 0 = omega arith in
    let here : slot_of name from ≡ first = ap (slot_of name) level ∙ h 0 first refl in
    and_from (slot_of name from == first) (has_slots name (from + 1) slots) (eq-eqb (slot_of name from) first here)
    (each_has name (from + 1) slots (λ level slot e. let next : (from + 1) + level ≡ from + suc level = omega arith in ap (slot_of name) next ∙ h (suc level) slot e))

-- a test that isn't passed, turned
not_true : (test : Bool) → not test ≡ false → test ≡ true
not_true true e = refl
not_true false e = cc

stands : (slots : List ℕ) (name : Option (List ℕ)) → is_name_elsewhere slots name ≡ false → StandsBehind slots name
stands slots (Some name) e = λ level slot here. let same : level ≡ 0 + level = omega arith in ap (slot_of name) same ∙ has_each name 0 slots (not_true (has_slots name 0 slots) e) level slot here
stands slots None e = tt

stood : (slots : List ℕ) (name : Option (List ℕ)) → StandsBehind slots name → is_name_elsewhere slots name ≡ false
stood slots (Some name) h = ap not (each_has name 0 slots (λ level slot here. let same : 0 + level ≡ level = omega arith in ap (slot_of name) same ∙ h level slot here))
stood slots None h = refl

-- a first fault that isn't there, or is none
pub no_first : (test : Bool) (fault : BlockFault) (later : Option BlockFault) → cond test (Some fault) later ≡ None → (test ≡ false) × (later ≡ None)
no_first true fault later h = cc
no_first false fault later h = (refl, h)

none_first : (test : Bool) (fault : BlockFault) (later : Option BlockFault) → test ≡ false → later ≡ None → cond test (Some fault) later ≡ None
none_first true fault later h g = cc
none_first false fault later h g = g

-- the entry in a slot stands behind the slots of its name
abbrev IsPlaced : List ℕ → Slot → Type 0
IsPlaced above slot = StandsBehind (above ++ slot.slot ∷ []) slot.name

each_stands : (at : ℕ) (above : List ℕ) (slots : List Slot) → misplaced_from at above slots ≡ None → All (λ slot. StandsBehind (above ++ slot.slot ∷ []) slot.name) slots
each_stands at above [] h = All-nil (IsPlaced above)
each_stands at above (slot ∷ slots) h =
    let parts = no_first (is_misplaced above slot) (faults.Misplaced at) (misplaced_from (at + 1) above slots) h in
    All-cons (IsPlaced above) slot slots (stands (above ++ slot.slot ∷ []) slot.name parts.0) (each_stands (at + 1) above slots parts.1)

each_stood : (at : ℕ) (above : List ℕ) (slots : List Slot) → All (λ slot. StandsBehind (above ++ slot.slot ∷ []) slot.name) slots → misplaced_from at above slots ≡ None
each_stood at above [] h = refl
each_stood at above (slot ∷ slots) h =
    none_first (is_misplaced above slot) (faults.Misplaced at) (misplaced_from (at + 1) above slots) (stood (above ++ slot.slot ∷ []) slot.name (All-head (IsPlaced above) slot slots h))
    (each_stood (at + 1) above slots (All-tail (IsPlaced above) slot slots h))

pub faultless_shard : (above : List ℕ) (slots : List Slot) → (shard_fault above slots ≡ None) ↔ MayStand above slots
faultless_shard above slots = (
  (λ h.
      let parts = no_first (nat_lt 7 (length above)) faults.BelowEight (misplaced_from 0 above slots) h in
      record { few = ltb-false 7 (length above) parts.0; entries = each_stands 0 above slots parts.1 }),
  λ h. none_first (nat_lt 7 (length above)) faults.BelowEight (misplaced_from 0 above slots) (le-ltb 7 (length above) h.few) (each_stood 0 above slots h.entries),
)
