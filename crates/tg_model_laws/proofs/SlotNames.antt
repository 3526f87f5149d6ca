-- An entry stands behind the slots of its name, so behind other slots no shard has an entry of that name.
use Rattle.std.proofs.Common.{◌≡◌, ℕ, ◌+◌, ◌≤◌, true, false, cond, not, List, [], ◌∷◌, ◌++◌, map, length, Option, Some, None, inl, inr, refl, sym, ap, ◌∙◌, arith}
use Rattle.std.specs.Prelude.{◌==◌, bytes_eq, nat_lt}
use Rattle.std.proofs.lemmas.Bool.{and_cases, and_left, and_right, cond_both, ne_eqb, not-false}
use Rattle.std.proofs.lemmas.Slice.Eq.{bytes_eq-Decides}
use Rattle.tg_model_laws.proofs.SlotNumbers.{Ascends, AreAscending, numbers_of, reads_ascending}
use Rattle.tg_model_laws.proofs.PlaceLaws.{no_first}
use Rattle.tg_model.specs.Content.{DirEntry, entries, entries_of_slots, slot_entries}
use Rattle.tg_model.specs.Dag.{Dag, Children, Section, with_child, node}
use Rattle.tg_model.specs.Lookup.{entry_named}
use Rattle.tg_model.specs.Sound.{AreCheckedAt, IsCheckedAt, IsNodeAt, Position, child, has_slots, is_misplaced, is_name_elsewhere, misplaced_from, part, passed, position_by_name, position_fault, shard_fault, slot_position, top}
use Rattle.tg_model.specs.declared.kinds.Kind.TheVariants.{Basic, Shard}
use Rattle.tg_model.specs.declared.kinds.Slot.{Slot}
use Rattle.tg_murmur.specs.NameHash.{slot_of}

-- ---- slots of names

-- a name that doesn't have these slots has no more of them either
lacks_more : (name : List ℕ) (slots : List ℕ) (level slot : ℕ) → has_slots name level slots ≡ false → has_slots name level (slots ++ slot ∷ []) ≡ false
lacks_more name [] level slot h = cc
lacks_more name (s ∷ slots) level slot h = elim (and_cases (slot_of name level == s) (has_slots name (level + 1) slots) h) [
  | inl here ↦ and_left (slot_of name level == s) (has_slots name (level + 1) (slots ++ slot ∷ [])) here
  | inr later ↦ and_right (slot_of name level == s) (has_slots name (level + 1) (slots ++ slot ∷ [])) (lacks_more name slots (level + 1) slot later)
]

-- nor has a name one more slot that isn't its slot at that level
pub lacks_other : (name slots : List ℕ) (level at slot : ℕ) → at ≡ level + length slots → (slot ≡ slot_of name at → ⊥) → has_slots name level (slots ++ slot ∷ []) ≡ false
lacks_other name [] level at slot e h =
    let here : at ≡ level = omega arith in
    and_left (slot_of name level == slot) true (ne_eqb (slot_of name level) slot (λ q. h (sym q ∙ ap (slot_of name) (sym here))))
lacks_other name (s ∷ slots) level at slot e h =
    and_right (slot_of name level == s) (has_slots name (level + 1) (slots ++ slot ∷ [])) (lacks_other name slots (level + 1) at slot (omega arith) h)

-- ---- the children of a shard

-- the slots of a shard behind the slots `above`, or its last ones, with their children: their numbers ascend from `low` on
pub record StandBehind (above : List ℕ) (low : ℕ) (slots : List Slot) (children : Children) : Type 0 where
  pub at : ℕ
  pub high : ℕ
  pub ascends : Ascends low high (numbers_of slots)
  pub placed : misplaced_from at above slots ≡ None
  pub checked : AreCheckedAt (map (slot_position above) slots) children

-- the slots behind the first
pub rest_stand : (above : List ℕ) (low : ℕ) (slot : Slot) (slots : List Slot) (d : Dag) (children : Children) → StandBehind above low (slot ∷ slots) (with_child d children) → StandBehind above (slot.slot + 1) slots children
rest_stand above low slot slots d children h = record {
  at = h.at + 1;
  high = h.high;
  ascends = h.ascends.1;
  placed = (no_first (is_misplaced above slot) _ _ h.placed).1;
  checked = h.checked.1;
}

-- the first slot's entry stands behind the slots of its name
pub first_placed : (above : List ℕ) (low : ℕ) (slot : Slot) (slots : List Slot) (d : Dag) (children : Children) → StandBehind above low (slot ∷ slots) (with_child d children) → is_misplaced above slot ≡ false
first_placed above low slot slots d children h = (no_first (is_misplaced above slot) _ _ h.placed).0

-- what a shard has to be where it stands
no_shard_fault : (position : Position) (slots : List Slot) → position_fault position (Shard slots) ≡ None → shard_fault (passed position) slots ≡ None
no_shard_fault top slots h = h
no_shard_fault (part size) slots h = cc
no_shard_fault (child above) slots h = h

-- all the slots of a shard
pub shard_stands : (position : Position) (section : Section) (slots : List Slot) (children : Children) → IsNodeAt position section (Shard slots) children → AreCheckedAt (map (slot_position (passed position)) slots) children
    → StandBehind (passed position) 0 slots children
shard_stands position section slots children h checked =
    let ascending : AreAscending slots = reads_ascending section.cid section.block slots h.reads in
    record {
      at = 0;
      high = ascending.high;
      ascends = ascending.ascends;
      placed = (no_first (nat_lt 7 (length (passed position))) _ _ (no_shard_fault position slots h.stands)).1;
      checked = checked;
    }

-- ---- entries of a name

-- a name is looked for in the second list where it isn't in the first
pub named_behind : (name : List ℕ) (es fs : List DirEntry) → entry_named name es ≡ None → entry_named name (es ++ fs) ≡ entry_named name fs
named_behind name [] fs h = refl
named_behind name (e ∷ es) fs h = elim (bytes_eq name e.name) as (λ b. cond b (Some e.dag) (entry_named name es) ≡ None → cond b (Some e.dag) (entry_named name (es ++ fs)) ≡ entry_named name fs) [
  | true ↦ λ some. cc
  | false ↦ λ none. named_behind name es fs none
] h

-- and in the first where it isn't in the second
pub named_before : (name : List ℕ) (es fs : List DirEntry) → entry_named name fs ≡ None → entry_named name (es ++ fs) ≡ entry_named name es
named_before name [] fs h = h
named_before name (e ∷ es) fs h = ap (λ (o : Option Dag). cond (bytes_eq name e.name) (Some e.dag) o) (named_before name es fs h)

-- an entry behind its slots has another name than one that lacks them
other_name : (name other slots : List ℕ) (d : Dag) → has_slots name 0 slots ≡ false → not (has_slots other 0 slots) ≡ false → entry_named name (record { name = other; dag = d } ∷ []) ≡ None
other_name name other slots d lacks has =
    cond_both (bytes_eq name other) (Some d) None (λ o. o ≡ None)
    (λ e. let same : name ≡ other = (bytes_eq-Decides name other).0 e in let there = not-false (has_slots other 0 slots) has in cc)
    (λ _. refl)

-- so a slot that is placed right has no entry of a name that lacks its slots
pub slot_lacks : (own : Option (List ℕ)) (name slots : List ℕ) (d : Dag) → has_slots name 0 slots ≡ false → is_name_elsewhere slots own ≡ false → IsCheckedAt (position_by_name slots own) d
    → (IsCheckedAt (child slots) d → entry_named name (entries d) ≡ None) → entry_named name (slot_entries own d (entries d)) ≡ None
slot_lacks (Some other) name slots d lacks placed checked inner = other_name name other slots d lacks placed
slot_lacks None name slots d lacks placed checked inner = inner checked

mutual
  -- a child shard behind other slots than a name's has no entry of that name
  pub child_lacks : (d : Dag) (name above : List ℕ) → has_slots name 0 above ≡ false → IsCheckedAt (child above) d → entry_named name (entries d) ≡ None
  child_lacks (node section (Basic es) children) name above lacks h = let e = h.0.stands in cc
  child_lacks (node section (Shard slots) children) name above lacks h =
      slots_lack children slots name above 0 (shard_stands (child above) section slots children h.0 h.1) (λ s _. lacks_more name above 0 s lacks)
  child_lacks _ name above lacks h = refl

  -- nor have slots whose numbers the name doesn't have
  pub slots_lack : (children : Children) (slots : List Slot) (name above : List ℕ) (low : ℕ) → StandBehind above low slots children → ((s : ℕ) → low ≤ s → has_slots name 0 (above ++ s ∷ []) ≡ false)
      → entry_named name (entries_of_slots slots children) ≡ None
  slots_lack (with_child d children) (slot ∷ slots) name above low h lacks =
      let here = lacks slot.slot h.ascends.0 in
      let first = slot_lacks slot.name name (above ++ slot.slot ∷ []) d here (first_placed above low slot slots d children h) h.checked.0 (child_lacks d name (above ++ slot.slot ∷ []) here) in
      let rest = slots_lack children slots name above (slot.slot + 1) (rest_stand above low slot slots d children h) (λ s le. lacks s (let first_le : low ≤ slot.slot = h.ascends.0 in omega arith)) in
      named_behind name (slot_entries slot.name d (entries d)) (entries_of_slots slots children) first ∙ rest
  slots_lack _ _ name above low h lacks = refl
