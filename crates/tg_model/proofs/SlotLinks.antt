-- The links of a shard: what is computed of them is what the relation on slots says.
use Rattle.std.proofs.Common.{◌≡◌, ℕ, suc, ◌+◌, true, false, Option, Some, None, Ok, List, [], ◌∷◌, ◌++◌, length, take, drop, refl, sym, ap, ◌∙◌, subst, take-append-drop, inl, inr, arith}
use Rattle.std.specs.List.{AllByRecursion}
use Rattle.std.specs.Prelude.{nat_lt, not, ◌&&◌, unwrap_or, ◌/◌, ◌%◌}
use Rattle.std.specs.Fmt.{digit_glyph}
use Rattle.std.proofs.lemmas.Bool.{and_cases, and_left, and_right, ltb-false, le-ltb, not-false, not_from_true}
use Rattle.std.proofs.lemmas.Slice.Eq.{bytes_eq-Decides}
use Rattle.tg_cid.specs.Cid.{CidParts}
use Rattle.tg_dagpb.specs.declared.Link.{Link}
use Rattle.tg_model.proofs.ComputedSteps.{after_ok, after_told, ok_same, one_value, unless_ok, unless_told}
use Rattle.tg_model.proofs.NameTests.{good_decides}
use Rattle.tg_model.specs.Computed.{has_bad_suffix, has_digits, is_good_name, slot_at, slot_name, slots_from, suffix_of}
use Rattle.tg_model.specs.EntryNames.{IsGoodName}
use Rattle.tg_model.specs.Reading.{AreSlots, IsSlotLink, IsSlotName, name_of, slot_digits}
use Rattle.tg_model.specs.declared.kinds.Slot.{Slot}

-- ---- the name of a link

-- a name that begins with the digits is there
begins_with : (number : ℕ) (name : Option (List ℕ)) → take 2 (unwrap_or name []) ≡ slot_digits number
    → name ≡ Some (slot_digits number ++ drop 2 (unwrap_or name []))
begins_with number None e = absurd (cc)
begins_with number (Some name) e =
    ap (λ (xs : List ℕ). let o : Option (List ℕ) = Some xs in o) (sym (take-append-drop 2 name) ∙ ap (λ (front : List ℕ). front ++ drop 2 name) e)

-- what follows two bytes is nothing, or more, which is good where the test on it finds no fault
good_or_none : (name : List ℕ) → (nat_lt 2 (length name) && not (is_good_name (drop 2 name))) ≡ false → IsSlotName (drop 2 name) (slot_name (drop 2 name))
good_or_none [] e = refl
good_or_none (a ∷ []) e = refl
good_or_none (a ∷ b ∷ []) e = refl
good_or_none (a ∷ b ∷ first ∷ rest) e = elim (and_cases (nat_lt 2 (length (a ∷ b ∷ first ∷ rest))) (not (is_good_name (first ∷ rest))) e) [
  | inl short ↦ (let few = ltb-false 2 (length (a ∷ b ∷ first ∷ rest)) short in absurd (omega arith))
  | inr good ↦ (refl, (good_decides (first ∷ rest)).0 (not-false (is_good_name (first ∷ rest)) good))
]

-- the name of a slot is what follows the digits, where there is more
slot_name_is : (suffix : List ℕ) (name : Option (List ℕ)) → IsSlotName suffix name → slot_name suffix ≡ name
slot_name_is suffix None e = ap slot_name e
slot_name_is suffix (Some []) h = (let some = h.1.not_empty in absurd (omega arith))
slot_name_is suffix (Some (b ∷ name)) h = ap slot_name h.0

-- the test on what follows two bytes finds no fault in a slot's name
good_suffix : (a b : ℕ) (suffix : List ℕ) (name : Option (List ℕ)) → IsSlotName suffix name
    → (nat_lt 2 (length (a ∷ b ∷ suffix)) && not (is_good_name suffix)) ≡ false
good_suffix a b suffix None h =
    let short : length suffix ≡ 0 = ap (λ (xs : List ℕ). length xs) h in
    and_left (nat_lt 2 (length (a ∷ b ∷ suffix))) (not (is_good_name suffix)) (le-ltb 2 (length (a ∷ b ∷ suffix)) (omega arith))
good_suffix a b suffix (Some name) h =
    and_right (nat_lt 2 (length (a ∷ b ∷ suffix))) (not (is_good_name suffix))
    (not_from_true (is_good_name suffix) ((good_decides suffix).1 (subst (λ (n : List ℕ). IsGoodName n) (sym h.0) h.1)))

-- ---- one link

-- a link with the digits and no bad name is the slot that is computed
slot_told : (number : ℕ) (link : Link) (cid : CidParts) → has_digits number link ≡ true → has_bad_suffix link ≡ false
    → IsSlotLink number link cid (slot_at number link cid)
slot_told number link cid digits good = record {
  suffix = suffix_of link;
  begins = begins_with number link.name ((bytes_eq-Decides (take 2 (name_of link)) (slot_digits number)).0 digits);
  name_is = good_or_none (name_of link) good;
  number_is = refl;
  cid_is = refl;
}

-- a slot's link is named by the digits and what follows them
whole_name : (number : ℕ) (link : Link) (cid : CidParts) (slot : Slot) (h : IsSlotLink number link cid slot) → name_of link ≡ slot_digits number ++ h.suffix
whole_name number link cid slot h = ap (λ (o : Option (List ℕ)). unwrap_or o []) h.begins

-- a slot's link has the digits
digits_there : (number : ℕ) (link : Link) (cid : CidParts) (slot : Slot) → IsSlotLink number link cid slot → has_digits number link ≡ true
digits_there number link cid slot h =
    (bytes_eq-Decides (take 2 (name_of link)) (slot_digits number)).1 (ap (λ (n : List ℕ). take 2 n) (whole_name number link cid slot h))

-- and no bad name
no_bad_name : (number : ℕ) (link : Link) (cid : CidParts) (slot : Slot) → IsSlotLink number link cid slot → has_bad_suffix link ≡ false
no_bad_name number link cid slot h =
    ap (λ (n : List ℕ). nat_lt 2 (length n) && not (is_good_name (drop 2 n))) (whole_name number link cid slot h)
    ∙ good_suffix (digit_glyph true (number / 16)) (digit_glyph true (number % 16)) h.suffix slot.name h.name_is

-- slots with equal parts are equal
parts_same : (a b : ℕ) (m n : Option (List ℕ)) (c d : CidParts) → a ≡ b → m ≡ n → c ≡ d
    → ◌≡◌ {A = Slot} (record { slot = a; name = m; cid = c }) (record { slot = b; name = n; cid = d })
parts_same a b m n c d p q r = rw (p, q, r) refl

-- and is the slot that is computed
slot_is : (number : ℕ) (link : Link) (cid : CidParts) (slot : Slot) → IsSlotLink number link cid slot → slot_at number link cid ≡ slot
slot_is number link cid slot h =
    let suffix : suffix_of link ≡ h.suffix = ap (λ (n : List ℕ). drop 2 n) (whole_name number link cid slot h) in
    parts_same number slot.slot (slot_name (suffix_of link)) slot.name cid slot.cid (sym h.number_is)
    (ap slot_name suffix ∙ slot_name_is h.suffix slot.name h.name_is) (sym h.cid_is)

-- ---- all links

-- the links' names that are longer than the digits are good
abbrev pub HaveGoodNames : List Link → Type 0
HaveGoodNames links = AllByRecursion (λ link. has_bad_suffix link ≡ false) links

-- where slots are computed of as many numbers, links and CIDs, they are the links'
pub slots_told : (at : ℕ) (numbers : List ℕ) (links : List Link) (cids : List CidParts) (slots : List Slot) → length numbers ≡ length links → length links ≡ length cids
    → HaveGoodNames links → slots_from at numbers links cids ≡ Ok slots → AreSlots numbers links cids slots
slots_told at [] [] [] slots m n good e = subst (λ (s : List Slot). AreSlots [] [] [] s) (one_value [] slots e) tt
slots_told at (number ∷ numbers) (link ∷ links) (cid ∷ cids) slots m n good e =
    let (digits, more) = unless_told _ _ _ slots e in
    let (others, found, whole) = after_told _ _ slots more in
    subst (λ (s : List Slot). AreSlots (number ∷ numbers) (link ∷ links) (cid ∷ cids) s) (one_value (slot_at number link cid ∷ others) slots whole)
    (slot_told number link cid (not-false (has_digits number link) digits) good.0, slots_told (at + 1) numbers links cids others (omega arith) (omega arith) good.1 found)
slots_told at _ _ _ slots m n good e = absurd (omega arith)

-- the slots of links are computed of them
pub slots_ok : (at : ℕ) (numbers : List ℕ) (links : List Link) (cids : List CidParts) (slots : List Slot) → AreSlots numbers links cids slots
    → slots_from at numbers links cids ≡ Ok slots
slots_ok at [] [] [] [] h = refl
slots_ok at (number ∷ numbers) (link ∷ links) (cid ∷ cids) (slot ∷ slots) h =
    unless_ok _ _ _ (slot ∷ slots) (not_from_true (has_digits number link) (digits_there number link cid slot h.0))
    (after_ok _ _ slots (slot ∷ slots) (slots_ok (at + 1) numbers links cids slots h.1)
    (ok_same (slot_at number link cid ∷ slots) (slot ∷ slots) (ap (λ (s : Slot). s ∷ slots) (slot_is number link cid slot h.0))))
slots_ok at _ _ _ _ h = absurd h

-- they have as many numbers as links
pub slots_count : (numbers : List ℕ) (links : List Link) (cids : List CidParts) (slots : List Slot) → AreSlots numbers links cids slots → length numbers ≡ length links
slots_count [] [] [] [] h = refl
slots_count (number ∷ numbers) (link ∷ links) (cid ∷ cids) (slot ∷ slots) h = ap suc (slots_count numbers links cids slots h.1)
slots_count _ _ _ _ h = absurd h

-- and good names
pub slots_names : (numbers : List ℕ) (links : List Link) (cids : List CidParts) (slots : List Slot) → AreSlots numbers links cids slots → HaveGoodNames links
slots_names [] [] [] [] h = tt
slots_names (number ∷ numbers) (link ∷ links) (cid ∷ cids) (slot ∷ slots) h =
    (no_bad_name number link cid slot h.0, slots_names numbers links cids slots h.1)
slots_names _ _ _ _ h = absurd h
