-- Names by the slots of their hashes: how many of a folder's names stand behind some slots.
use Rattle.std.proofs.Common.{Bool, List, None, Some, [], ap, arith, cond, false, length, refl, subst, suc, true, zero, ℕ, ◌*◌, ◌++◌, ◌+◌, ◌<◌, ◌∷◌, ◌≡◌, ◌≤◌}
use Rattle.std.proofs.lemmas.Bool.{cond_both, eqb-true}
use Rattle.std.proofs.lemmas.Bool.Decides.{nat_tests}
use Rattle.std.proofs.lemmas.Slice.Eq.{bytes_eq-Decides}
use Rattle.std.specs.Map.{keys_of, lookup}
use Rattle.std.specs.Prelude.{bytes_eq, filter, if◌then◌else◌, nat_lt, not, ⊤, ◌&&◌, ◌==◌}
use Rattle.tg_model.specs.Reading.{below, used_slots}
use Rattle.tg_model.specs.Sound.{has_slots, is_misplaced, is_name_elsewhere, misplaced_from, shard_fault}
use Rattle.tg_model.specs.declared.fault.BlockFault.TheVariants as faults
use Rattle.tg_model.specs.declared.kinds.Slot.{Slot}
use Rattle.tg_murmur.specs.NameHash.{slot_of}
use Rattle.tg_tree.specs.declared.tree.Tree.{Tree}

-- ---- tests

pub and_both : (a b : Bool) → a && b ≡ true → (a ≡ true) × (b ≡ true)
and_both true true h = (refl, refl)
and_both true false h = absurd (cc h)
and_both false b h = absurd (cc h)

and_true : (a b : Bool) → a ≡ true → b ≡ true → a && b ≡ true
and_true true true h k = refl
and_true true false h k = absurd (cc k)
and_true false b h k = absurd (cc h)

not_less : (n low : ℕ) → low ≤ n → not (nat_lt n low) ≡ true
not_less n low le = by (nat_lt n low) refl
  where
    by : (b : Bool) → nat_lt n low ≡ b → not b ≡ true
    by true e = absurd (grind (arith, nat_tests, e, le))
    by false e = refl

no_less : (n low : ℕ) → not (nat_lt n low) ≡ true → low ≤ n
no_less n low h = by (nat_lt n low) refl h
  where
    by : (b : Bool) → nat_lt n low ≡ b → not b ≡ true → low ≤ n
    by true e wrong = absurd (cc wrong)
    by false e right = grind (arith, nat_tests, e)

-- ---- how many pass a test

abbrev one_if : Bool → ℕ
one_if true = 1
one_if false = 0

abbrev pub count : (List ℕ → Bool) → List (List ℕ) → ℕ
count p [] = 0
count p (k ∷ ks) = one_if (p k) + count p ks

one_most : (p q r : Bool) → (p ≡ true → r ≡ true) → (q ≡ true → r ≡ true) → (p ≡ true → q ≡ true → ⊥) → one_if p + one_if q ≤ one_if r
one_most true true r pr qr apart = absurd (apart refl refl)
one_most true false true pr qr apart = omega arith
one_most true false false pr qr apart = absurd (let no : false ≡ true = pr refl in cc no)
one_most false true true pr qr apart = omega arith
one_most false true false pr qr apart = absurd (let no : false ≡ true = qr refl in cc no)
one_most false false r pr qr apart = omega arith

one_less : (p r : Bool) → (p ≡ true → r ≡ true) → one_if p ≤ one_if r
one_less true true pr = omega arith
one_less true false pr = absurd (let no : false ≡ true = pr refl in cc no)
one_less false r pr = omega arith

one_few : (p : Bool) → one_if p ≤ 1
one_few true = omega arith
one_few false = omega arith

pub count_both : (p q r : List ℕ → Bool) → ((k : List ℕ) → one_if (p k) + one_if (q k) ≤ one_if (r k)) → (ks : List (List ℕ))
    → count p ks + count q ks ≤ count r ks
count_both p q r h [] = omega arith
count_both p q r h (k ∷ ks) = let here = h k in let there = count_both p q r h ks in omega (arith, here, there)

pub count_more : (p r : List ℕ → Bool) → ((k : List ℕ) → p k ≡ true → r k ≡ true) → (ks : List (List ℕ)) → count p ks ≤ count r ks
count_more p r h [] = omega arith
count_more p r h (k ∷ ks) = let here = one_less (p k) (r k) (h k) in let there = count_more p r h ks in omega (arith, here, there)

pub count_most : (p : List ℕ → Bool) (ks : List (List ℕ)) → count p ks ≤ length ks
count_most p [] = omega arith
count_most p (k ∷ ks) = let here = one_few (p k) in let there = count_most p ks in omega (arith, here, there)

-- a name that is found and passes is counted
pub count_found : (p : List ℕ → Bool) (es : List (List ℕ × Tree)) (name : List ℕ) (b : Tree) → lookup (bytes_eq name) es ≡ Some b → p name ≡ true
    → 1 ≤ count p (keys_of es)
count_found p [] name b h is = absurd (cc h)
count_found p (e ∷ es) name b h is = by (bytes_eq name e.0) refl h (λ g. count_found p es name b g is)
  where
    by : (t : Bool) → bytes_eq name e.0 ≡ t → cond t (Some e.1) (lookup (bytes_eq name) es) ≡ Some b
        → (lookup (bytes_eq name) es ≡ Some b → 1 ≤ count p (keys_of es))
        → 1 ≤ count p (keys_of (e ∷ es))
    by true same h on =
        let passes : p e.0 ≡ true = subst (λ (n : List ℕ). p n ≡ true) ((bytes_eq-Decides name e.0).0 same) is in
        let one : one_if (p e.0) ≡ 1 = ap one_if passes in
        omega (arith, one)
    by false other h on = let rest = on h in omega (arith, rest)

-- ---- ascending numbers

abbrev pub Ascend : ℕ → List ℕ → Type 0
Ascend low [] = ⊤
Ascend low (n ∷ ns) = (low ≤ n) × Ascend (n + 1) ns

wider : (ns : List ℕ) (low more : ℕ) → low ≤ more → Ascend more ns → Ascend low ns
wider [] low more le h = tt
wider (n ∷ ns) low more le h = ((let k = h.0 in omega (arith, le, k)), h.1)

ascend_filter : (p : ℕ → Bool) (ns : List ℕ) (low : ℕ) → Ascend low ns → Ascend low (filter p ns)
ascend_filter p [] low h = tt
ascend_filter p (n ∷ ns) low h =
    let rest : Ascend (n + 1) (filter p ns) = ascend_filter p ns (n + 1) h.1 in
    cond_both (p n) (n ∷ filter p ns) (filter p ns) (λ xs. Ascend low xs) (λ _. (h.0, rest))
    (λ _. wider (filter p ns) low (n + 1) (let k = h.0 in omega (arith, k)) rest)

abbrev AllBelow : ℕ → List ℕ → Type 0
AllBelow high [] = ⊤
AllBelow high (n ∷ ns) = (n < high) × AllBelow high ns

push_below : (ns : List ℕ) (low n : ℕ) → low ≤ n → Ascend low ns → AllBelow n ns → Ascend low (ns ++ n ∷ [])
push_below [] low n le h all = (le, tt)
push_below (m ∷ ns) low n le h all = (h.0, push_below ns (m + 1) n (let k = all.0 in omega (arith, k)) h.1 all.1)

below_push : (ns : List ℕ) (n : ℕ) → AllBelow n ns → AllBelow (suc n) (ns ++ n ∷ [])
below_push [] n h = (omega arith, tt)
below_push (m ∷ ns) n h = ((let k = h.0 in omega (arith, k)), below_push ns n h.1)

below_all : (n : ℕ) → AllBelow n (below n)
below_all zero = tt
below_all (suc n) = below_push (below n) n (below_all n)

below_ascend : (n : ℕ) → Ascend 0 (below n)
below_ascend zero = tt
below_ascend (suc n) = push_below (below n) 0 n (omega arith) (below_ascend n) (below_all n)

pub used_ascend : (bits : List ℕ) → Ascend 0 (used_slots bits)
used_ascend bits = ascend_filter _ (below (8 * length bits)) 0 (below_ascend (8 * length bits))

-- ---- names behind slots

pub has_split : (name above : List ℕ) (slot level : ℕ) → has_slots name level (above ++ slot ∷ []) ≡ true
    → (has_slots name level above ≡ true) × (slot_of name (level + length above) ≡ slot)
has_split name [] slot level h =
    let two = and_both (slot_of name level == slot) true h in
    let none : level ≡ level + 0 = omega arith in
    (refl, subst (λ (n : ℕ). slot_of name n ≡ slot) none (eqb-true (slot_of name level) slot two.0))
has_split name (s ∷ above) slot level h =
    let two = and_both (slot_of name level == s) (has_slots name (level + 1) (above ++ slot ∷ [])) h in
    let rest = has_split name above slot (level + 1) two.1 in
    let same : (level + 1) + length above ≡ level + suc (length above) = omega arith in
    (and_true (slot_of name level == s) (has_slots name (level + 1) above) two.0 rest.0, subst (λ (n : ℕ). slot_of name n ≡ slot) same rest.1)

-- a name stands behind the slots, and its next one isn't below a number
abbrev pub is_behind : List ℕ → ℕ → List ℕ → Bool
is_behind above low name = has_slots name 0 above && not (nat_lt (slot_of name (length above)) low)

pub slot_step : (above : List ℕ) (slot low : ℕ) → low ≤ slot → (ks : List (List ℕ))
    → count (λ k. has_slots k 0 (above ++ slot ∷ [])) ks + count (is_behind above (slot + 1)) ks ≤ count (is_behind above low) ks
slot_step above slot low le ks = count_both (λ k. has_slots k 0 (above ++ slot ∷ [])) (is_behind above (slot + 1)) (is_behind above low) each ks
  where
    here : (name : List ℕ) → has_slots name 0 (above ++ slot ∷ []) ≡ true → (has_slots name 0 above ≡ true) × (slot_of name (length above) ≡ slot)
    here name h =
        let two = has_split name above slot 0 h in
        let same : 0 + length above ≡ length above = omega arith in
        (two.0, subst (λ (n : ℕ). slot_of name n ≡ slot) same two.1)

    each : (name : List ℕ)
        → one_if (has_slots name 0 (above ++ slot ∷ [])) + one_if (is_behind above (slot + 1) name) ≤ one_if (is_behind above low name)
    each name = one_most (has_slots name 0 (above ++ slot ∷ [])) (is_behind above (slot + 1) name) (is_behind above low name)
        (λ p. let two = here name p in let is = two.1 in
        and_true (has_slots name 0 above) (not (nat_lt (slot_of name (length above)) low)) two.0
        (not_less (slot_of name (length above)) low (omega (arith, is, le))))
        (λ q. let two = and_both (has_slots name 0 above) (not (nat_lt (slot_of name (length above)) (slot + 1))) q in
        let more = no_less (slot_of name (length above)) (slot + 1) two.1 in
        and_true (has_slots name 0 above) (not (nat_lt (slot_of name (length above)) low)) two.0
        (not_less (slot_of name (length above)) low (omega (arith, more, le))))
        (λ p q. let two = here name p in let is = two.1 in
        let other = and_both (has_slots name 0 above) (not (nat_lt (slot_of name (length above)) (slot + 1))) q in
        let more = no_less (slot_of name (length above)) (slot + 1) other.1 in
        omega (arith, is, more))

pub behind_first : (above : List ℕ) (low : ℕ) (name : List ℕ) → is_behind above low name ≡ true → has_slots name 0 above ≡ true
behind_first above low name h = (and_both (has_slots name 0 above) (not (nat_lt (slot_of name (length above)) low)) h).0

-- ---- shards without a fault

pub none_misplaced : (at : ℕ) (above : List ℕ) (slot : Slot) (slots : List Slot) → misplaced_from at above (slot ∷ slots) ≡ None
    → (is_misplaced above slot ≡ false) × (misplaced_from (at + 1) above slots ≡ None)
none_misplaced at above slot slots h = by (is_misplaced above slot) refl h
  where
    by : (b : Bool) → is_misplaced above slot ≡ b → (if b then Some (faults.Misplaced at) else misplaced_from (at + 1) above slots) ≡ None
        → (is_misplaced above slot ≡ false) × (misplaced_from (at + 1) above slots ≡ None)
    by true e wrong = absurd (cc wrong)
    by false e rest = (e, rest)

pub stands_there : (name slots : List ℕ) → is_name_elsewhere slots (Some name) ≡ false → has_slots name 0 slots ≡ true
stands_there name slots h = by (has_slots name 0 slots) h
  where
    by : (b : Bool) → not b ≡ false → b ≡ true
    by true e = refl
    by false e = absurd (cc e)

pub few_above : (above : List ℕ) (slots : List Slot) → shard_fault above slots ≡ None → (length above ≤ 7) × (misplaced_from 0 above slots ≡ None)
few_above above slots h = by (nat_lt 7 (length above)) refl h
  where
    by : (b : Bool) → nat_lt 7 (length above) ≡ b → (if b then Some faults.BelowEight else misplaced_from 0 above slots) ≡ None
        → (length above ≤ 7) × (misplaced_from 0 above slots ≡ None)
    by true e wrong = absurd (cc wrong)
    by false e rest = (grind (arith, nat_tests, e), rest)
