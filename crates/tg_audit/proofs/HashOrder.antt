-- The entries of a sharded directory stand in the order of their names' hashes, which differ.
use Rattle.std.proofs.Common.{All, Contains, List, None, Option, Some, [], ap, arith, false, get_or, length, refl, subst, suc, sym, true, zero, ℕ, ◌%◌, ◌*◌, ◌++◌, ◌+◌, ◌/◌, ◌<◌, ◌∙◌, ◌∷◌, ◌≡◌, ◌≤◌, ◌^◌}
use Rattle.std.proofs.Common.{add-one}
use Rattle.std.proofs.Math.Nat.{div-add-mod, div-one, mod-eq_of_lt, mod-lt, mul-add-mod_self_left, mul-le-mul_right, one-le-pow}
use Rattle.std.proofs.lemmas.Bool.{eqb-true}
use Rattle.std.proofs.lemmas.Grind.{pow_more}
use Rattle.std.proofs.lemmas.List.Elements.{All-append, All-cons, All-contains, All-head, All-nil, All-tail}
use Rattle.std.specs.Int.{byte_at, bytes_high_first}
use Rattle.std.specs.Prelude.{map, ⊤, ◌==◌}
use Rattle.tg_audit.proofs.FileSizes.{IsAt}
use Rattle.tg_audit.proofs.FolderSizes.{AreAt, first_at, rest_at, shard_children}
use Rattle.tg_audit.proofs.Members.{all_from, first_one, other_one}
use Rattle.tg_audit.proofs.NameSlots.{Ascend, and_both, few_above, has_split, none_misplaced, stands_there, used_ascend}
use Rattle.tg_model.specs.Content.{DirEntry, entries, entries_of_slots, slot_entries}
use Rattle.tg_model.specs.Dag.{Children, Dag, Section, bare, no_child, node, unopened, with_child}
use Rattle.tg_model.specs.Sound.{child as child_position, has_slots, is_name_elsewhere, misplaced_from, position_by_name, slot_position, top}
use Rattle.tg_model.specs.declared.kinds.Kind.TheVariants.{Basic, File, Raw, Shard, Symlink}
use Rattle.tg_model.specs.declared.kinds.Slot.{Slot}
use Rattle.tg_murmur.specs.NameHash.{finished, name_hash, slot_of}

-- ---- bytes of numbers

-- the lowest bytes of a number
abbrev low_part : ℕ → ℕ → ℕ
low_part k n = n % 256 ^ k

byte_is : (k n : ℕ) → byte_at k n ≡ n / 256 ^ k % 256
byte_is zero n = ap (λ (q : ℕ). q % 256) (sym (div-one n))
byte_is (suc k) n = refl

-- one byte more
one_byte : (p n : ℕ) → 0 < p → n % (p * 256) ≡ (n / p % 256) * p + n % p
one_byte p n pos =
    let q : ℕ = n / p in
    let whole : n ≡ (p * 256) * (q / 256) + ((q % 256) * p + n % p) =
    (let one = div-add-mod n p in let two = div-add-mod q 256 in let three = ap (λ (x : ℕ). p * x) two in omega (arith, one, three)) in
    let small : q % 256 < 256 = mod-lt q {m = 256} (omega arith) in
    let rest : n % p < p = mod-lt n {m = p} pos in
    let most : (q % 256) * p + p ≤ p * 256 = (let h = mul-le-mul_right {m = q % 256 + 1} {n = 256} p (omega (arith, small)) in omega (arith, h)) in
    ap (λ (x : ℕ). x % (p * 256)) whole
    ∙ mul-add-mod_self_left (p * 256) (q / 256) ((q % 256) * p + n % p)
    ∙ mod-eq_of_lt {n = (q % 256) * p + n % p} {m = p * 256} (omega (arith, most, rest))

low_more : (k n : ℕ) → low_part (suc k) n ≡ byte_at k n * 256 ^ k + low_part k n
low_more k n =
    let power : 256 ^ suc k ≡ 256 ^ k * 256 = ap (λ (i : ℕ). 256 ^ i) (sym (add-one k)) ∙ pow_more 256 k in
    ap (λ (m : ℕ). n % m) power ∙ one_byte (256 ^ k) n (one-le-pow k 256 (omega arith)) ∙ ap (λ (b : ℕ). b * 256 ^ k + n % 256 ^ k) (sym (byte_is k n))

ahead : (x y p r q : ℕ) → y < x → r < p → y * p + r < x * p + q
ahead x y p r q less rest = let h = mul-le-mul_right {m = y + 1} {n = x} p (omega (arith, less)) in omega (arith, h, rest)

-- a number with a lower byte where those above are equal is lower
lower : (k j a b : ℕ) → j < k → ((i : ℕ) → i < j → get_or (bytes_high_first k a) i 0 ≡ get_or (bytes_high_first k b) i 0)
    → get_or (bytes_high_first k b) j 0 < get_or (bytes_high_first k a) j 0 → low_part k b < low_part k a
lower zero j a b lt same less = absurd (omega (arith, lt))
lower (suc k) zero a b lt same less =
    rw (low_more k a, low_more k b) (ahead (byte_at k a) (byte_at k b) (256 ^ k) (low_part k b) (low_part k a) less (mod-lt b {m = 256 ^ k} (one-le-pow k 256 (omega arith))))
lower (suc k) (suc j) a b lt same less =
    let head : byte_at k a ≡ byte_at k b = same 0 (omega arith) in
    let rest = lower k j a b (omega (arith, lt)) (λ i before. same (suc i) (omega (arith, before))) less in
    rw (low_more k a, low_more k b) (rw head (omega (arith, rest)))

-- ---- names behind the same slots

hash_fits : (name : List ℕ) → name_hash name < 2 ^ 64
unfolding name_hash finished
hash_fits name = omega arith

has_each : (name : List ℕ) (level : ℕ) (slots : List ℕ) → has_slots name level slots ≡ true → (i : ℕ) → i < length slots → slot_of name (level + i) ≡ get_or slots i 0
has_each name level [] h i lt = absurd (omega (arith, lt))
has_each name level (slot ∷ slots) h zero lt =
    let here = eqb-true (slot_of name level) slot (and_both (slot_of name level == slot) (has_slots name (level + 1) slots) h).0 in
    subst (λ (n : ℕ). slot_of name n ≡ slot) (let e : level ≡ level + 0 = omega arith in e) here
has_each name level (slot ∷ slots) h (suc i) lt =
    subst (λ (n : ℕ). slot_of name n ≡ get_or slots i 0) (let e : (level + 1) + i ≡ level + suc i = omega arith in e)
    (has_each name (level + 1) slots (and_both (slot_of name level == slot) (has_slots name (level + 1) slots) h).1 i (omega (arith, lt)))

first_each : (name above : List ℕ) → has_slots name 0 above ≡ true → (i : ℕ) → i < length above → slot_of name i ≡ get_or above i 0
first_each name above h i lt = subst (λ (n : ℕ). slot_of name n ≡ get_or above i 0) (let e : 0 + i ≡ i = omega arith in e) (has_each name 0 above h i lt)

-- a name with a lower slot has a lower hash
lower_hash : (a b above : List ℕ) → length above < 8 → has_slots a 0 above ≡ true → has_slots b 0 above ≡ true
    → slot_of a (length above) < slot_of b (length above) → name_hash a < name_hash b
lower_hash a b above few in_a in_b less =
    let under = lower 8 (length above) (name_hash b) (name_hash a) few
    (λ i lt. first_each b above in_b i lt ∙ sym (first_each a above in_a i lt)) less in
    let top_a : name_hash a % 256 ^ 8 ≡ name_hash a = mod-eq_of_lt {n = name_hash a} {m = 256 ^ 8} (hash_fits a) in
    let top_b : name_hash b % 256 ^ 8 ≡ name_hash b = mod-eq_of_lt {n = name_hash b} {m = 256 ^ 8} (hash_fits b) in
    omega (arith, under, top_a, top_b)

-- ---- lists of entries

abbrev IsAfter : DirEntry → DirEntry → Type 0
IsAfter e f = name_hash e.name < name_hash f.name

abbrev pub HashesRise : List DirEntry → Type 0
HashesRise [] = ⊤
HashesRise (e ∷ l) = All (λ f. name_hash e.name < name_hash f.name) l × HashesRise l

rise_both : (xs ys : List DirEntry) → HashesRise xs → HashesRise ys → ((x y : DirEntry) → Contains xs x → Contains ys y → name_hash x.name < name_hash y.name)
    → HashesRise (xs ++ ys)
rise_both [] ys h k apart = k
rise_both (x ∷ xs) ys h k apart = (
  All-append (IsAfter x) xs ys h.0 (all_from (IsAfter x) ys (λ y c. apart x y (first_one x xs) c)),
  rise_both xs ys h.1 k (λ u v in_xs in_ys. apart u v (other_one x u xs in_xs) in_ys),
)

-- ---- shards

-- an entry stands behind the slots, and not below a number there
abbrev IsBehind : List ℕ → ℕ → DirEntry → Type 0
IsBehind above low e = (has_slots e.name 0 above ≡ true) × (low ≤ slot_of e.name (length above))

record AreBehind (above : List ℕ) (low : ℕ) (l : List DirEntry) : Type 0 where
  each : All (IsBehind above low) l
  rise : HashesRise l

record AreInSlot (slots : List ℕ) (l : List DirEntry) : Type 0 where
  each : All (λ e. has_slots e.name 0 slots ≡ true) l
  rise : HashesRise l

abbrev IsIn : List ℕ → DirEntry → Type 0
IsIn slots e = has_slots e.name 0 slots ≡ true

in_slot : (slots : List ℕ) (name : Option (List ℕ)) (d : Dag) → is_name_elsewhere slots name ≡ false → IsAt (position_by_name slots name) d
    → (IsAt (child_position slots) d → AreInSlot slots (entries d)) → AreInSlot slots (slot_entries name d (entries d))
in_slot slots (Some name) d placed h inside = record {
  each = All-cons (IsIn slots) (record { name = name; dag = d }) [] (stands_there name slots placed) (All-nil (IsIn slots));
  rise = (All-nil (IsAfter (record { name = name; dag = d })), tt);
}
in_slot slots None d placed h inside = inside h

-- those of one slot, and those of the slots behind it
both_behind : (above : List ℕ) (slot low : ℕ) (xs ys : List DirEntry) → length above < 8 → low ≤ slot → AreInSlot (above ++ slot ∷ []) xs → AreBehind above (slot + 1) ys
    → AreBehind above low (xs ++ ys)
both_behind above slot low xs ys few le h k = record {
  each = All-append (IsBehind above low) xs ys (own xs h.each) (more ys k.each);
  rise = rise_both xs ys h.rise k.rise (λ x y in_xs in_ys.
      let here = split x (All-contains (IsIn (above ++ slot ∷ [])) xs x h.each in_xs) in
      let there = All-contains (IsBehind above (slot + 1)) ys y k.each in_ys in
      let is = here.1 in
      let least = there.1 in
      lower_hash x.name y.name above few here.0 there.0 (omega (arith, is, least)));
}
  where
    split : (e : DirEntry) → IsIn (above ++ slot ∷ []) e → (has_slots e.name 0 above ≡ true) × (slot_of e.name (length above) ≡ slot)
    split e h =
        let two = has_split e.name above slot 0 h in
        let same : 0 + length above ≡ length above = omega arith in
        (two.0, subst (λ (n : ℕ). slot_of e.name n ≡ slot) same two.1)

    own : (l : List DirEntry) → All (IsIn (above ++ slot ∷ [])) l → All (IsBehind above low) l
    own [] all = All-nil (IsBehind above low)
    own (e ∷ l) all =
        let two = split e (All-head (IsIn (above ++ slot ∷ [])) e l all) in
        let is = two.1 in
        All-cons (IsBehind above low) e l (two.0, omega (arith, is, le)) (own l (All-tail (IsIn (above ++ slot ∷ [])) e l all))

    more : (l : List DirEntry) → All (IsBehind above (slot + 1)) l → All (IsBehind above low) l
    more [] all = All-nil (IsBehind above low)
    more (e ∷ l) all =
        let two = All-head (IsBehind above (slot + 1)) e l all in
        let least = two.1 in
        All-cons (IsBehind above low) e l (two.0, omega (arith, least, le)) (more l (All-tail (IsBehind above (slot + 1)) e l all))

none_behind : (above : List ℕ) (low : ℕ) → AreBehind above low []
none_behind above low = record { each = All-nil (IsBehind above low); rise = tt }

in_all : (above : List ℕ) (l : List DirEntry) → AreBehind above 0 l → AreInSlot above l
in_all above l h = record { each = only l h.each; rise = h.rise }
  where
    only : (l : List DirEntry) → All (IsBehind above 0) l → All (IsIn above) l
    only [] all = All-nil (IsIn above)
    only (e ∷ l) all = All-cons (IsIn above) e l (All-head (IsBehind above 0) e l all).0 (only l (All-tail (IsBehind above 0) e l all))

slots_ascend : (section : Section) (slots : List Slot) (children : Children) (above : List ℕ) → IsAt (child_position above) (node section (Shard slots) children)
    → Ascend 0 (map (λ slot. slot.slot) slots)
slots_ascend section slots children above h = subst (Ascend 0) h.laid.1.bits_are.used (used_ascend h.laid.1.bits)

mutual
  slots_behind : (children : Children) (slots : List Slot) (above : List ℕ) (low at : ℕ) → length above < 8 → AreAt (map (slot_position above) slots) children
      → Ascend low (map (λ slot. slot.slot) slots) → misplaced_from at above slots ≡ None → AreBehind above low (entries_of_slots slots children)
  slots_behind no_child slots above low at few h ascend placed = none_behind above low
  slots_behind (with_child d children) [] above low at few h ascend placed = absurd h.checked
  slots_behind (with_child d children) (slot ∷ slots) above low at few h ascend placed =
      let own = none_misplaced at above slot slots placed in
      both_behind above slot.slot low (slot_entries slot.name d (entries d)) (entries_of_slots slots children) few ascend.0
      (in_slot (above ++ slot.slot ∷ []) slot.name d own.0
      (first_at (slot_position above slot) (map (slot_position above) slots) d children h)
      (λ stands. child_behind d (above ++ slot.slot ∷ []) stands))
      (slots_behind children slots above (slot.slot + 1) (at + 1) few
      (rest_at (slot_position above slot) (map (slot_position above) slots) d children h) ascend.1 own.1)

  child_behind : (d : Dag) (above : List ℕ) → IsAt (child_position above) d → AreInSlot above (entries d)
  child_behind (unopened cid) above h = absurd h.whole
  child_behind (bare section fault) above h = absurd h.whole
  child_behind (node section Raw children) above h = absurd h.laid
  child_behind (node section (File inline filesize parts) children) above h = absurd h.laid.0
  child_behind (node section (Basic es) children) above h = absurd (cc h.checked.0.stands)
  child_behind (node section (Shard slots) children) above h =
      let fits = few_above above slots h.checked.0.stands in
      let few = fits.0 in
      in_all above (entries_of_slots slots children)
      (slots_behind children slots above 0 0 (omega (arith, few)) (shard_children (child_position above) section slots children h)
      (slots_ascend section slots children above h) fits.1)
  child_behind (node section (Symlink target) children) above h = absurd h.laid

pub hashes_rise : (section : Section) (slots : List Slot) (children : Children) → IsAt top (node section (Shard slots) children)
    → HashesRise (entries_of_slots slots children)
hashes_rise section slots children h =
    (slots_behind children slots [] 0 0 (omega arith) (shard_children top section slots children h)
    (subst (Ascend 0) h.laid.1.bits_are.used (used_ascend h.laid.1.bits)) (few_above [] slots h.checked.0.stands).1).rise
