-- The numbers of a shard's slots determine its bits.
use Rattle.std.proofs.Common.{◌≡◌, ◌≢◌, ◌+◌, ◌*◌, ◌/◌, ◌%◌, ◌^◌, ◌<◌, ◌≤◌, ℕ, zero, suc, Bool, true, List, [], ◌∷◌, length, get_or, nat_eq, inl, inr, refl, sym, ap, ap₂, ◌∙◌, subst, arith}
use Rattle.std.proofs.Math.Nat.{div-eq_of_lt, mul-le-mul_right}
use Rattle.std.proofs.lemmas.Bool.{cases_lt, cases_order, cond_both, eq-eqb, eqb-true}
use Rattle.std.proofs.lemmas.List.Elements.{All-head, All-tail}
use Rattle.std.proofs.lemmas.Nat.{pow_below}
use Rattle.std.proofs.lemmas.Nat.Bits.{bit_at-lt, same_from_bits}
use Rattle.std.specs.Int.{bit_at}
use Rattle.std.specs.Prelude.{All, filter}
use Rattle.tg_model.specs.ImportLayout.{HasNoLeadingZero}
use Rattle.tg_model.specs.Reading.{below, big_endian, used_slots}
use Rattle.tg_layout_laws.proofs.Sets.{Among, among_left, among_right}

-- the first byte stands above the number of the others, and so many bytes are below that power
pub record NumberLaws : Type 0 where
  pub first : (byte : ℕ) (bytes : List ℕ) → big_endian (byte ∷ bytes) ≡ byte * 2 ^ (8 * length bytes) + big_endian bytes
  pub most : (bytes : List ℕ) → ((k : ℕ) → get_or bytes k 0 < 256) → big_endian bytes < 2 ^ (8 * length bytes)

each_byte : (bytes : List ℕ) → All (λ b. b < 256) bytes → (k : ℕ) → get_or bytes k 0 < 256
each_byte [] h k = omega arith
each_byte (b ∷ bytes) h zero = All-head (λ b. b < 256) b bytes h
each_byte (b ∷ bytes) h (suc k) = each_byte bytes (All-tail (λ b. b < 256) b bytes h) k

below_power : NumberLaws → (bytes : List ℕ) → All (λ b. b < 256) bytes → big_endian bytes < 2 ^ (8 * length bytes)
below_power laws bytes h = laws.most bytes (each_byte bytes h)

-- ---- which bits are set

in_below : (n i : ℕ) → i < n → Among i (below n)
in_below zero i lt = absurd (omega (arith, lt))
in_below (suc n) i lt = elim (cases_lt i n) [
  | inl less ↦ among_left i (below n) (n ∷ []) (in_below n i less)
  | inr more ↦ among_right i (below n) (n ∷ []) (inl (omega (arith, lt, more)))
]

keep : (p : ℕ → Bool) (ns : List ℕ) (i : ℕ) → p i ≡ true → Among i ns → Among i (filter p ns)
keep p [] i e m = absurd m
keep p (n ∷ ns) i e (inl here) =
    cond_both (p n) (n ∷ filter p ns) (filter p ns) (λ xs. Among i xs) (λ _. inl here)
    (λ no. let yes = ap p here ∙ e in absurd (cc))
keep p (n ∷ ns) i e (inr later) =
    cond_both (p n) (n ∷ filter p ns) (filter p ns) (λ xs. Among i xs) (λ _. inr (keep p ns i e later))
    (λ _. keep p ns i e later)

kept : (p : ℕ → Bool) (ns : List ℕ) (i : ℕ) → Among i (filter p ns) → p i ≡ true
kept p [] i m = absurd m
kept p (n ∷ ns) i m =
    cond_both (p n) (n ∷ filter p ns) (filter p ns) (λ xs. Among i xs → p i ≡ true)
    (λ yes k. elim k [
      | inl here ↦ sym (ap p here) ∙ yes
      | inr later ↦ kept p ns i later
    ])
    (λ _ k. kept p ns i k) m

abbrev is_set : ℕ → ℕ → Bool
is_set number i = nat_eq ((number / 2 ^ i) % 2) 1

-- a bit that is set is among the used slots
set_used : NumberLaws → (bytes : List ℕ) → All (λ b. b < 256) bytes → (i : ℕ) → bit_at (big_endian bytes) i ≡ 1
    → Among i (used_slots bytes)
set_used laws bytes h i e = elim (cases_lt i (8 * length bytes)) [
  | inl inside ↦ keep (λ k. is_set (big_endian bytes) k) (below (8 * length bytes)) i
      (eq-eqb (bit_at (big_endian bytes) i) 1 e) (in_below (8 * length bytes) i inside)
  | inr past ↦
      let number = big_endian bytes in
      let most = below_power laws bytes h in
      let low : number < 2 ^ i = elim (cases_order (8 * length bytes) i) [
        | inl same ↦ subst (λ k. number < 2 ^ k) same most
        | inr (inl less) ↦ let p = pow_below (8 * length bytes) i less in omega (arith, most, p)
        | inr (inr more) ↦ absurd (omega (arith, past, more))
      ] in
      let none : number / 2 ^ i ≡ 0 = div-eq_of_lt low in
      let bit : bit_at number i ≡ 0 = ap (λ q. q % 2) none in
      absurd (omega (arith, bit, e))
]

used_set : (bytes : List ℕ) (i : ℕ) → Among i (used_slots bytes) → bit_at (big_endian bytes) i ≡ 1
used_set bytes i m = eqb-true (bit_at (big_endian bytes) i) 1
    (kept (λ k. is_set (big_endian bytes) k) (below (8 * length bytes)) i m)

same_bit : (a b : ℕ) → a < 2 → b < 2 → (a ≡ 1 → b ≡ 1) → (b ≡ 1 → a ≡ 1) → a ≡ b
same_bit zero zero h k there back = refl
same_bit zero (suc zero) h k there back = back refl
same_bit zero (suc (suc b)) h k there back = absurd (omega (arith, k))
same_bit (suc zero) zero h k there back = sym (there refl)
same_bit (suc zero) (suc zero) h k there back = refl
same_bit (suc zero) (suc (suc b)) h k there back = absurd (omega (arith, k))
same_bit (suc (suc a)) b h k there back = absurd (omega (arith, h))

same_number : NumberLaws → (a b : List ℕ) → All (λ b. b < 256) a → All (λ b. b < 256) b → used_slots a ≡ used_slots b
    → big_endian a ≡ big_endian b
same_number laws a b h k used = same_from_bits (big_endian a) (big_endian b) (λ i.
    same_bit (bit_at (big_endian a) i) (bit_at (big_endian b) i) (bit_at-lt (big_endian a) i)
    (bit_at-lt (big_endian b) i)
    (λ e. used_set b i (subst (Among i) used (set_used laws a h i e)))
    (λ e. used_set a i (subst (Among i) (sym used) (set_used laws b k i e))))

-- ---- the bytes of a number

-- the first byte and what is behind it
one_quotient : (p x y u v : ℕ) → u < p → v < p → x * p + u ≡ y * p + v → (x ≡ y) × (u ≡ v)
one_quotient p x y u v h k e = elim (cases_order x y) [
  | inl same ↦ (same, (let f = ap (λ z. z * p) same in omega (arith, e, f)))
  | inr (inl less) ↦ absurd (apart p x y u v h less e)
  | inr (inr more) ↦ absurd (apart p y x v u k more (sym e))
]
  where
    apart : (p x y u v : ℕ) → u < p → x < y → x * p + u ≡ y * p + v → ⊥
    apart p x y u v h less e =
        let more : suc x * p ≤ y * p = mul-le-mul_right {m = suc x} {n = y} p (omega (arith, less)) in
        let one : suc x * p ≡ x * p + p = grind arith in
        omega (arith, h, e, more, one)

same_length : NumberLaws → (a b : List ℕ) → All (λ b. b < 256) a → All (λ b. b < 256) b → length a ≡ length b
    → big_endian a ≡ big_endian b → a ≡ b
same_length laws [] [] h k many e = refl
same_length laws [] (y ∷ b) h k many e = absurd (omega (arith, many))
same_length laws (x ∷ a) [] h k many e = absurd (omega (arith, many))
same_length laws (x ∷ a) (y ∷ b) h k many e =
    let count : length a ≡ length b = omega (arith, many) in
    let rest_a = All-tail (λ b. b < 256) x a h in
    let rest_b = All-tail (λ b. b < 256) y b k in
    let most_a = below_power laws a rest_a in
    let most_b : big_endian b < 2 ^ (8 * length a) = subst (λ n. big_endian b < 2 ^ (8 * n)) (sym count)
    (below_power laws b rest_b) in
    let whole : x * 2 ^ (8 * length a) + big_endian a ≡ y * 2 ^ (8 * length a) + big_endian b =
    sym (laws.first x a) ∙ e ∙ laws.first y b ∙ ap (λ n. y * 2 ^ (8 * n) + big_endian b) (sym count) in
    let both = one_quotient (2 ^ (8 * length a)) x y (big_endian a) (big_endian b) most_a most_b whole in
    ap₂ (λ (z : ℕ) (zs : List ℕ). z ∷ zs) both.0 (same_length laws a b rest_a rest_b count both.1)

-- a byte that isn't 0 at the front
at_least : NumberLaws → (x : ℕ) (a : List ℕ) → x ≢ 0 → 2 ^ (8 * length a) ≤ big_endian (x ∷ a)
at_least laws zero a some = absurd (some refl)
at_least laws (suc x) a some =
    let is = laws.first (suc x) a in
    let one : suc x * 2 ^ (8 * length a) ≡ x * 2 ^ (8 * length a) + 2 ^ (8 * length a) = grind arith in
    omega (arith, is, one)

not_longer : NumberLaws → (a b : List ℕ) → All (λ b. b < 256) a → HasNoLeadingZero b → big_endian a ≡ big_endian b
    → length a < length b → ⊥
not_longer laws a [] h some e lt = omega (arith, lt)
not_longer laws a (y ∷ b) h some e lt =
    let most = below_power laws a h in
    let least = at_least laws y b some in
    elim (cases_order (8 * length a) (8 * length b)) [
      | inl same ↦ let p = ap (λ n. 2 ^ n) same in omega (arith, most, least, p, e)
      | inr (inl less) ↦ let p = pow_below (8 * length a) (8 * length b) less in omega (arith, most, least, p, e)
      | inr (inr more) ↦ omega (arith, more, lt)
    ]

pub same_bits : NumberLaws → (a b : List ℕ) → All (λ b. b < 256) a → All (λ b. b < 256) b → HasNoLeadingZero a
    → HasNoLeadingZero b → used_slots a ≡ used_slots b → a ≡ b
same_bits laws a b h k first first_other used =
    let number = same_number laws a b h k used in
    elim (cases_order (length a) (length b)) [
      | inl same ↦ same_length laws a b h k same number
      | inr (inl less) ↦ absurd (not_longer laws a b h first_other number less)
      | inr (inr more) ↦ absurd (not_longer laws b a k first (sym number) more)
    ]
