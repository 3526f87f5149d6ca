-- Facts about the bits of a number, the highest first.
use Rattle.std.proofs.Common.{◌≡◌, ℕ, zero, suc, ◌+◌, ◌*◌, ◌/◌, ◌%◌, ◌^◌, ◌<◌, ◌≤◌, List, ◌∷◌, ◌++◌, length, refl, sym, ap, ap₂, ◌∙◌, subst, zero-add, inl, inr, arith}
use Rattle.std.specs.Prelude.{Any, replicate}
use Rattle.std.proofs.Math.Nat.{mul-add-div_right, pow-suc, suc-add, mod-lt}
use Rattle.std.proofs.lemmas.Bool.{cases_lt}
use Rattle.std.proofs.lemmas.Nat.{shr-shr, shr_split, shr_below, shr_high, pow_pos, le-div}
use Rattle.std.proofs.lemmas.List.Elements.{All-replicate}
use Rattle.tg_base32.specs.Base32.{bits}

pub length-bits : (count number : ℕ) → length (bits count number) ≡ count
unfolding bits
length-bits zero number = refl
length-bits (suc count) number = ap suc (length-bits count number)

-- a digit of two, seen below a power
low_bit : (high low count : ℕ) → (high * 2 ^ suc count + low) / 2 ^ count % 2 ≡ low / 2 ^ count % 2
low_bit high low count =
    let p : high * 2 ^ suc count + low ≡ (high * 2) * 2 ^ count + low = omega (arith, ap (λ (n : ℕ). high * n) (pow-suc 2 count)) in
    let q : ((high * 2) * 2 ^ count + low) / 2 ^ count ≡ high * 2 + low / 2 ^ count = mul-add-div_right (pow_pos count) (high * 2) low in
    rw (p, q) (omega arith)

-- what stands above the lowest bits is not seen
pub bits_low : (count high low : ℕ) → bits count (high * 2 ^ count + low) ≡ bits count low
unfolding bits
bits_low zero high low = refl
bits_low (suc count) high low =
    let p : high * 2 ^ suc count + low ≡ (high * 2) * 2 ^ count + low = omega (arith, ap (λ (n : ℕ). high * n) (pow-suc 2 count)) in
    ap₂ (λ (b : ℕ) (bs : List ℕ). b ∷ bs) (low_bit high low count) (ap (bits count) p ∙ bits_low count (high * 2) low)

pub bits-mod : (count number : ℕ) → bits count (number % 2 ^ count) ≡ bits count number
bits-mod count number = sym (bits_low count (number / 2 ^ count) (number % 2 ^ count)) ∙ ap (bits count) (shr_split number count)

-- the higher bits, and then the lower
pub bits-append : (a b number : ℕ) → bits (a + b) number ≡ bits a (number / 2 ^ b) ++ bits b number
unfolding bits
bits-append zero b number = ap (λ (n : ℕ). bits n number) (zero-add b)
bits-append (suc a) b number =
    let first : number / 2 ^ (a + b) % 2 ≡ number / 2 ^ b / 2 ^ a % 2 = ap (λ (n : ℕ). n % 2) (ap (λ (n : ℕ). number / 2 ^ n) (omega arith) ∙ sym (shr-shr number b a)) in
    ap (λ (n : ℕ). bits n number) (suc-add a b)
    ∙ ap₂ (λ (x : ℕ) (bs : List ℕ). x ∷ bs) first (bits-append a b number)

pub bits_join : (a b high low : ℕ) → low < 2 ^ b → bits (a + b) (high * 2 ^ b + low) ≡ bits a high ++ bits b low
bits_join a b high low lt =
    bits-append a b (high * 2 ^ b + low)
    ∙ ap₂ (λ (xs ys : List ℕ). xs ++ ys) (ap (bits a) (shr_high high b low lt)) (bits_low b high low)

-- bits determine the number below the power
pub same_number : (count x y : ℕ) → x < 2 ^ count → y < 2 ^ count → bits count x ≡ bits count y → x ≡ y
unfolding bits
same_number zero x y p q e = omega arith
same_number (suc count) x y p q e =
    let pos = pow_pos count in
    let first : x / 2 ^ count % 2 ≡ y / 2 ^ count % 2 = cc in
    let rest : bits count x ≡ bits count y = cc in
    let low : x % 2 ^ count ≡ y % 2 ^ count = same_number count (x % 2 ^ count) (y % 2 ^ count) (mod-lt x pos) (mod-lt y pos) (bits-mod count x ∙ rest ∙ sym (bits-mod count y)) in
    let px : x / 2 ^ count < 2 = shr_below x 1 count (subst (λ (n : ℕ). x < 2 ^ n) (omega arith) p) in
    let py : y / 2 ^ count < 2 = shr_below y 1 count (subst (λ (n : ℕ). y < 2 ^ n) (omega arith) q) in
    let high : x / 2 ^ count ≡ y / 2 ^ count = omega arith in
    sym (shr_split x count) ∙ ap₂ (λ (h l : ℕ). h * 2 ^ count + l) high low ∙ shr_split y count

pub bits_zero : (count : ℕ) → bits count 0 ≡ replicate count 0
unfolding bits
bits_zero zero = refl
bits_zero (suc count) =
    let first : 0 / 2 ^ count % 2 ≡ 0 = omega arith in
    ap₂ (λ (b : ℕ) (bs : List ℕ). b ∷ bs) first (bits_zero count)

-- a number that isn't 0 has a bit set
pub some_bit : (count number : ℕ) → number < 2 ^ count → 0 < number → Any (λ bit. bit ≡ 1) (bits count number)
unfolding bits
some_bit zero number p q = absurd (omega arith)
some_bit (suc count) number p q =
    let high : number / 2 ^ count < 2 = shr_below number 1 count (subst (λ (n : ℕ). number < 2 ^ n) (omega arith) p) in
    elim (cases_lt number (2 ^ count)) [
      | inl lt ↦
          let h = some_bit count number lt q in
          (suc h.0, h.1, omega arith, h.3, h.4)
      | inr le ↦
          let least : 1 ≤ number / 2 ^ count = le-div 1 number (2 ^ count) (pow_pos count) (omega arith) in
          let one : number / 2 ^ count % 2 ≡ 1 = omega arith in
          (0, 1, omega arith, one, refl)
    ]

-- zeros have none
pub no_bit : (count : ℕ) → Any (λ (bit : ℕ). bit ≡ 1) (replicate {A = ℕ} count 0) → ⊥
no_bit count h = let zero_at = All-replicate (λ (b : ℕ). b ≡ 0) count 0 refl h.0 h.1 h.2 in omega (arith, zero_at, h.3, h.4)
