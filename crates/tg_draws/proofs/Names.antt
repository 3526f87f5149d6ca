-- The names of files differ: their six digits tell the number.
use Rattle.std.proofs.Common.{◌≡◌, ◌+◌, ◌*◌, ◌/◌, ◌%◌, ◌<◌, ℕ, List, Bool, refl, ap, arith, false, get_or, sym, true, ◌∙◌}
use Rattle.std.proofs.Math.Nat.{div-div-eq-div-mul}
use Rattle.std.proofs.lemmas.Slice.Eq.{bytes_eq-Decides}
use Rattle.std.specs.Str.{bytes_eq}
use Rattle.tg_draws.specs.Trees.{digit_of, file_name}

from_tens : (a b : ℕ) → a / 10 ≡ b / 10 → 48 + a % 10 ≡ 48 + b % 10 → a ≡ b
from_tens a b tens ones = omega (arith, tens, ones)

-- where the digits above are the same, and this one is
same_with_digit : (ones a b : ℕ) → a / (ones * 10) ≡ b / (ones * 10) → digit_of ones a ≡ digit_of ones b → a / ones ≡ b / ones
same_with_digit ones a b above here = from_tens (a / ones) (b / ones) (div-div-eq-div-mul a ones 10 ∙ above ∙ sym (div-div-eq-div-mul b ones 10)) here

none_above : (n : ℕ) → n < 1000000 → n / 1000000 ≡ 0
none_above n h = omega (arith, h)

by_one : (n : ℕ) → n / 1 ≡ n
by_one n = omega arith

same_number : (a b : ℕ) → a < 1000000 → b < 1000000 → file_name a ≡ file_name b → a ≡ b
same_number a b ha hb same =
    let digit = λ (k : ℕ). ap (λ (name : List ℕ). get_or name k 0) same in
    let s5 = same_with_digit 100000 a b (none_above a ha ∙ sym (none_above b hb)) (digit 1) in
    let s4 = same_with_digit 10000 a b s5 (digit 2) in
    let s3 = same_with_digit 1000 a b s4 (digit 3) in
    let s2 = same_with_digit 100 a b s3 (digit 4) in
    let s1 = same_with_digit 10 a b s2 (digit 5) in
    let s0 = same_with_digit 1 a b s1 (digit 6) in
    sym (by_one a) ∙ s0 ∙ by_one b

not_true : {P : Type 0} (r : Bool) → (r ≡ true → P) → (P → ⊥) → r ≡ false
not_true true found refused = absurd (refused (found refl))
not_true false found refused = refl

-- a name isn't that of a number behind it
pub names_differ : (a b : ℕ) → a < b → b < 1000000 → bytes_eq (file_name a) (file_name b) ≡ false
names_differ a b h hb =
    let apart = λ (same : file_name a ≡ file_name b). let e : a ≡ b = same_number a b (omega arith) hb same in absurd (omega arith) in
    not_true _ (bytes_eq-Decides (file_name a) (file_name b)).0 apart
