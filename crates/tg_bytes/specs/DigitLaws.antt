-- What holds of decimal digits.
use Rattle.std.proofs.Common.{ℕ, ◌^◌, ◌<◌, All, List, [], ◌∷◌, refl, sym, arith}
use Rattle.std.specs.Bool.{Decides}
use Rattle.std.specs.Char.{digit_value, is_digit}
use Rattle.std.specs.List.{list_all}
use Rattle.std.specs.Prelude.{decimal}
use Rattle.std.specs.Str.Parse.{AllDigits}
use Rattle.std.proofs.lemmas.Bool.Decides.{Decides-and, Decides-ltb}
use Rattle.std.proofs.lemmas.Fmt.{decimal_is_IsNumeral, length-decimal-le}
use Rattle.std.proofs.lemmas.List.Elements.{All-cons, All-nil}
use Rattle.tg_bytes.specs.Digits.{IsDigits}

-- the test of each byte says whether they are digits
pub digits_decide : (text : List ℕ) → Decides (list_all (λ (b : ℕ). is_digit b 10) text) (AllDigits 10 text)
digits_decide [] = (λ t. tt, λ t. refl)
digits_decide (b ∷ text) = Decides-and _ _ (Decides-ltb (digit_value b) 10) (digits_decide text)

-- what holds of each digit holds of each byte of digits
pub digits_all : (P : ℕ → Type 0) → ((b : ℕ) → digit_value b < 10 → P b) → (text : List ℕ) → AllDigits 10 text
    → All P text
digits_all P each [] all = All-nil P
digits_all P each (b ∷ text) all = All-cons P b text (each b all.0) (digits_all P each text all.1)

-- a number below 2^63 is written by 1 to 19 digits
pub decimal_digits : (n : ℕ) → n < 2 ^ 63 → IsDigits (decimal n) n
decimal_digits n h =
    let wide : n < 2 ^ 64 = omega arith in
    let told = decimal_is_IsNumeral n wide in
    record { digits = told.0; few = length-decimal-le 19 n (omega arith) (omega arith) wide; number_is = sym told.1 }
