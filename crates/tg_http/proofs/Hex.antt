-- The hexadecimal digits of a number, one more.
use Rattle.std.proofs.Common.{◌≡◌, ℕ, ◌+◌, ◌*◌, ◌^◌, ◌/◌, ◌%◌, ◌<◌, ◌≢◌, List, [], ◌∷◌, ◌++◌, map, length, take, set, refl, sym, ap, ◌∙◌, arith, eqb, false}
use Rattle.std.specs.Int.Digits.{digits_of}
use Rattle.std.proofs.lemmas.Int.Digits.{digits_of_step}
use Rattle.std.proofs.lemmas.List.{take_more_set, map-append}
use Rattle.std.proofs.lemmas.Nat.{shr-shr}
use Rattle.std.proofs.lemmas.Bool.{cond-false}
use Rattle.tg_http.specs.Chunks.{hex_digit, hex_text}

pub high_more : (number left : ℕ) → number / 2 ^ (4 * left) / 16 ≡ number / 2 ^ (4 * (left + 1))
high_more number left =
    let places : 4 * left + 4 ≡ 4 * (left + 1) = omega arith in
    shr-shr number (4 * left) 4 ∙ ap (λ k. number / 2 ^ k) places

-- the digits without the last `left`
abbrev pub written : ℕ → ℕ → List ℕ
written number left = map hex_digit (digits_of 16 (number / 2 ^ (4 * left)))

pub digit_written : (number left high size : ℕ) (room : List ℕ) → size < length room → high ≡ number / 2 ^ (4 * left) → 0 < high
    → take size room ≡ written number (left + 1) → take (size + 1) (set room size (hex_digit (high % 16))) ≡ written number left
digit_written number left high size room inside is some old =
    let step : digits_of 16 high ≡ digits_of 16 (high / 16) ++ (high % 16 ∷ []) = digits_of_step 16 high (omega arith) some in
    let before : high / 16 ≡ number / 2 ^ (4 * (left + 1)) = ap (λ n. n / 16) is ∙ high_more number left in
    let digits : written number left ≡ map hex_digit (digits_of 16 (number / 2 ^ (4 * (left + 1)))) ++ hex_digit (high % 16) ∷ [] =
    ap (λ n. map hex_digit (digits_of 16 n)) (sym is) ∙ ap (map hex_digit) step ∙ map-append hex_digit (digits_of 16 (high / 16)) (high % 16 ∷ [])
    ∙ ap (λ n. map hex_digit (digits_of 16 n) ++ hex_digit (high % 16) ∷ []) before in
    take_more_set room size (hex_digit (high % 16)) inside ∙ ap (λ (s : List ℕ). s ++ hex_digit (high % 16) ∷ []) old ∙ sym digits

pub none_written : (number left high : ℕ) → high ≡ number / 2 ^ (4 * left) → high ≡ 0 → written number (left + 1) ≡ written number left
none_written number left high is none =
    let now : number / 2 ^ (4 * left) ≡ 0 = sym is ∙ none in
    let before : number / 2 ^ (4 * (left + 1)) ≡ 0 = sym (high_more number left) ∙ ap (λ n. n / 16) now in
    ap (λ n. map hex_digit (digits_of 16 n)) (before ∙ sym now)

pub some_digits : (number : ℕ) → number ≢ 0 → written number 0 ≡ hex_text number
some_digits number some =
    let whole : number / 2 ^ 0 ≡ number = omega arith in
    ap (λ n. map hex_digit (digits_of 16 n)) whole ∙ sym (cond-false _ _ _ (no_zero number some))
  where
    no_zero : (n : ℕ) → n ≢ 0 → eqb n 0 ≡ false
    no_zero n some = grind arith

pub nothing_written : (number : ℕ) → number < 2 ^ 64 → [] ≡ written number 16
nothing_written number small =
    let none : number / 2 ^ 64 ≡ 0 = omega arith in
    sym (ap (λ n. map hex_digit (digits_of 16 n)) none)

pub zero_text : (room : List ℕ) (number : ℕ) → 0 < length room → number ≡ 0 → take 1 (set room 0 48) ≡ hex_text number
zero_text [] number some zero_is = absurd (omega arith)
zero_text (b ∷ room) number some zero_is = rw zero_is refl
