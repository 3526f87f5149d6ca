-- Sizes as the first lines of records write them.
use Rattle.std.proofs.Common.{All, Bor, List, None, Option, Some, ap, ap₂, append-nil, arith, length, subst, sym, ℕ, ◌++◌, ◌^◌, ◌<◌, ◌∙◌, ◌∷◌, ◌≡◌, ◌≢◌, ◌≤◌}
use Rattle.std.proofs.Math.Nat.{pow-le-pow_right}
use Rattle.std.proofs.lemmas.Fmt.{decimal_is_IsNumeral, length-decimal-le}
use Rattle.std.proofs.lemmas.Int.Digits.{digits_value-lt}
use Rattle.std.proofs.lemmas.List.Elements.{All-same}
use Rattle.std.specs.Char.{digit_value}
use Rattle.std.specs.Option.{option_copied}
use Rattle.std.specs.Prelude.{decimal, ◌↔◌}
use Rattle.std.specs.Str.Parse.{digits_value}
use Rattle.tg_bytes.specs.Ascii.{line_feed, space}
use Rattle.tg_bytes.specs.DigitLaws.{digits_all}
use Rattle.tg_bytes.specs.Digits.{IsDigits}
use Rattle.tg_query.specs.Cuts.{IsCut, cut_first}

-- what at most so many digits write
digits_small : (radix most : ℕ) (text : List ℕ) → 0 < radix → length text ≤ most → digits_value radix text < radix ^ length text → digits_value radix text < radix ^ most
digits_small radix most text some few h =
    let more : radix ^ length text ≤ radix ^ most = pow-le-pow_right some few in
    omega (arith, h, more)

pub size_small : (text : List ℕ) (number : ℕ) → IsDigits text number → number < 10 ^ 19
size_small text number h =
    let below = digits_small 10 19 text (omega arith) h.few (digits_value-lt 10 text h.digits.1) in
    omega (arith, below, h.number_is)

-- a size of at most 19 digits is written by them
pub size_digits : (size : ℕ) → size < 10 ^ 19 → IsDigits (decimal size) size
size_digits size h =
    let wide : size < 2 ^ 64 = omega arith in
    let told = decimal_is_IsNumeral size wide in
    record { digits = told.0; few = length-decimal-le 19 size (omega arith) h wide; number_is = sym told.1 }

-- digits write one number
one_number : (text : List ℕ) (m n : ℕ) → IsDigits text m → IsDigits text n → m ≡ n
one_number text m n p q = p.number_is ∙ sym q.number_is

pub same_decimal : (text : List ℕ) (number size : ℕ) → size < 10 ^ 19 → text ≡ decimal size → IsDigits text number → decimal number ≡ text
same_decimal text number size small is digits =
    ap decimal (one_number text number size digits (subst (λ (t : List ℕ). IsDigits t size) (sym is) (size_digits size small))) ∙ sym is

no_space : (size : ℕ) → size < 10 ^ 19 → All (λ b. b ≢ space) (decimal size)
no_space size h = digits_all (λ (b : ℕ). b ≢ space) (λ b digit e. omega (arith, digit, ap digit_value e)) (decimal size) (size_digits size h).digits.1

-- ---- a text that is cut at its first space

-- the law of tg_query
abbrev pub CutLaw : Type 0
CutLaw = (byte : ℕ) (text front : List ℕ) (rest : Option (List ℕ)) → (cut_first byte text ≡ (front, rest)) ↔ IsCut byte text front rest

pub cut_is : CutLaw → (text front : List ℕ) (rest : Option (Bor (List ℕ))) (size : ℕ) (shown : List ℕ) → size < 10 ^ 19 → decimal size ++ space ∷ shown ≡ text
    → ◌≡◌ {A = List ℕ × Option (List ℕ)} (front, option_copied rest) (cut_first space text) → (front ≡ decimal size) × (option_copied rest ≡ Some shown)
cut_is law text front rest size shown small whole e =
    let here : cut_first space text ≡ (decimal size, Some shown) =
    (law space text (decimal size) (Some shown)).1 (record { whole = sym whole; none = no_space size small }) in
    let both : ◌≡◌ {A = List ℕ × Option (List ℕ)} (front, option_copied rest) (decimal size, Some shown) = e ∙ here in
    (ap (λ (p : List ℕ × Option (List ℕ)). p.0) both, ap (λ (p : List ℕ × Option (List ℕ)). p.1) both)

pub no_rest : (rest : Option (Bor (List ℕ))) (shown : List ℕ) → rest ≡ None → option_copied rest ≡ Some shown → ⊥
no_rest None shown p q = absurd cc
no_rest (Some x) shown p q = absurd cc

pub some_rest : (rest : Option (Bor (List ℕ))) (behind : Bor (List ℕ)) (shown : List ℕ) → rest ≡ Some behind → option_copied rest ≡ Some shown → shown ≡ behind.now
some_rest None behind shown p q = absurd cc
some_rest (Some x) behind shown p q =
    let same : x ≡ behind = cc in
    let is : x.now ≡ shown = cc in
    sym is ∙ ap (λ (b : Bor (List ℕ)). b.now) same

pub cut_some : CutLaw → (byte : ℕ) (text front : List ℕ) (rest : Option (Bor (List ℕ))) (behind : Bor (List ℕ))
    → ◌≡◌ {A = List ℕ × Option (List ℕ)} (front, option_copied rest) (cut_first byte text) → rest ≡ Some behind → IsCut byte text front (Some behind.now)
cut_some law byte text front rest behind e some =
    (law byte text front (Some behind.now)).0 (sym e ∙ ap (λ (r : Option (Bor (List ℕ))). (front, option_copied r)) some)

pub cut_none : CutLaw → (byte : ℕ) (text front : List ℕ) (rest : Option (Bor (List ℕ)))
    → ◌≡◌ {A = List ℕ × Option (List ℕ)} (front, option_copied rest) (cut_first byte text) → rest ≡ None → All (λ b. b ≢ byte) text
cut_none law byte text front rest e none =
    let cut = (law byte text front None).0 (sym e ∙ ap (λ (r : Option (Bor (List ℕ))). (front, option_copied r)) none) in
    All-same (λ (b : ℕ). b ≢ byte) text front (cut.whole ∙ append-nil front) cut.none

pub sized_text : CutLaw → (text front : List ℕ) (rest : Option (Bor (List ℕ))) (behind : Bor (List ℕ)) (size : ℕ) (shown : List ℕ)
    → ◌≡◌ {A = List ℕ × Option (List ℕ)} (front, option_copied rest) (cut_first space text) → rest ≡ Some behind → decimal size ≡ front → shown ≡ behind.now
    → decimal size ++ space ∷ shown ≡ text
sized_text law text front rest behind size shown e some digits path =
    ap₂ (λ (x y : List ℕ). x ++ space ∷ y) digits path ∙ sym (cut_some law space text front rest behind e some).whole

pub no_feed : (size : ℕ) → size < 10 ^ 19 → All (λ b. b ≢ line_feed) (decimal size)
no_feed size h = digits_all (λ (b : ℕ). b ≢ line_feed) (λ b digit e. omega (arith, digit, ap digit_value e)) (decimal size) (size_digits size h).digits.1
