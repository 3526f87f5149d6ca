-- Bytes of printed requests: visible ones, and those that are none of the marks that cut a target.
use Rattle.std.proofs.Common.{◌≡◌, ◌≢◌, ℕ, ◌^◌, ◌<◌, ◌≤◌, Bool, true, false, All, List, [], ◌∷◌, refl, subst, inl, inr, arith}
use Rattle.std.specs.Char.{digit_value}
use Rattle.std.specs.List.{list_all, range_with_len}
use Rattle.std.specs.Prelude.{decimal, nat_le, nat_lt, not, ◌&&◌, ◌||◌, ◌==◌}
use Rattle.httparse.specs.Grammar.{is_uri_byte, is_value_byte}
use Rattle.std.proofs.lemmas.Bool.Decides.{nat_tests}
use Rattle.std.proofs.lemmas.Bool.{and_from, and_parts, le-leb, leb-true, lt-ltb}
use Rattle.std.proofs.lemmas.List.Elements.{All-append, All-head, All-nil, All-tail, All-weaker}
use Rattle.std.proofs.lemmas.List.Sums.{AllPass-from_list_all}
use Rattle.tg_base32.specs.Base32.{IsLetter}
use Rattle.tg_bytes.specs.DigitLaws.{decimal_digits, digits_all}
use Rattle.tg_escape.specs.ByteTests.{by_table}
use Rattle.tg_model.specs.Texts.{escaped, escaped_byte}

implied : (x y : Bool) → (not x || y) ≡ true → x ≡ true → y ≡ true
implied true y e h = e
implied false y e h = absurd cc

-- ---- the classes

-- visible, and neither `/`, `?`, `&`
abbrev pub is_plain : ℕ → Bool
is_plain b = nat_le 33 b && (nat_le b 126 && (not (b == 47) && (not (b == 63) && not (b == 38))))

abbrev pub is_visible : ℕ → Bool
is_visible b = nat_le 33 b && nat_le b 126

abbrev pub Plain : List ℕ → Type 0
Plain bytes = All (λ (b : ℕ). is_plain b ≡ true) bytes

abbrev pub Visible : List ℕ → Type 0
Visible bytes = All (λ (b : ℕ). is_visible b ≡ true) bytes

visible_below : (b : ℕ) → is_visible b ≡ true → b < 128
visible_below b h = let both = and_parts (nat_le 33 b) (nat_le b 126) h in omega (arith, leb-true b 126 both.1)

plain_visible : (b : ℕ) → is_plain b ≡ true → is_visible b ≡ true
plain_visible b h =
    let first = and_parts (nat_le 33 b) (nat_le b 126 && (not (b == 47) && (not (b == 63) && not (b == 38)))) h in
    let second = and_parts (nat_le b 126) (not (b == 47) && (not (b == 63) && not (b == 38))) first.1 in
    and_from (nat_le 33 b) (nat_le b 126) first.0 second.0

pub plain_is_visible : (bytes : List ℕ) → Plain bytes → Visible bytes
plain_is_visible bytes = All-weaker (λ (b : ℕ). is_plain b ≡ true) (λ (b : ℕ). is_visible b ≡ true) plain_visible bytes

pub visible_uri : (b : ℕ) → is_visible b ≡ true → is_uri_byte b ≡ true
visible_uri b h = implied (is_visible b) (is_uri_byte b) (by_table (λ b. not (is_visible b) || is_uri_byte b) 128 refl b (visible_below b h)) h

pub visible_value : (b : ℕ) → is_visible b ≡ true → is_value_byte b ≡ true
visible_value b h = implied (is_visible b) (is_value_byte b) (by_table (λ b. not (is_visible b) || is_value_byte b) 128 refl b (visible_below b h)) h

pub visible_ascii : (bytes : List ℕ) → Visible bytes → All (λ (b : ℕ). b < 128) bytes
visible_ascii bytes = All-weaker (λ (b : ℕ). is_visible b ≡ true) (λ (b : ℕ). b < 128) visible_below bytes

-- a plain byte is no mark

pub plain_not : (mark b : ℕ) → is_plain mark ≡ false → is_plain b ≡ true → b ≢ mark
plain_not mark b none h e = let same : is_plain mark ≡ true = subst (λ (n : ℕ). is_plain n ≡ true) e h in absurd cc

pub plain_without : (mark : ℕ) (bytes : List ℕ) → is_plain mark ≡ false → Plain bytes → All (λ (b : ℕ). b ≢ mark) bytes
plain_without mark bytes none = All-weaker (λ (b : ℕ). is_plain b ≡ true) (λ (b : ℕ). b ≢ mark) (λ b h. plain_not mark b none h) bytes

-- ---- what is plain

between : (low high b : ℕ) → list_all (λ b. not (nat_le low b && nat_le b high) || is_plain b) (range_with_len 0 128) ≡ true → low ≤ b → b ≤ high → high < 128
    → is_plain b ≡ true
between low high b table from to small =
    implied (nat_le low b && nat_le b high) (is_plain b)
    (by_table (λ b. not (nat_le low b && nat_le b high) || is_plain b) 128 table b (omega (arith, to, small)))
    (and_from (nat_le low b) (nat_le b high) (le-leb low b from) (le-leb b high to))

letter_plain : (b : ℕ) → IsLetter b → is_plain b ≡ true
letter_plain b (inl h) = between 97 122 b refl h.0 h.1 (omega arith)
letter_plain b (inr h) = between 50 55 b refl h.0 h.1 (omega arith)

pub letters_plain : (text : List ℕ) → All IsLetter text → Plain text
letters_plain text = All-weaker IsLetter (λ (b : ℕ). is_plain b ≡ true) letter_plain text

escaped_byte_plain : (b : ℕ) → b < 256 → Plain (escaped_byte b)
escaped_byte_plain b h = AllPass-from_list_all is_plain (escaped_byte b) (by_table (λ b. list_all is_plain (escaped_byte b)) 256 refl b h)

pub escaped_plain : (name : List ℕ) → All (λ (b : ℕ). b < 256) name → Plain (escaped name)
escaped_plain [] are = All-nil (λ (b : ℕ). is_plain b ≡ true)
escaped_plain (b ∷ name) are =
    All-append (λ (b : ℕ). is_plain b ≡ true) (escaped_byte b) (escaped name) (escaped_byte_plain b (All-head (λ (b : ℕ). b < 256) b name are))
    (escaped_plain name (All-tail (λ (b : ℕ). b < 256) b name are))

-- a digit
abbrev digit_test : ℕ → Bool
digit_test b = not (nat_lt (digit_value b) 10) || is_plain b

digit_low : (b : ℕ) → digit_value b < 10 → b < 128
digit_low b h = grind (arith, nat_tests)

digit_plain : (b : ℕ) → digit_value b < 10 → is_plain b ≡ true
digit_plain b h = implied (nat_lt (digit_value b) 10) (is_plain b) (by_table digit_test 128 refl b (digit_low b h)) (lt-ltb (digit_value b) 10 h)

pub decimal_plain : (n : ℕ) → n < 2 ^ 63 → Plain (decimal n)
decimal_plain n h = digits_all (λ (b : ℕ). is_plain b ≡ true) digit_plain (decimal n) (decimal_digits n h).digits.1
