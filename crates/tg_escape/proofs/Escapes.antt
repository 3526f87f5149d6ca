-- A name in percent-encoding is the escaped name.
use Rattle.std.proofs.Common.{◌≡◌, ℕ, ◌+◌, ◌/◌, ◌%◌, ◌<◌, Bool, true, false, All, List, [], ◌∷◌, ◌++◌, refl, ap, ap₂, ◌∙◌, arith}
use Rattle.std.specs.Fmt.{digit_glyph}
use Rattle.std.specs.List.{list_all, range_with_len}
use Rattle.std.specs.Prelude.{if◌then◌else◌, not}
use Rattle.percent_encoding.specs.AsciiSet.{should_percent_encode}
use Rattle.percent_encoding.specs.Percent.{encode_byte, percent_encode, percent_encode_byte}
use Rattle.std.proofs.lemmas.List.Elements.{All-head, All-tail}
use Rattle.tg_model.specs.Texts.{escaped, escaped_byte, is_unreserved}
use Rattle.tg_escape.specs.ByteTests.{by_table}
use Rattle.tg_escape.specs.declared.TheConstants.{ESCAPED}

-- the set has a byte exactly where the byte isn't unreserved
abbrev agrees : ℕ → Bool
agrees b = if is_unreserved b then not (should_percent_encode ESCAPED b) else should_percent_encode ESCAPED b

all_agree : list_all agrees (range_with_len 0 256) ≡ true
unfolding should_percent_encode
all_agree = refl

one_agrees : (b : ℕ) → b < 256 → agrees b ≡ true
one_agrees = by_table agrees 256 all_agree

-- one byte
byte_by : (u s : Bool) (b : ℕ) → b < 256 → (if u then not s else s) ≡ true
    → (if s then percent_encode_byte b else b ∷ []) ≡ (if u then b ∷ [] else 37 ∷ digit_glyph true (b / 16) ∷ digit_glyph true (b % 16) ∷ [])
unfolding percent_encode_byte
byte_by true true b h e = absurd cc
byte_by true false b h e = refl
byte_by false true b h e = let same : b / 16 % 16 ≡ b / 16 = omega arith in ap (λ (n : ℕ). 37 ∷ digit_glyph true n ∷ digit_glyph true (b % 16) ∷ []) same
byte_by false false b h e = absurd cc

one_byte : (b : ℕ) → b < 256 → encode_byte ESCAPED b ≡ escaped_byte b
one_byte b h = byte_by (is_unreserved b) (should_percent_encode ESCAPED b) b h (one_agrees b h)

pub escapes : (name : List ℕ) → All (λ (b : ℕ). b < 256) name → percent_encode ESCAPED name ≡ escaped name
unfolding percent_encode
escapes [] are = refl
escapes (b ∷ name) are =
    ap₂ (λ (x y : List ℕ). x ++ y) (one_byte b (All-head (λ (b : ℕ). b < 256) b name are)) (escapes name (All-tail (λ (b : ℕ). b < 256) b name are))

pub only_put : (new old bytes : List ℕ) → new ≡ old ++ bytes → old ≡ [] → new ≡ bytes
only_put new old bytes p q = p ∙ ap (λ (l : List ℕ). l ++ bytes) q
