-- Base 32 encoding (RFC 4648, section 6) in lower case and without padding, as multibase `b` has it.
use Rattle.std.specs.Prelude.{◌≡◌, ℕ, zero, suc, ◌-◌, ◌*◌, ◌/◌, ◌%◌, ◌^◌, ◌<◌, ◌≤◌, ◌⊎◌, List, [], ◌∷◌, ◌++◌, length}
use Rattle.std.specs.Prelude.{drop, replicate, All, Any, slice_get, Some, if◌then◌else◌, nat_lt}
use Rattle.std.specs.List.{flat_map}

-- a letter of the alphabet: `a` to `z` stand for 0 to 25, `2` to `7` for 26 to 31
abbrev pub IsLetter : ℕ → Type 0
IsLetter letter = ((97 ≤ letter) × (letter ≤ 122)) ⊎ ((50 ≤ letter) × (letter ≤ 55))

abbrev pub value_of : ℕ → ℕ
value_of letter = if nat_lt letter 97 then letter - 24 else letter - 97

-- the lowest `count` bits of a number, the highest of them first
unfoldable pub bits : ℕ → ℕ → List ℕ
bits zero number = []
bits (suc count) number = (number / 2 ^ count) % 2 ∷ bits count number

-- the bits of bytes and of letters, in order
abbrev pub bits_of_bytes : List ℕ → List ℕ
bits_of_bytes bytes = flat_map (bits 8) bytes

abbrev pub bits_of_text : List ℕ → List ℕ
bits_of_text text = flat_map (λ letter. bits 5 (value_of letter)) text

-- the text spells the bytes: its letters' five-bit groups are the bits of the bytes and fewer than five zero bits
pub record Base32Text (text bytes : List ℕ) : Type 0 where
  pub letters : All IsLetter text
  pub are_bytes : All (λ b. b < 256) bytes
  pub padding : ℕ
  pub fewer : padding < 5
  pub same_bits : bits_of_text text ≡ bits_of_bytes bytes ++ replicate padding 0

-- the letter at `at` is the first that isn't of the alphabet
pub record IsFirstOutside (text : List ℕ) (at : ℕ) : Type 0 where
  pub letter : ℕ
  pub here : slice_get text at ≡ Some letter
  pub outside : IsLetter letter → ⊥
  pub before : (k other : ℕ) → k < at → slice_get text k ≡ Some other → IsLetter other

-- no number of bytes has a text of this many letters
abbrev pub IsNoLength : ℕ → Type 0
IsNoLength letters = (letters % 8 ≡ 1) ⊎ ((letters % 8 ≡ 3) ⊎ (letters % 8 ≡ 6))

-- letters of the alphabet, of a number that no bytes have
pub record HasNoLength (text : List ℕ) : Type 0 where
  pub letters : All IsLetter text
  pub length_is : IsNoLength (length text)

-- letters of the alphabet in a number that bytes have, with a bit set after the last whole byte
pub record HasTail (text : List ℕ) : Type 0 where
  pub letters : All IsLetter text
  pub length_is : IsNoLength (length text) → ⊥
  pub set : Any (λ bit. bit ≡ 1) (drop (8 * (5 * length text / 8)) (bits_of_text text))
