-- The base 32 of bytes as a function (RFC 4648, section 6, in lower case and without padding).
use Rattle.std.specs.Prelude.{ℕ, ◌+◌, ◌*◌, List, [], ◌∷◌, if◌then◌else◌, nat_lt}
use Rattle.tg_base32.specs.Base32.{bits_of_bytes}

-- the letter that stands for a value below 32
abbrev pub letter_of : ℕ → ℕ
letter_of value = if nat_lt value 26 then value + 97 else value + 24

-- the letter of five bits, the highest first
abbrev pub letter_of_bits : ℕ → ℕ → ℕ → ℕ → ℕ → ℕ
letter_of_bits a b c d e = letter_of (a * 16 + b * 8 + c * 4 + d * 2 + e)

-- the letters of bits, five bits a letter; zeros are put behind the last ones
abbrev pub letters_of : List ℕ → List ℕ
letters_of [] = []
letters_of (a ∷ []) = letter_of_bits a 0 0 0 0 ∷ []
letters_of (a ∷ b ∷ []) = letter_of_bits a b 0 0 0 ∷ []
letters_of (a ∷ b ∷ c ∷ []) = letter_of_bits a b c 0 0 ∷ []
letters_of (a ∷ b ∷ c ∷ d ∷ []) = letter_of_bits a b c d 0 ∷ []
letters_of (a ∷ b ∷ c ∷ d ∷ e ∷ rest) = letter_of_bits a b c d e ∷ letters_of rest

-- the text of bytes
unfoldable pub base32 : List ℕ → List ℕ
base32 bytes = letters_of (bits_of_bytes bytes)
