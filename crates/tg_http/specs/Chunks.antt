-- The lines of chunks, and what is between them (RFC 9112, section 7.1).
use Rattle.std.specs.Prelude.{ℕ, ◌+◌, ◌==◌, List, [], ◌∷◌, ◌++◌, map, nat_lt, if◌then◌else◌}
use Rattle.std.specs.Int.Digits.{digits_of}
use Rattle.httparse.specs.Ascii.{crlf_bytes}

-- a lower-case hexadecimal digit
abbrev pub hex_digit : ℕ → ℕ
hex_digit d = if nat_lt d 10 then 48 + d else 87 + d

-- the digits of a number, the most significant first and none before it; zero has one
abbrev pub hex_text : ℕ → List ℕ
hex_text number = if number == 0 then 48 ∷ [] else map hex_digit (digits_of 16 number)

-- the line of a chunk of so many bytes
abbrev pub chunk_line : ℕ → List ℕ
chunk_line number = hex_text number ++ crlf_bytes
