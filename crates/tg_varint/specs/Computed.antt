-- The unsigned varints of multiformats as functions.
use Rattle.std.specs.Prelude.{ℕ, zero, suc, ◌+◌, ◌*◌, ◌/◌, ◌%◌, List, [], ◌∷◌, Option, Some, None, if◌then◌else◌}
use Rattle.std.specs.Prelude.{nat_lt, nat_eq}

-- the spelling of a number with at most `more` groups behind the first
abbrev pub varint_within : ℕ → ℕ → List ℕ
varint_within zero number = number ∷ []
varint_within (suc more) number =
    if nat_lt number 128 then number ∷ [] else (number % 128 + 128) ∷ varint_within more (number / 128)

-- the spelling of a number below 2 ^ 63
abbrev pub varint : ℕ → List ℕ
varint number = varint_within 8 number

-- a group before the number of the others, which isn't zero
abbrev pub before_group : ℕ → Option (ℕ × List ℕ) → Option (ℕ × List ℕ)
before_group byte None = None
before_group byte (Some found) = if nat_eq found.0 0 then None else Some (byte % 128 + 128 * found.0, found.1)

-- the number at the front of bytes, with at most `more` groups behind the first, and what follows it
abbrev pub number_within : ℕ → List ℕ → Option (ℕ × List ℕ)
number_within more [] = None
number_within zero (byte ∷ bytes) = if nat_lt byte 128 then Some (byte, bytes) else None
number_within (suc more) (byte ∷ bytes) =
    if nat_lt byte 128 then Some (byte, bytes) else before_group byte (number_within more bytes)

-- the number that is spelled at the front of bytes, and what follows it
abbrev pub front_number : List ℕ → Option (ℕ × List ℕ)
front_number bytes = number_within 8 bytes
