-- Bits on their way between letters and bytes.
use Rattle.std.specs.Prelude.{◌≡◌, ℕ, ◌+◌, ◌^◌, ◌<◌, ◌≤◌, List, ◌++◌, All}
use Rattle.tg_base32.specs.declared.Held.{Held}
use Rattle.tg_base32.specs.Base32.{IsLetter, value_of, bits, bits_of_bytes, bits_of_text}

-- fewer than `limit` bits, and no others
pub record IsHeld (limit : ℕ) (held : Held) : Type 0 where
  pub fewer : held.count < limit
  pub fits : held.value < 2 ^ held.count

abbrev pub bits_of : Held → List ℕ
bits_of held = bits held.count held.value

-- the bits of the text are those of the bytes and fewer than eight more
pub record Reads (text bytes : List ℕ) : Type 0 where
  pub are_bytes : All (λ b. b < 256) bytes
  pub held : Held
  pub is_held : IsHeld 8 held
  pub same_bits : bits_of_text text ≡ bits_of_bytes bytes ++ bits_of held

-- a letter's bits come in behind the held ones, of which the first go to the bytes' end as whole bytes
pub record TakesLetter (old : List ℕ) (held : Held) (letter : ℕ) (new : List ℕ) (rest : Held) : Type 0 where
  pub are_bytes : All (λ b. b < 256) old → All (λ b. b < 256) new
  pub is_held : IsHeld 8 rest
  pub same_bits : bits_of_bytes new ++ bits_of rest ≡ bits_of_bytes old ++ (bits_of held ++ bits 5 (value_of letter))

-- five bits, if as many are held, are moved from the held ones to the text's end as a letter
pub record MovesLetter (old : List ℕ) (held : Held) (new : List ℕ) (rest : Held) : Type 0 where
  pub letters : All IsLetter old → All IsLetter new
  pub fits : rest.value < 2 ^ rest.count
  pub count : (held.count < 5 → rest.count ≡ held.count) × (5 ≤ held.count → rest.count + 5 ≡ held.count)
  pub same_bits : bits_of_text new ++ bits_of rest ≡ bits_of_text old ++ bits_of held

-- a byte's bits come in behind the held ones, of which the first go to the text's end as whole letters
pub record TakesByte (old : List ℕ) (held : Held) (byte : ℕ) (new : List ℕ) (rest : Held) : Type 0 where
  pub letters : All IsLetter old → All IsLetter new
  pub is_held : IsHeld 5 rest
  pub same_bits : bits_of_text new ++ bits_of rest ≡ bits_of_text old ++ (bits_of held ++ bits 8 byte)
