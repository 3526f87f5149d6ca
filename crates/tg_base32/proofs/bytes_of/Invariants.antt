use Rattle.std.proofs.Common.{◌≡◌, ◌<◌, ◌++◌, take}
use Rattle.std.specs.Prelude.{All}
use Rattle.tg_base32.specs.Base32.{bits_of_bytes, bits_of_text}
use Rattle.tg_base32.specs.Held.{IsHeld, bits_of}
use Rattle.tg_base32.proofs.bytes_of.Given as goal

abbrev pub invariant-loop-letter : goal.invariant-loop-letter
invariant-loop-letter l = record {
  are_bytes : All (λ b. b < 256) l.bytes.items;
  is_held : IsHeld 8 l.held;
  same_bits : bits_of_text (take l.letter-index l.text) ≡ bits_of_bytes l.bytes.items ++ bits_of l.held;
}
