use Rattle.std.proofs.Common.{◌≡◌, ◌++◌, take}
use Rattle.std.specs.Prelude.{All}
use Rattle.tg_base32.specs.Base32.{IsLetter, bits_of_bytes, bits_of_text}
use Rattle.tg_base32.specs.Held.{IsHeld, bits_of}
use Rattle.tg_base32.proofs.encode.Given as goal

abbrev pub invariant-loop-byte : goal.invariant-loop-byte
invariant-loop-byte l = record {
  letters : All IsLetter l.text.items;
  is_held : IsHeld 5 l.held;
  same_bits : bits_of_text l.text.items ++ bits_of l.held ≡ bits_of_bytes (take l.byte-index l.bytes);
}
