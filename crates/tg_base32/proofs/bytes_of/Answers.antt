use Rattle.std.proofs.Common.{◌<◌, refl, ap, sym, ◌∙◌, arith}
use Rattle.std.proofs.lemmas.List.{take_all}
use Rattle.std.proofs.lemmas.List.Elements.{All-nil}
use Rattle.tg_base32.specs.Base32.{bits, bits_of_text}
use Rattle.tg_base32.proofs.bytes_of.Goals as goal

pub loop-letter-init : goal.loop-letter-init
unfolding bits
loop-letter-init c = record { are_bytes = rw c.in_ok-bytes.ensures.items (All-nil (λ b. b < 256)); is_held = record { fewer = omega arith; fits = omega arith }; same_bits = rw c.in_ok-bytes.ensures.items refl }

pub returns : goal.returns
returns c = record {
  are_bytes = c.loop-letter.invariant.are_bytes;
  held = c.loop-letter.held;
  is_held = c.loop-letter.invariant.is_held;
  same_bits = ap bits_of_text (sym (take_all c.loop-letter.letter-index c.args.text.now (omega arith))) ∙ c.loop-letter.invariant.same_bits;
}
