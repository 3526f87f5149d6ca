use Rattle.std.proofs.Common.{◌≡◌, ◌<◌, ◌++◌, refl, ap, ◌∙◌, arith}
use Rattle.std.specs.Prelude.{All}
use Rattle.std.proofs.lemmas.List.{take_all}
use Rattle.std.proofs.lemmas.List.Elements.{All-nil, All-from_get_or}
use Rattle.tg_base32.specs.Base32.{IsLetter, bits, bits_of_bytes, bits_of_text}
use Rattle.tg_base32.specs.Held.{bits_of}
use Rattle.tg_base32.proofs.Writing.{whole_text, last_letter, last_value}
use Rattle.tg_base32.proofs.encode.Goals as goal
use Rattle.tg_base32.proofs.encode.Goals.{then-held-gt0+in_ok-push, else-held-gt0}

pub loop-byte-init : goal.loop-byte-init
unfolding bits
loop-byte-init c = record {
  letters = rw c.in_ok-text.ensures.items (All-nil IsLetter);
  is_held = record { fewer = omega arith; fits = omega arith };
  same_bits = rw c.in_ok-text.ensures.items refl;
}

pub overflow_cast-held : goal.overflow_cast-held
overflow_cast-held c = let v = last_value c.loop-byte.held c.if-held-gt0.true c.loop-byte.invariant.is_held in omega (arith, v.0, v.1)

pub letter_for-requires : goal.letter_for-requires
letter_for-requires c = let v = last_value c.loop-byte.held c.if-held-gt0.true c.loop-byte.invariant.is_held in omega (arith, v.0, v.1)

pub returns : goal.returns
returns c =
    let are_bytes : All (λ b. b < 256) c.args.bytes.now = All-from_get_or (λ b. b < 256) c.args.bytes.now 0 (λ i h. omega (arith, c.type_inv.bytes i)) in
    let same : bits_of_text c.loop-byte.text.items ++ bits_of c.loop-byte.held ≡ bits_of_bytes c.args.bytes.now =
    c.loop-byte.invariant.same_bits ∙ ap bits_of_bytes (take_all c.loop-byte.byte-index c.args.bytes.now (omega arith)) in
    elim c.if-held-gt0.branch [
      | then-held-gt0+in_ok-push w ↦
          let v = last_value c.loop-byte.held w.if-held-gt0.true c.loop-byte.invariant.is_held in
          rw (w.text-is, w.in_ok-push.ensures.items)
          (last_letter c.loop-byte.text.items c.args.bytes.now c.loop-byte.held w.letter_for.result c.loop-byte.invariant.letters are_bytes w.if-held-gt0.true c.loop-byte.invariant.is_held.fewer w.letter_for.ensures.is_letter (w.letter_for.ensures.value ∙ v.0) same)
      | else-held-gt0 w ↦
          rw w.text-is (whole_text c.loop-byte.text.items c.args.bytes.now c.loop-byte.held c.loop-byte.invariant.letters are_bytes (omega arith) same)
    ]
