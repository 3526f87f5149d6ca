use Rattle.std.proofs.Common.{◌≡◌, ◌+◌, ◌-◌, ◌*◌, ◌^◌, ◌/◌, ◌%◌, take, drop, refl, sym, ap, ◌∙◌, arith}
use Rattle.std.proofs.lemmas.List.{drop-set-lt, drop-drop, length-set}
use Rattle.std.proofs.lemmas.Nat.{and_mask}
use Rattle.tg_http.specs.Chunks.{hex_digit}
use Rattle.tg_http.proofs.Hex.{written, digit_written, none_written, some_digits, nothing_written, zero_text}
use Rattle.tg_http.proofs.chunk.write_digits.Goals as goal

pub loop-left-init : goal.loop-left-init
loop-left-init c = record {
  few = omega arith;
  room = omega arith;
  size_is = c.requires;
  written = nothing_written c.args.number (omega arith);
  rest = refl;
}

pub returns-then-number-eq0-clause-digits : goal.returns-then-number-eq0-clause-digits
returns-then-number-eq0-clause-digits c = zero_text c.args.room.now c.args.number (omega arith) c.if-number-eq0.true

pub overflow_cast-high : goal.overflow_cast-high
overflow_cast-high c = omega arith

pub loop-left-preserved-then-high-gt0 : goal.loop-left-preserved-then-high-gt0
loop-left-preserved-then-high-gt0 c =
    let left = c.loop-left.left - 1 in
    let size = c.loop-left.size in
    let room = c.loop-left.room in
    let high = c.args.number / 2 ^ (4 * left) in
    let number : left + 1 ≡ c.loop-left.left = omega arith in
    let old : take size room ≡ written c.args.number (left + 1) = rw number c.loop-left.invariant.written in
    let digit_is : c.digit.result ≡ hex_digit (high % 16) = c.digit.ensures ∙ ap hex_digit (and_mask high 4) in
    record {
      few = omega arith;
      room = omega arith;
      size_is = length-set room size c.digit.result ∙ c.loop-left.invariant.size_is;
      written = rw digit_is (digit_written c.args.number left high size room (omega arith) refl c.if-high-gt0.true old);
      rest = drop-set-lt (size + 1) room size c.digit.result (omega arith)
          ∙ sym (drop-drop 1 size room) ∙ ap (drop 1) c.loop-left.invariant.rest ∙ drop-drop 1 size c.args.room.now;
    }

pub loop-left-preserved : goal.loop-left-preserved
loop-left-preserved c =
    let left = c.loop-left.left - 1 in
    let high = c.args.number / 2 ^ (4 * left) in
    let number : left + 1 ≡ c.loop-left.left = omega arith in
    let old : take c.loop-left.size c.loop-left.room ≡ written c.args.number (left + 1) = rw number c.loop-left.invariant.written in
    let none : high ≡ 0 = omega (arith, c.if-high-gt0.false) in
    record {
      few = omega arith;
      room = omega arith;
      size_is = c.loop-left.invariant.size_is;
      written = old ∙ none_written c.args.number left high refl none;
      rest = c.loop-left.invariant.rest;
    }

pub returns-clause-digits : goal.returns-clause-digits
returns-clause-digits c =
    let none : c.loop-left.left ≡ 0 = omega arith in
    let all : take c.loop-left.size c.loop-left.room ≡ written c.args.number 0 = (rw none at c.loop-left.invariant.written) in
    all ∙ some_digits c.args.number c.if-number-eq0.false
