use Rattle.std.proofs.Common.{◌≡◌, ℕ, ◌+◌, ◌*◌, ◌<◌, Option, get_or, sym, ap₂, subst, ◌∙◌, arith}
use Rattle.std.specs.Prelude.{MatchOption}
use Rattle.std.specs.Char.{digit_value}
use Rattle.tg_bytes.specs.Digits.{IsDigits}
use Rattle.std.proofs.lemmas.Int.Digits.{digits_more, digits_value_more}
use Rattle.tg_bytes.proofs.DigitSteps.{digit_at, digit_more, below_top}
use Rattle.tg_bytes.proofs.digits.number_of.Goals as goal

pub returns-in_err-digit : goal.returns-in_err-digit
returns-in_err-digit c =
    subst (λ (r : Option ℕ). MatchOption r ((number : ℕ) → IsDigits c.args.text.now number → ⊥) (IsDigits c.args.text.now)) (sym c.from_residual.ensures)
    (λ number i. omega (arith, c.in_err-digit.ensures, digit_at c.args.text.now c.loop-byte.byte-index i.digits.1 c.loop-byte-test.true))

pub overflow_mul-number : goal.overflow_mul-number
overflow_mul-number c =
    omega (arith, digit_more c.loop-byte.number 0 c.loop-byte.byte-index c.loop-byte.invariant.2 (omega arith), below_top c.loop-byte.byte-index (omega arith))

pub overflow_add-number : goal.overflow_add-number
overflow_add-number c =
    omega (arith, digit_more c.loop-byte.number c.in_ok-digit.digit c.loop-byte.byte-index c.loop-byte.invariant.2 c.in_ok-digit.ensures.1, below_top c.loop-byte.byte-index (omega arith))

pub loop-byte-preserved : goal.loop-byte-preserved
loop-byte-preserved c =
    let text = c.args.text.now in
    let i = c.loop-byte.byte-index in
    let digit_is : c.in_ok-digit.digit ≡ digit_value (get_or text i 0) = c.in_ok-digit.ensures.0 in
    let small : c.in_ok-digit.digit < 10 = c.in_ok-digit.ensures.1 in (
      ap₂ (λ (n d : ℕ). n * 10 + d) c.loop-byte.invariant.0 digit_is ∙ sym (digits_value_more 10 text i c.loop-byte-test.true),
      digits_more 10 text i c.loop-byte-test.true c.loop-byte.invariant.1 (omega arith),
      digit_more c.loop-byte.number c.in_ok-digit.digit i c.loop-byte.invariant.2 small,
    )
