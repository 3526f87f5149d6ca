use Rattle.std.proofs.Common.{refl, ap}
use Rattle.std.proofs.lemmas.Result.{err_from_is_err_and}
use Rattle.tg_words.specs.Operands.{givens}
use Rattle.tg_words.proofs.VerifyAnswers.{verify_form}
use Rattle.tg_words.proofs.Lines.{verify_lines}
use Rattle.tg_words.proofs.Positional.{answered_by, no_operands}
use Rattle.tg_words.proofs.verifies.verify_of.Goals as goal

pub returns-in_err-target : goal.returns-in_err-target
returns-in_err-target c =
    let p = err_from_is_err_and c.from_residual.result c.from_residual.ensures.1 in
    rw (p.1, p.2) (no_operands verify_form _ _ verify_lines c.in_err-target.ensures.only)

pub returns : goal.returns
returns c =
    answered_by verify_form _ c.in_ok-target.target.now _ _ c.verify_with.result verify_lines (λ command. refl) (ap givens c.as_slice.ensures.value)
    c.in_ok-target.ensures.found c.in_ok-target.ensures.only c.verify_with.ensures
