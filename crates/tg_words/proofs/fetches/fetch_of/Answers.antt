use Rattle.std.proofs.Common.{refl, ap}
use Rattle.std.proofs.lemmas.Result.{err_from_is_err_and}
use Rattle.tg_words.specs.FetchLines.{fetch_names}
use Rattle.tg_words.specs.Operands.{givens}
use Rattle.tg_words.proofs.FetchAnswers.{fetch_form}
use Rattle.tg_words.proofs.Lines.{fetch_lines}
use Rattle.tg_words.proofs.Positional.{answered_by, no_operands, two_only}
use Rattle.tg_words.proofs.fetches.fetch_of.Goals as goal

pub returns-in_err-addr : goal.returns-in_err-addr
returns-in_err-addr c =
    let p = err_from_is_err_and c.from_residual.result c.from_residual.ensures.1 in
    rw (p.1, p.2) (no_operands fetch_form _ _ fetch_lines (λ pair options s. c.in_err-addr.ensures.only pair.0 pair.1 options s))

pub returns : goal.returns
returns c =
    answered_by fetch_form _ (c.in_ok-addr.addr.now, c.in_ok-addr.target.now) _ _ c.fetch_with.result fetch_lines (λ command. refl) (ap givens c.as_slice.ensures.value)
    c.in_ok-addr.ensures.found (two_only fetch_names _ _ _ _ c.in_ok-addr.ensures.only) c.fetch_with.ensures
