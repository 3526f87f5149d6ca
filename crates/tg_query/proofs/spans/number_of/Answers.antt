use Rattle.std.proofs.Common.{◌∙◌}
use Rattle.tg_query.proofs.Digits.{none_read, number_read}
use Rattle.tg_query.proofs.spans.number_of.Goals as goal

pub returns-in_err-number-clause-number : goal.returns-in_err-number-clause-number
returns-in_err-number-clause-number c = c.from_residual.ensures ∙ none_read c.args.text.now c.in_err-number.ensures

pub returns-clause-number : goal.returns-clause-number
returns-clause-number c = c.then_some.ensures ∙ number_read c.args.text.now c.in_ok-number.number c.in_ok-number.ensures
