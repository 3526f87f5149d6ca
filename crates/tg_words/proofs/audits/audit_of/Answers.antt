use Rattle.std.proofs.Common.{Ok, Err, ap}
use Rattle.std.proofs.lemmas.Result.{err_from_is_err_and}
use Rattle.tg_words.specs.AuditLines.{audit_names}
use Rattle.tg_words.specs.Operands.{givens}
use Rattle.tg_words.proofs.AuditAnswers.{audit_form}
use Rattle.tg_words.proofs.Lines.{audit_lines}
use Rattle.tg_words.proofs.Positional.{answered, no_operands, none_only}
use Rattle.tg_words.proofs.audits.audit_of.Goals as goal

pub returns-in_err-options : goal.returns-in_err-options
returns-in_err-options c =
    let p = err_from_is_err_and c.from_residual.result c.from_residual.ensures.1 in
    rw (p.1, p.2) (no_operands audit_form _ _ audit_lines (λ none. c.in_err-options.ensures.only))

pub returns-in_err-audit : goal.returns-in_err-audit
returns-in_err-audit c =
    let p = err_from_is_err_and c.from_residual-in_err-audit.result c.from_residual-in_err-audit.ensures.1 in
    rw (p.1, p.2)
    (answered audit_form _ tt _ _ (Err c.in_err-audit.field-0.0) audit_lines (ap givens c.as_slice.ensures.value)
    c.in_ok-options.ensures.found (none_only audit_names _ _ c.in_ok-options.ensures.only) c.in_err-audit.ensures)

pub returns : goal.returns
returns c =
    answered audit_form _ tt _ _ (Ok c.in_ok-audit.audit) audit_lines (ap givens c.as_slice.ensures.value)
    c.in_ok-options.ensures.found (none_only audit_names _ _ c.in_ok-options.ensures.only) c.in_ok-audit.ensures
