use Rattle.std.proofs.Common.{◌≡◌, Err, ap}
use Rattle.std.proofs.lemmas.Result.{err_from_is_err_and}
use Rattle.tg_pbtable.specs.declared.fault.PbFault.{PbFault}
use Rattle.tg_dagpb.proofs.reading.check.Goals as goal

pub returns-in_err-payload_at-clause-only : goal.returns-in_err-payload_at-clause-only
returns-in_err-payload_at-clause-only c = λ node text. absurd (c.in_err-payload_at.ensures.only node text)

pub returns-in_err-payload_at-clause-given : goal.returns-in_err-payload_at-clause-given
returns-in_err-payload_at-clause-given c = λ fault cause.
    let p = err_from_is_err_and c.from_residual.result c.from_residual.ensures.1 in
    let given = c.in_err-payload_at.ensures.given fault cause in
    let same : c.in_err-payload_at.field-0.0 ≡ fault = cc given in
    rw (p.1, p.2) (ap (λ (x : PbFault). Err x) same)

pub returns-clause-given : goal.returns-clause-given
returns-clause-given c = λ fault cause.
    let given = c.in_ok-payload_at.ensures.given fault cause in
    absurd (cc given)
