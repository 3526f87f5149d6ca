use Rattle.std.proofs.Common.{refl}
use Rattle.std.proofs.lemmas.Result.{err_from_is_err_and}
use Rattle.tg_audit.proofs.AuditSteps.{unaudited_ends}
use Rattle.tg_streams.specs.Streams.{into}
use Rattle.tg_audit.proofs.auditing.audit.Goals as goal

pub returns-in_err-text : goal.returns-in_err-text
returns-in_err-text g c =
    let p = err_from_is_err_and c.from_residual.result c.from_residual.ensures.1 in
    let fault = c.in_err-text.field-0.0 in
    rw (p.1, p.2)
    (unaudited_ends c.args.seed c.args.files (into g.S.Sink.sink c.args.out.now c.args.out.now) fault c.in_err-text.ensures
    (c.denied_audits.ensures c.args.seed c.args.files fault c.requires.some c.requires.few c.in_err-text.ensures)
    (record { moved = g.met.S.Sink.rests c.args.out.now; held = refl }) refl)
