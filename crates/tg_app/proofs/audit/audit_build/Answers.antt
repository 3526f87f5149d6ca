use Rattle.std.proofs.Common.{None, Some, arith, refl, subst, sym, ◌<◌, ◌≤◌}
use Rattle.std.specs.Prelude.{Result, ⊤}
use Rattle.tg_app.specs.Audits.{AuditAnswers, IsAuditEnd}
use Rattle.tg_audit.specs.declared.fault.AuditFault.{AuditFault}
use Rattle.tg_streams.specs.Streams.{into}
use Rattle.tg_words.specs.AuditLines.{AuditParts}
use Rattle.tg_app.proofs.audit.audit_build.Goals as goal

pub audit-requires-clause-some : goal.audit-requires-clause-some
audit-requires-clause-some g c = subst (λ (p : AuditParts). 0 < p.files) (sym c.asked.view_is) c.requires.some

pub audit-requires-clause-few : goal.audit-requires-clause-few
audit-requires-clause-few g c =
    let few = subst (λ (p : AuditParts). p.files ≤ 20000) (sym c.asked.view_is) c.requires.few in omega (arith, few)

pub returns-in-Ok : goal.returns-in-Ok
returns-in-Ok g c =
    let out = into g.O.Sink.sink c.args.out.now c.audit.new.out in
    subst (λ (p : AuditParts). AuditAnswers p out None) c.asked.view_is
    (record {
      result = c.audit.result;
      end_is = subst (λ (r : Result ⊤ AuditFault). IsAuditEnd r None) (sym c.in-Ok.is) refl;
      ends = c.audit.ensures;
    })

pub returns-in-Err : goal.returns-in-Err
returns-in-Err g c =
    let out = into g.O.Sink.sink c.args.out.now c.audit.new.out in
    let end = Some c.refusal_of_audit.result in
    subst (λ (p : AuditParts). AuditAnswers p out end) c.asked.view_is
    (record {
      result = c.audit.result;
      end_is = subst (λ (r : Result ⊤ AuditFault). IsAuditEnd r end) (sym c.in-Err.is) (c.refusal_of_audit.result, refl, c.refusal_of_audit.ensures);
      ends = c.audit.ensures;
    })
