use Rattle.std.proofs.Common.{Err, ap, inl, inr}
use Rattle.std.proofs.lemmas.Result.{err_from_is_err_and}
use Rattle.tg_pbtable.specs.declared.fault.PbFault.{PbFault}
use Rattle.tg_pbtable.specs.Message.{Message}
use Rattle.tg_pbtable.proofs.Causes.{no_cause}
use Rattle.tg_pbtable.proofs.Spellings.{one_reading}
use Rattle.tg_pbtable.proofs.Scanning.{only_oom, that_one}
use Rattle.tg_pbtable.proofs.Tables.{places_inside}
use Rattle.tg_pbtable.proofs.reading.scan.Goals as goal

pub loop-fields-init : goal.loop-fields-init
loop-fields-init g c = rw c.new-fields.ensures.items (c.new-cursor.ensures.read c.args.rules.now c.args.order c.args.bytes.now c.told-rules)

pub returns-in_err-field-clause-only : goal.returns-in_err-field-clause-only
returns-in_err-field-clause-only g c = λ fields m.
    let p = err_from_is_err_and c.from_residual.result c.from_residual.ensures.1 in
    rw (p.1, p.2) (only_oom c.args.rules.now c.args.order c.args.bytes.now c.in_err-field.field-0.0 c.requires (inr (c.in_err-field.ensures.next c.loop-fields.fields.items c.loop-fields.invariant)) fields m)

pub returns-in_err-field-clause-given : goal.returns-in_err-field-clause-given
returns-in_err-field-clause-given g c = λ fault h.
    let p = err_from_is_err_and c.from_residual.result c.from_residual.ensures.1 in
    rw (p.1, p.2) (elim (that_one c.args.rules.now c.args.order c.args.bytes.now c.in_err-field.field-0.0 c.requires (inr (c.in_err-field.ensures.next c.loop-fields.fields.items c.loop-fields.invariant)) fault h)
    [ inl e ↦ inl (ap (λ (x : PbFault). Err x) e) | inr e ↦ inr (ap (λ (x : PbFault). Err x) e) ])

pub returns-clause-places : goal.returns-clause-places
returns-clause-places g c =
    let message : Message c.args.rules.now c.args.order c.args.bytes.now c.loop-fields.fields.items = rw c.in_default.is at (c.in_ok-field.ensures.next c.loop-fields.fields.items c.loop-fields.invariant) in
    rw c.new.ensures (places_inside c.args.bytes.now c.loop-fields.fields.items message.spelled)

pub returns-clause-only : goal.returns-clause-only
returns-clause-only g c = λ fields m.
    let message : Message c.args.rules.now c.args.order c.args.bytes.now c.loop-fields.fields.items = rw c.in_default.is at (c.in_ok-field.ensures.next c.loop-fields.fields.items c.loop-fields.invariant) in
    rw c.new.ensures (one_reading 0 c.args.bytes.now c.loop-fields.fields.items fields message.spelled m.spelled)

pub returns-clause-given : goal.returns-clause-given
returns-clause-given g c = λ fault h.
    let message : Message c.args.rules.now c.args.order c.args.bytes.now c.loop-fields.fields.items = rw c.in_default.is at (c.in_ok-field.ensures.next c.loop-fields.fields.items c.loop-fields.invariant) in
    absurd (no_cause c.args.rules.now c.args.order c.args.bytes.now c.loop-fields.fields.items fault c.requires message h)
