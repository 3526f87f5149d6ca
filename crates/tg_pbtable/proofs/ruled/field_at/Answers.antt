use Rattle.std.proofs.Common.{Err, refl, ap}
use Rattle.std.proofs.lemmas.Result.{err_from_is_err_and}
use Rattle.tg_pbtable.specs.declared.fault.PbFault.{PbFault}
use Rattle.tg_pbtable.proofs.Places.{next_inside, stands_at, lies_in, one_at, not_refused, one_refusal}
use Rattle.tg_pbtable.proofs.Between.{none_ahead, next_field}
use Rattle.tg_pbtable.proofs.ruled.field_at.Goals as goal

pub returns-in_err-field-clause-only : goal.returns-in_err-field-clause-only
returns-in_err-field-clause-only g c = λ field next s. absurd (not_refused c.args.rules.now c.args.bytes.now c.args.at field next c.in_err-field.field-0.0 c.requires.table s c.in_err-field.ensures)

pub returns-clause-found : goal.returns-clause-found
returns-clause-found g c =
    let s = stands_at c.args.rules.now c.args.bytes.now c.args.at _ c.in_ok-field.field c.in_ok-field.next c.in_ok-field.ensures in
    (s, lies_in c.args.rules.now c.args.bytes.now c.args.at c.in_ok-field.field c.in_ok-field.next c.requires.inside s, next_inside c.args.rules.now c.args.bytes.now c.args.at _ c.in_ok-field.field c.in_ok-field.next c.requires.inside c.in_ok-field.ensures)

pub returns-clause-only : goal.returns-clause-only
returns-clause-only g c = λ field next s.
    let same = one_at c.args.rules.now c.args.bytes.now c.args.at c.in_ok-field.field field c.in_ok-field.next next (stands_at c.args.rules.now c.args.bytes.now c.args.at _ c.in_ok-field.field c.in_ok-field.next c.in_ok-field.ensures) s in
    rw (same.0, same.1) refl

pub returns-clause-given : goal.returns-clause-given
returns-clause-given g c = λ fault h.
    absurd (not_refused c.args.rules.now c.args.bytes.now c.args.at c.in_ok-field.field c.in_ok-field.next fault c.requires.table (stands_at c.args.rules.now c.args.bytes.now c.args.at _ c.in_ok-field.field c.in_ok-field.next c.in_ok-field.ensures) h)

pub returns-in_err-field-clause-given : goal.returns-in_err-field-clause-given
returns-in_err-field-clause-given g c = λ fault h.
    let p = err_from_is_err_and c.from_residual.result c.from_residual.ensures.1 in
    rw (p.1, p.2) (ap (λ (x : PbFault). Err x) (one_refusal c.args.rules.now c.args.at _ c.in_err-field.field-0.0 fault c.requires.table c.in_err-field.ensures h))

pub returns-clause-between : goal.returns-clause-between
returns-clause-between g c = λ order behind ahead b.
    next_field c.args.rules.now order c.args.bytes.now c.args.at behind ahead c.in_ok-field.field c.in_ok-field.next
    (stands_at c.args.rules.now c.args.bytes.now c.args.at _ c.in_ok-field.field c.in_ok-field.next c.in_ok-field.ensures) b

pub returns-in_err-field-clause-between : goal.returns-in_err-field-clause-between
returns-in_err-field-clause-between g c = λ order behind ahead b.
    let p = err_from_is_err_and c.from_residual.result c.from_residual.ensures.1 in
    rw p.1 (none_ahead c.args.rules.now order c.args.bytes.now c.args.at behind ahead b
    (λ field next s. not_refused c.args.rules.now c.args.bytes.now c.args.at field next c.in_err-field.field-0.0 c.requires.table s c.in_err-field.ensures))
