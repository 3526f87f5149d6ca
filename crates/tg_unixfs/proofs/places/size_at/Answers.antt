use Rattle.std.proofs.Common.{[], ◌∷◌, ◌++◌, refl, arith}
use Rattle.tg_pbtable.specs.declared.table.Order.TheVariants.{Ascending}
use Rattle.tg_pbtable.specs.Cursor.{StandsAt}
use Rattle.tg_pbtable.specs.Taking.{one_passed}
use Rattle.tg_pbtable.specs.Values.{numbers_at}
use Rattle.tg_unixfs.specs.declared.TheConstants.{DATA}
use Rattle.tg_unixfs.specs.Places.{IsBetween}
use Rattle.tg_unixfs.proofs.Placing.{between_end, between_past, between_next}
use Rattle.tg_unixfs.proofs.places.size_at.Goals as goal

pub returns-in-Some-clause-next : goal.returns-in-Some-clause-next
returns-in-Some-clause-next c = λ behind ahead between.
    let here = c.loop-field.invariant.same behind ahead between in
    let next = c.in-Ok.ensures.between Ascending here.front here.rest here.fields in
    let h = between_next c.table_laws.ensures c.args.bytes.now c.loop-field.from behind ahead (c.in-Some.size ∷ []) (numbers_at 4 next.more) c.in-Ok.field c.in-Ok.next c.in-Some.ensures here next refl in
    (numbers_at 4 next.more, h.0, h.1)

pub returns-in-Some-clause-cursor : goal.returns-in-Some-clause-cursor
returns-in-Some-clause-cursor c =
    let cursor = c.loop-field.invariant.cursor in
    let next = c.in-Ok.ensures.between Ascending cursor.2.front cursor.2.rest cursor.2.fields in
    let h = between_next c.table_laws.ensures c.args.bytes.now c.loop-field.from cursor.0 cursor.1 (c.in-Some.size ∷ []) (numbers_at 4 next.more) c.in-Ok.field c.in-Ok.next c.in-Some.ensures cursor.2 next refl in
    (cursor.0 ++ c.in-Some.size ∷ [], numbers_at 4 next.more, h.1)

pub loop-field-preserved : goal.loop-field-preserved
loop-field-preserved c =
    let stands : StandsAt DATA.now c.args.bytes.now c.loop-field.from c.in-Ok.field c.in-Ok.next = c.in-Ok.ensures.found.0 in
    let none = c.in_default-size_of.ensures in
    one_passed (IsBetween c.args.bytes.now) c.args.at c.loop-field.from c.in-Ok.next
    (λ behind ahead here. between_past c.table_laws.ensures c.args.bytes.now c.loop-field.from behind ahead c.in-Ok.field c.in-Ok.next none here (c.in-Ok.ensures.between Ascending here.front here.rest here.fields))
    (omega (arith, stands.next_is)) c.loop-field.invariant

pub returns-clause-next : goal.returns-clause-next
returns-clause-next c = λ behind ahead between.
    let here = c.loop-field.invariant.same behind ahead between in
    between_end c.args.bytes.now c.loop-field.from behind ahead here (c.in_default.ensures.between Ascending here.front here.rest here.fields)
