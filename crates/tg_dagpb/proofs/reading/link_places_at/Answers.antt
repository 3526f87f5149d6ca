use Rattle.std.proofs.Common.{[], ◌∷◌, ◌++◌, sym, ◌∙◌, arith}
use Rattle.tg_pbtable.specs.declared.table.Order.TheVariants.{Runs}
use Rattle.tg_pbtable.specs.Cursor.{StandsAt}
use Rattle.tg_pbtable.specs.Taking.{one_passed}
use Rattle.tg_dagpb.specs.declared.TheConstants.{NODE}
use Rattle.tg_dagpb.specs.Cursor.{IsBetween, placed_link}
use Rattle.tg_dagpb.proofs.Cursors.{between_end, between_past, between_text, between_link}
use Rattle.tg_dagpb.proofs.Checking.{link_there, link_not_there}
use Rattle.tg_dagpb.proofs.reading.link_places_at.Goals as goal

pub returns-in_err-places-clause-next : goal.returns-in_err-places-clause-next
returns-in_err-places-clause-next c = λ behind ahead between.
    let here = c.loop-field.invariant.same behind ahead between in
    let next = c.in-Ok.ensures.between Runs here.front here.rest here.fields in
    let text = between_text c.args.bytes.now c.loop-field.from behind ahead c.in-Ok.field c.in-Ok.next c.in-Some.start c.in-Some.end c.in-Some.ensures here next in
    absurd (link_not_there c.table_laws.ensures c.args.bytes.now c.in-Some.start c.in-Some.end c.link_between.result text.0 (sym c.ok.ensures.value ∙ c.in_err-places.was) c.link_between.ensures text.1)

pub returns-in-Some-clause-next : goal.returns-in-Some-clause-next
returns-in-Some-clause-next c = λ behind ahead between.
    let here = c.loop-field.invariant.same behind ahead between in
    let next = c.in-Ok.ensures.between Runs here.front here.rest here.fields in
    let is = link_there c.args.bytes.now c.in-Some.start c.in-Some.end c.link_between.result c.in_ok-places.places (sym c.ok.ensures.value ∙ c.in_ok-places.was) c.link_between.ensures in
    let passed = between_link c.table_laws.ensures c.args.bytes.now c.loop-field.from behind ahead c.in-Ok.field c.in-Ok.next c.in-Some.start c.in-Some.end (placed_link c.args.bytes.now c.in_ok-places.places) c.in-Some.ensures is.is_text here next in
    (passed.more, passed.ahead_is, passed.between)

pub returns-in-Some-clause-cursor : goal.returns-in-Some-clause-cursor
returns-in-Some-clause-cursor c =
    let cursor = c.loop-field.invariant.cursor in
    let next = c.in-Ok.ensures.between Runs cursor.2.front cursor.2.rest cursor.2.fields in
    let is = link_there c.args.bytes.now c.in-Some.start c.in-Some.end c.link_between.result c.in_ok-places.places (sym c.ok.ensures.value ∙ c.in_ok-places.was) c.link_between.ensures in
    let passed = between_link c.table_laws.ensures c.args.bytes.now c.loop-field.from cursor.0 cursor.1 c.in-Ok.field c.in-Ok.next c.in-Some.start c.in-Some.end (placed_link c.args.bytes.now c.in_ok-places.places) c.in-Some.ensures is.is_text cursor.2 next in
    (cursor.0 ++ placed_link c.args.bytes.now c.in_ok-places.places ∷ [], passed.more, passed.between)

pub returns-in-Some-clause-inside : goal.returns-in-Some-clause-inside
returns-in-Some-clause-inside c =
    (link_there c.args.bytes.now c.in-Some.start c.in-Some.end c.link_between.result c.in_ok-places.places (sym c.ok.ensures.value ∙ c.in_ok-places.was) c.link_between.ensures).inside

pub loop-field-preserved : goal.loop-field-preserved
loop-field-preserved c =
    let stands : StandsAt NODE.now c.args.bytes.now c.loop-field.from c.in-Ok.field c.in-Ok.next = c.in-Ok.ensures.found.0 in
    let none = c.in_default-link_place.ensures c.args.bytes.now in
    one_passed (IsBetween c.args.bytes.now) c.args.at c.loop-field.from c.in-Ok.next
    (λ behind ahead here. between_past c.table_laws.ensures c.args.bytes.now c.loop-field.from behind ahead c.in-Ok.field c.in-Ok.next none here (c.in-Ok.ensures.between Runs here.front here.rest here.fields))
    (omega (arith, stands.next_is)) c.loop-field.invariant

pub returns-clause-next : goal.returns-clause-next
returns-clause-next c = λ behind ahead between.
    let here = c.loop-field.invariant.same behind ahead between in
    between_end c.args.bytes.now c.loop-field.from behind ahead here (c.in_default.ensures.between Runs here.front here.rest here.fields)
