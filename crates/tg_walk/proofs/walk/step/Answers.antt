use Rattle.std.proofs.Common.{Err, Ok, Option, Some, ap, subst, sym, ◌∙◌}
use Rattle.std.proofs.lemmas.Result.{err_from_is_err_and}
use Rattle.tg_walk.proofs.Fewer.{fewer_next}
use Rattle.tg_walk.proofs.Lookups.{alone_before, once_bad, once_failed, once_gone, once_nothing}
use Rattle.tg_walk.proofs.Passing.{not_done}
use Rattle.tg_walk.proofs.WalkSteps.{ends_there, found_in, front_there, goes_on, gone_there, stops_at_block, stops_before, stops_deep, store_stops}
use Rattle.tg_walk.specs.Walks.{IsNextPlace}
use Rattle.tg_traversal.specs.declared.position.Wanted.{Wanted}
use Rattle.tg_walk.proofs.walk.step.Goals as goal

pub returns-in_err-place-clause-stands : goal.returns-in_err-place-clause-stands
returns-in_err-place-clause-stands g c store sections told on =
    let p = err_from_is_err_and c.from_residual.result c.from_residual.ensures.1 in
    rw (p.1, p.2) (stops_before c.store_walks.ensures c.args.most c.args.frames.now c.next_place.new.frames store sections c.in_err-place.field-0.0 c.next_place.ensures.query on c.in_err-place.ensures.next)

pub returns-in_default-clause-stands : goal.returns-in_default-clause-stands
returns-in_default-clause-stands g c store sections told on =
    ends_there c.store_walks.ensures c.args.most c.args.frames.now c.next_place.new.frames store sections c.next_place.ensures.query on
    (subst (λ (found : Option Wanted). IsNextPlace c.args.frames.now (Ok found) c.next_place.new.frames) c.in_default.is c.in_ok-place.ensures.next)

pub returns-in_default-clause-there : goal.returns-in_default-clause-there
returns-in_default-clause-there g c at wanted =
    not_done c.args.frames.now c.next_place.new.frames at wanted (subst (λ (found : Option Wanted). IsNextPlace c.args.frames.now (Ok found) c.next_place.new.frames) c.in_default.is c.in_ok-place.ensures.next)

pub returns-then-place-most-clause-stands : goal.returns-then-place-most-clause-stands
returns-then-place-most-clause-stands g c store sections told on =
    stops_deep c.store_walks.ensures c.args.most c.args.frames.now c.next_place.new.frames store sections c.in-Some.place c.next_place.ensures.query on
    (subst (λ (found : Option Wanted). IsNextPlace c.args.frames.now (Ok found) c.next_place.new.frames) c.in-Some.is c.in_ok-place.ensures.next) c.if-place-most.true

pub returns-in_err-block-clause-stands : goal.returns-in_err-block-clause-stands
returns-in_err-block-clause-stands g c store sections told on =
    let p = err_from_is_err_and c.from_residual-in_err-block.result c.from_residual-in_err-block.ensures.1 in
    rw (p.1, p.2) (store_stops c.next_place.new.frames.query c.args.most store _ c.in_err-block.field-0.0
    (front_there c.store_walks.ensures c.args.most c.args.frames.now c.next_place.new.frames store sections c.in-Some.place c.next_place.ensures.query on
    (subst (λ (found : Option Wanted). IsNextPlace c.args.frames.now (Ok found) c.next_place.new.frames) c.in-Some.is c.in_ok-place.ensures.next)))

pub returns-in_default-2-clause-stands : goal.returns-in_default-2-clause-stands
returns-in_default-2-clause-stands g c store sections told on =
    gone_there c.store_walks.ensures c.args.most c.args.frames.now c.next_place.new.frames store sections c.in-Some.place c.next_place.ensures.query on
    (subst (λ (found : Option Wanted). IsNextPlace c.args.frames.now (Ok found) c.next_place.new.frames) c.in-Some.is c.in_ok-place.ensures.next)
    c.requires c.if-place-most.false
    (found_in _ store c.in-Some.place.cid c.in_ok-block.field-0 told c.in_ok-block.ensures.found ∙ c.in_default-2.is)

pub returns-in_err-open-clause-stands : goal.returns-in_err-open-clause-stands
returns-in_err-open-clause-stands g c store sections told on =
    let p = err_from_is_err_and c.from_residual-in_err-open.result c.from_residual-in_err-open.ensures.1 in
    rw (p.1, p.2) (stops_at_block c.store_walks.ensures c.args.most c.args.frames.now c.next_place.new.frames c.open.new.frames store sections c.in-Some.place c.in-Some-2.block c.in_err-open.field-0.0
    c.requires c.next_place.ensures.query c.open.ensures.query on
    (subst (λ (found : Option Wanted). IsNextPlace c.args.frames.now (Ok found) c.next_place.new.frames) c.in-Some.is c.in_ok-place.ensures.next)
    c.if-place-most.false (found_in _ store c.in-Some.place.cid c.in_ok-block.field-0 told c.in_ok-block.ensures.found ∙ c.in-Some-2.is) c.in_err-open.ensures.opened)

pub returns-clause-stands : goal.returns-clause-stands
returns-clause-stands g c store sections told on =
    goes_on c.store_walks.ensures c.args.most c.args.frames.now c.next_place.new.frames c.open.new.frames store sections c.in-Some.place c.in-Some-2.block _
    c.requires c.next_place.ensures.query c.open.ensures.query on
    (subst (λ (found : Option Wanted). IsNextPlace c.args.frames.now (Ok found) c.next_place.new.frames) c.in-Some.is c.in_ok-place.ensures.next)
    c.if-place-most.false (found_in _ store c.in-Some.place.cid c.in_ok-block.field-0 told c.in_ok-block.ensures.found ∙ c.in-Some-2.is) c.in_ok-open.ensures.opened

pub returns-clause-fewer : goal.returns-clause-fewer
returns-clause-fewer g c =
    fewer_next c.args.most c.args.frames.now c.next_place.new.frames c.open.new.frames c.in-Some.place
    (subst (λ (found : Option Wanted). IsNextPlace c.args.frames.now (Ok found) c.next_place.new.frames) c.in-Some.is c.in_ok-place.ensures.next) c.if-place-most.false c.in_ok-open.ensures.fewer

pub returns-in_err-place-clause-looked : goal.returns-in_err-place-clause-looked
returns-in_err-place-clause-looked g c =
    let p = err_from_is_err_and c.from_residual.result c.from_residual.ensures.1 in
    rw (p.1, p.2) (once_nothing g.B.Blocks.blocks c.args.blocks.now (Err c.in_err-place.field-0.0) (g.met.B.Blocks.rests c.args.blocks.now)
    (alone_before c.args.frames.now c.next_place.new.frames c.in_err-place.field-0.0 c.in_err-place.ensures.next))

pub returns-in_err-block-clause-looked : goal.returns-in_err-block-clause-looked
returns-in_err-block-clause-looked g c =
    let p = err_from_is_err_and c.from_residual-in_err-block.result c.from_residual-in_err-block.ensures.1 in
    rw (p.1, p.2) (once_failed c.in-Some.place.cid c.in_err-block.field-0.0 _ c.in_err-block.ensures.looked)

pub returns-in_default-2-clause-looked : goal.returns-in_default-2-clause-looked
returns-in_default-2-clause-looked g c =
    once_gone c.in-Some.place.cid c.in_ok-block.field-0 _ c.in_ok-block.ensures.looked c.in_ok-block.ensures.identity c.in_default-2.is

pub returns-in_err-open-clause-looked : goal.returns-in_err-open-clause-looked
returns-in_err-open-clause-looked g c =
    let p = err_from_is_err_and c.from_residual-in_err-open.result c.from_residual-in_err-open.ensures.1 in
    let next : IsNextPlace c.args.frames.now (Ok (Some c.in-Some.place)) c.next_place.new.frames =
    subst (λ (found : Option Wanted). IsNextPlace c.args.frames.now (Ok found) c.next_place.new.frames) c.in-Some.is c.in_ok-place.ensures.next in
    rw (p.1, p.2) (once_bad c.in-Some.place.cid c.in_ok-block.field-0 _ c.next_place.new.frames c.open.new.frames next.0 c.in-Some-2.block c.in_err-open.field-0.0 c.in_ok-block.ensures.looked
    (sym (ap (λ (wanted : Wanted). wanted.cid) next.2)) (c.in_err-open.ensures.opened next.0 next.1))
