use Rattle.std.proofs.Common.{Option, refl, subst}
use Rattle.tg_model.specs.Stores.{Store, looked_in}
use Rattle.tg_replying.proofs.Looking.{looks_both}
use Rattle.tg_replying.proofs.Sending.{ends_since, known_ends, nothing_given, path_refused}
use Rattle.tg_replying.proofs.SendingCars.{AsksCar, head_ends}
use Rattle.tg_replying.specs.Bodies.{giving_in}
use Rattle.tg_replying.specs.Replying.{WrittenEnds}
use Rattle.tg_reply.specs.Shapes.{SentOver}
use Rattle.tg_streams.specs.Gathering.{gave_nothing}
use Rattle.tg_replying.proofs.car.give_car.Goals as goal

pub returns-in-Ok-clause-ends : goal.returns-in-Ok-clause-ends
returns-in-Ok-clause-ends g c =
    let asks : AsksCar c.args.head.now c.args.query.now =
    record { asked_is = c.requires.asked; car = c.requires.car } in
    let e = c.in-Ok.ensures.leads in
    head_ends g.S.Sink.sink g.met.S.Sink.joins (g.B.Blocks.blocks.stored c.args.blocks.now) c.args.head.now
    c.args.query.now c.in-Ok.found asks e.0
    (looked_in g.B.Blocks.blocks c.args.blocks.now c.leads.new.blocks)
    (giving_in g.S.Sink.sink c.args.gathering.now c.give_head.new.gathering c.args.out.now c.give_head.new.out)
    c.give_head.result e.1 c.give_head.ensures.gives c.give_head.ensures.failed

pub returns-in-Ok-2-clause-ends : goal.returns-in-Ok-2-clause-ends
returns-in-Ok-2-clause-ends g c =
    let giving =
    giving_in g.S.Sink.sink c.args.gathering.now c.give_sent.new.gathering c.args.out.now c.give_sent.new.out in
    let late = looked_in g.B.Blocks.blocks c.leads.new.blocks c.give_sent.new.blocks in
    let e = c.in-Ok.ensures.leads in
    subst (λ (told : Option Store). WrittenEnds (SentOver told) c.args.head.now
    (looked_in g.B.Blocks.blocks c.args.blocks.now c.give_sent.new.blocks) giving c.give_sent.result)
    c.in-Ok.ensures.looked.looked.stored
    (ends_since (SentOver (g.B.Blocks.blocks.stored c.leads.new.blocks)) c.args.head.now
    (looked_in g.B.Blocks.blocks c.args.blocks.now c.give_sent.new.blocks) late giving c.give_sent.result
    e.1 refl c.give_sent.ensures.ends)

pub returns-in-Ok-2-clause-looked : goal.returns-in-Ok-2-clause-looked
returns-in-Ok-2-clause-looked g c =
    looks_both g.B.Blocks.blocks c.args.blocks.now c.leads.new.blocks c.give_sent.new.blocks g.met.B.Blocks.joins
    c.in-Ok.ensures.looked c.give_sent.ensures.looked

pub returns-in-Err-Refused-clause-ends : goal.returns-in-Err-Refused-clause-ends
returns-in-Err-Refused-clause-ends g c =
    let lookups = looked_in g.B.Blocks.blocks c.args.blocks.now c.leads.new.blocks in
    let e = rw c.in-Err-Refused.field-0-is at c.in-Err-Refused.ensures.leads in
    known_ends (SentOver (g.B.Blocks.blocks.stored c.args.blocks.now)) c.args.head.now lookups
    (giving_in g.S.Sink.sink c.args.gathering.now c.give_refusal.new.gathering c.args.out.now c.give_refusal.new.out)
    _ _ c.give_refusal.result
    (path_refused (g.B.Blocks.blocks.stored c.args.blocks.now) c.args.head.now lookups c.args.query.now
    c.in-Err-Refused.refusal c.requires.asked e)
    c.give_refusal.ensures.gives c.give_refusal.ensures.failed

pub returns-in-Err-OutOfMemory-clause-ends : goal.returns-in-Err-OutOfMemory-clause-ends
returns-in-Err-OutOfMemory-clause-ends g c =
    nothing_given (g.B.Blocks.blocks.stored c.args.blocks.now) c.args.head.now
    (looked_in g.B.Blocks.blocks c.args.blocks.now c.leads.new.blocks)
    (giving_in g.S.Sink.sink c.args.gathering.now c.args.gathering.now c.args.out.now c.args.out.now)
    (gave_nothing _ g.S.Sink.sink c.args.out.now c.args.gathering.now (g.met.S.Sink.rests c.args.out.now))
