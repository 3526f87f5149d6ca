use Rattle.std.proofs.Common.{refl}
use Rattle.tg_model.specs.Stores.{looked_in}
use Rattle.tg_replying.proofs.Sending.{ask_refused, known_ends, nothing_given}
use Rattle.tg_replying.specs.Bodies.{giving_in}
use Rattle.tg_reply.specs.Shapes.{SentOver}
use Rattle.tg_streams.specs.Gathering.{gave_nothing}
use Rattle.tg_replying.proofs.reply.give_reply.Goals as goal

pub returns-in-Err-Refused-clause-ends : goal.returns-in-Err-Refused-clause-ends
returns-in-Err-Refused-clause-ends g c =
    let lookups = looked_in g.B.Blocks.blocks c.args.blocks.now c.args.blocks.now in
    let e = rw c.in-Err-Refused.field-0-is at c.in-Err-Refused.ensures in
    known_ends (SentOver (g.B.Blocks.blocks.stored c.args.blocks.now)) c.args.head.now lookups
    (giving_in g.S.Sink.sink c.args.gathering.now c.give_refusal.new.gathering c.args.out.now c.give_refusal.new.out)
    _ _ c.give_refusal.result
    (ask_refused (g.B.Blocks.blocks.stored c.args.blocks.now) c.args.head.now lookups c.in-Err-Refused.refusal e refl)
    c.give_refusal.ensures.gives c.give_refusal.ensures.failed

pub returns-clause-ends : goal.returns-clause-ends
returns-clause-ends g c =
    nothing_given (g.B.Blocks.blocks.stored c.args.blocks.now) c.args.head.now
    (looked_in g.B.Blocks.blocks c.args.blocks.now c.args.blocks.now)
    (giving_in g.S.Sink.sink c.args.gathering.now c.args.gathering.now c.args.out.now c.args.out.now)
    (gave_nothing _ g.S.Sink.sink c.args.out.now c.args.gathering.now (g.met.S.Sink.rests c.args.out.now))
