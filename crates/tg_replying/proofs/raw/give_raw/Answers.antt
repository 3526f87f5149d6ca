use Rattle.std.proofs.Common.{List, None, Option, Some, ap, subst, sym, ℕ, ◌∙◌}
use Rattle.tg_cid.specs.Cid.{CidParts}
use Rattle.tg_model.specs.Stores.{looked_in}
use Rattle.tg_replying.proofs.Sending.{known_ends, nothing_given}
use Rattle.tg_replying.proofs.SendingBlocks.{AsksRaw, block_sent, break_sent, none_sent}
use Rattle.tg_replying.specs.Bodies.{giving_in}
use Rattle.tg_replying.specs.Replying.{FindsBlock}
use Rattle.tg_reply.specs.Shapes.{SentOver}
use Rattle.tg_streams.specs.Gathering.{gave_nothing}
use Rattle.tg_replying.proofs.raw.give_raw.Goals as goal

pub returns-in-Ok-Some-clause-ends : goal.returns-in-Ok-Some-clause-ends
returns-in-Ok-Some-clause-ends g c =
    let told = g.B.Blocks.blocks.stored c.args.blocks.now in
    let lookups = looked_in g.B.Blocks.blocks c.args.blocks.now c.find_block.new.blocks in
    let pathless = c.raw_queries.ensures c.args.head.now c.args.query.now c.requires.asked c.requires.raw in
    let asks : AsksRaw c.args.head.now c.args.query.now =
    record { asked_is = c.requires.asked; raw = c.requires.raw; pathless = pathless } in
    let finds : FindsBlock c.args.query.now.root told (Some c.as_slice.result.now) =
    subst (λ (cid : CidParts). FindsBlock cid told (Some c.as_slice.result.now)) c.root.ensures
    (subst (λ (found : Option (List ℕ)). FindsBlock c.root.result told found)
    (c.in-Ok-Some.field-0-is ∙ ap (λ (block : List ℕ). Some block) (sym c.as_slice.ensures))
    c.in-Ok-Some.ensures.finds.0) in
    known_ends (SentOver told) c.args.head.now lookups
    (giving_in g.S.Sink.sink c.args.gathering.now c.give_block.new.gathering c.args.out.now c.give_block.new.out) _ _
    c.give_block.result
    (block_sent told c.args.head.now lookups c.args.query.now c.as_slice.result.now c.stored_blocks.ensures asks
    finds.block c.in-Ok-Some.ensures.finds.1)
    c.give_block.ensures.gives c.give_block.ensures.failed

pub returns-in-Ok-None-clause-ends : goal.returns-in-Ok-None-clause-ends
returns-in-Ok-None-clause-ends g c =
    let told = g.B.Blocks.blocks.stored c.args.blocks.now in
    let lookups = looked_in g.B.Blocks.blocks c.args.blocks.now c.find_block.new.blocks in
    let pathless = c.raw_queries.ensures c.args.head.now c.args.query.now c.requires.asked c.requires.raw in
    let asks : AsksRaw c.args.head.now c.args.query.now =
    record { asked_is = c.requires.asked; raw = c.requires.raw; pathless = pathless } in
    let finds : FindsBlock c.args.query.now.root told None =
    subst (λ (cid : CidParts). FindsBlock cid told None) c.root.ensures
    (subst (λ (found : Option (List ℕ)). FindsBlock c.root.result told found) c.in-Ok-None.field-0-is
    c.in-Ok-None.ensures.finds.0) in
    known_ends (SentOver told) c.args.head.now lookups
    (giving_in g.S.Sink.sink c.args.gathering.now c.give_refusal.new.gathering c.args.out.now c.give_refusal.new.out)
    _ _ c.give_refusal.result
    (none_sent told c.args.head.now lookups c.args.query.now c.stored_blocks.ensures asks finds.block
    finds.identity c.in-Ok-None.ensures.finds.1)
    c.give_refusal.ensures.gives c.give_refusal.ensures.failed

pub returns-in-Err-Refused-clause-ends : goal.returns-in-Err-Refused-clause-ends
returns-in-Err-Refused-clause-ends g c =
    let told = g.B.Blocks.blocks.stored c.args.blocks.now in
    let lookups = looked_in g.B.Blocks.blocks c.args.blocks.now c.find_block.new.blocks in
    let e = rw c.in-Err-Refused.field-0-is at c.in-Err-Refused.ensures.finds in
    known_ends (SentOver told) c.args.head.now lookups
    (giving_in g.S.Sink.sink c.args.gathering.now c.give_refusal-in-Err-Refused.new.gathering c.args.out.now
    c.give_refusal-in-Err-Refused.new.out) _ _ c.give_refusal-in-Err-Refused.result
    (break_sent told c.args.head.now lookups c.args.query.now c.in-Err-Refused.refusal c.requires.asked e.0 e.2)
    c.give_refusal-in-Err-Refused.ensures.gives c.give_refusal-in-Err-Refused.ensures.failed

pub returns-in-Err-OutOfMemory-clause-ends : goal.returns-in-Err-OutOfMemory-clause-ends
returns-in-Err-OutOfMemory-clause-ends g c =
    nothing_given (g.B.Blocks.blocks.stored c.args.blocks.now) c.args.head.now
    (looked_in g.B.Blocks.blocks c.args.blocks.now c.find_block.new.blocks)
    (giving_in g.S.Sink.sink c.args.gathering.now c.args.gathering.now c.args.out.now c.args.out.now)
    (gave_nothing _ g.S.Sink.sink c.args.out.now c.args.gathering.now (g.met.S.Sink.rests c.args.out.now))
