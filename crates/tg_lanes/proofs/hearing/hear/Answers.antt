use Rattle.std.proofs.Common.{ℕ, ap, arith, length-take, refl, take}
use Rattle.std.proofs.lemmas.Result.{err_from_is_err_and}
use Rattle.tg_lanes.proofs.Heard.{heard_end, heard_fault, heard_piece}
use Rattle.tg_model.specs.Stores.{looked_in}
use Rattle.tg_lanes.proofs.hearing.hear.Goals as goal

pub returns-in_err-size-clause-heard : goal.returns-in_err-size-clause-heard
returns-in_err-size-clause-heard g c =
    let p = err_from_is_err_and c.from_residual.result c.from_residual.ensures.1 in
    heard_fault g.K.Link.link g.K.Source.source g.met.K.Link.hears (g.B.Blocks.blocks.stored c.args.lanes.now.blocks) c.args.lanes.now c.args.lanes.now c.args.lane
    (g.B.Blocks.blocks.faults c.args.lanes.now.blocks) c.args.link.now c.take.new.self _ c.in_err-size.ensures.err_untaken.moved c.in_err-size.ensures.err_rose
    (rw (p.1, p.2) refl) refl

pub returns-then-size-eq0-clause-heard : goal.returns-then-size-eq0-clause-heard
returns-then-size-eq0-clause-heard g c =
    let ends = c.event.ensures.ends in
    heard_end g.K.Link.link g.K.Source.source g.met.K.Link.hears (g.B.Blocks.blocks.stored c.args.lanes.now.blocks) c.args.lanes.now c.event.new.self c.args.lane
    (g.B.Blocks.blocks.faults c.args.lanes.now.blocks) (g.B.Blocks.blocks.faults c.event.new.self.blocks) c.args.link.now c.take.new.self c.event.new.out
    (take c.in_ok-size.size c.take.new.buf) c.event.result (ap (λ (n : ℕ). take n c.take.new.buf) c.if-size-eq0.true) c.in_ok-size.ensures.took.moved
    c.in_ok-size.ensures.quiet ends.2 (g.met.K.Link.ends c.take.new.self (c.in_ok-size.ensures.end c.if-size-eq0.true (omega arith)).ended) ends.0 ends.1 c.event.ensures.stands

pub returns-clause-heard : goal.returns-clause-heard
returns-clause-heard g c =
    heard_piece g.K.Link.link g.K.Source.source g.met.K.Link.hears (g.B.Blocks.blocks.stored c.args.lanes.now.blocks) c.args.lanes.now c.event-2.new.self c.args.lane
    g.K.Sink.sink g.met.K.Link.says g.met.K.Link.one_count (looked_in g.B.Blocks.blocks c.args.lanes.now.blocks c.event-2.new.self.blocks) c.args.link.now c.take.new.self c.event-2.new.out
    (take c.in_ok-size.size c.take.new.buf) c.event-2.result
    (let size = length-take c.in_ok-size.size c.take.new.buf in let within = c.in_ok-size.ensures.within in let some = c.if-size-eq0.false in omega (arith, size, within, some))
    c.in_ok-size.ensures.took.moved c.in_ok-size.ensures.quiet c.event-2.ensures.ends c.event-2.ensures.stands
