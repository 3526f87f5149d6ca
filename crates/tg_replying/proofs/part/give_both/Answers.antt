use Rattle.tg_replying.proofs.Giving.{give_ends, gives_then}
use Rattle.tg_replying.specs.Bodies.{giving_in}
use Rattle.tg_replying.proofs.part.give_both.Goals as goal

pub returns : goal.returns
returns g c =
    let back = give_ends (giving_in g.S.Sink.sink c.give.new.self c.give-2.new.self c.give.new.sink c.give-2.new.sink)
    c.args.back.now c.give-2.result c.give-2.ensures.gave c.give-2.ensures.err_front in
    gives_then g.S.Sink.sink c.args.out.now c.give.new.sink c.give-2.new.sink c.args.gathering.now c.give.new.self
    c.give-2.new.self c.args.front.now c.args.back.now c.give-2.result g.met.S.Sink.joins
    c.in_ok-give.ensures.gave back
