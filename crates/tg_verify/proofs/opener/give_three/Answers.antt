use Rattle.tg_verify.proofs.Pieces.{fails_second, fails_third, gives_three}
use Rattle.tg_verify.proofs.opener.give_three.Goals as goal

pub returns-in_err-give-2-clause-err_front : goal.returns-in_err-give-2-clause-err_front
returns-in_err-give-2-clause-err_front g c =
    fails_second g.S.Sink.sink c.args.out.now c.give.new.sink c.give-2.new.sink c.args.line.now c.args.bytes.now c.args.ends.now c.args.gathering.now c.give.new.self
    c.from_residual-in_err-give-2.result g.met.S.Sink.joins c.requires c.in_ok-give.ensures.gave c.in_err-give-2.ensures.err_front

pub returns-clause-gave : goal.returns-clause-gave
returns-clause-gave g c =
    gives_three g.S.Sink.sink c.args.out.now c.give.new.sink c.give-2.new.sink c.give-3.new.sink c.args.line.now c.args.bytes.now c.args.ends.now
    c.args.gathering.now c.give.new.self c.give-2.new.self c.give-3.new.self c.give-3.result g.met.S.Sink.joins c.requires
    c.in_ok-give.ensures.gave c.in_ok-give-2.ensures.gave c.give-3.ensures.gave

pub returns-clause-err_front : goal.returns-clause-err_front
returns-clause-err_front g c =
    fails_third g.S.Sink.sink c.args.out.now c.give.new.sink c.give-2.new.sink c.give-3.new.sink c.args.line.now c.args.bytes.now c.args.ends.now
    c.args.gathering.now c.give.new.self c.give-2.new.self c.give-3.result g.met.S.Sink.joins c.requires
    c.in_ok-give.ensures.gave c.in_ok-give-2.ensures.gave c.give-3.ensures.err_front
