use Rattle.std.proofs.Common.{◌++◌}
use Rattle.tg_verify.proofs.Pieces.{fails_behind}
use Rattle.tg_verify.proofs.opener.put_together.Goals as goal

pub returns-clause-err_front : goal.returns-clause-err_front
returns-clause-err_front g c =
    fails_behind g.S.Sink.sink c.args.out.now c.give_three.new.out c.put_out.new.sink (c.args.line.now ++ (c.args.bytes.now ++ c.args.ends.now))
    c.give_three.new.gathering c.put_out.result g.met.S.Sink.joins c.in_ok-give_three.ensures.gave c.put_out.ensures.err_front
