use Rattle.std.proofs.Common.{◌-◌, length}
use Rattle.tg_body.proofs.Advancing.{Taken}
use Rattle.tg_body.proofs.reader.BodyReader.advance.Given as goal

abbrev pub invariant-loop-taken : goal.invariant-loop-taken
invariant-loop-taken l = Taken l.fn.self l.self l.piece l.at

abbrev pub decreases-loop-taken : goal.decreases-loop-taken
decreases-loop-taken l = length l.piece - l.at
