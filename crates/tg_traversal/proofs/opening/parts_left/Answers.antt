use Rattle.std.proofs.Common.{arith}
use Rattle.tg_traversal.proofs.Reaches.{parts_are_left, parts_listed}
use Rattle.tg_traversal.proofs.opening.parts_left.Goals as goal

pub returns-in-Listed-clause-tasks : goal.returns-in-Listed-clause-tasks
returns-in-Listed-clause-tasks c = λ depth inline filesize parts h. parts_listed c.args.reach depth inline parts c.in-Listed.is

pub returns-clause-left : goal.returns-clause-left
returns-clause-left c =
    parts_are_left c.args.places c.args.block.now c.in_ok-block.block c.requires.0 c.requires.1 c.requires.2 c.match-reach.range (omega arith) c.in_ok-block.ensures.cases c.requires.3
