use Rattle.tg_traversal.proofs.Reaches.{slots_passed}
use Rattle.tg_traversal.specs.Places.{standing_of}
use Rattle.tg_traversal.proofs.opening.slots_left.Goals as goal

pub returns-in-Entire-clause-tasks : goal.returns-in-Entire-clause-tasks
returns-in-Entire-clause-tasks c = λ depth. slots_passed c.args.reach (standing_of c.args.position) depth c.args.slots c.in-Entire.is
