use Rattle.tg_traversal.proofs.Reaches.{entries_passed}
use Rattle.tg_traversal.proofs.opening.entries_left.Goals as goal

pub returns-in-Entire-clause-tasks : goal.returns-in-Entire-clause-tasks
returns-in-Entire-clause-tasks c = λ depth. entries_passed c.args.reach depth c.args.entries c.in-Entire.is
