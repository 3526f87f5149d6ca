use Rattle.std.proofs.Common.{◌<◌}
use Rattle.tg_oracle.proofs.evaluation.Run.+list.Given as goal

abbrev pub decreases-list : goal.decreases-list
decreases-list l = l.depth

abbrev pub invariant-loop-slot : goal.invariant-loop-slot
invariant-loop-slot l = l.left < l.fn.depth
