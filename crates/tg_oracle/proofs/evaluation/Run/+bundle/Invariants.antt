use Rattle.std.proofs.Common.{◌<◌}
use Rattle.tg_oracle.proofs.evaluation.Run.+bundle.Given as goal

abbrev pub decreases-bundle : goal.decreases-bundle
decreases-bundle l = l.depth

abbrev pub invariant-loop-number : goal.invariant-loop-number
invariant-loop-number l = l.left < l.fn.depth
