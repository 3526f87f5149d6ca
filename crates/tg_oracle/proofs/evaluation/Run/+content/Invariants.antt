use Rattle.std.proofs.Common.{◌<◌}
use Rattle.tg_oracle.proofs.evaluation.Run.+content.Given as goal

abbrev pub decreases-content : goal.decreases-content
decreases-content l = l.depth

abbrev pub invariant-loop-part : goal.invariant-loop-part
invariant-loop-part l = l.left < l.fn.depth
