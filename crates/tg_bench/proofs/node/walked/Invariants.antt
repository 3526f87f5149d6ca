use Rattle.std.proofs.Common.{◌-◌, length}
use Rattle.tg_dagpb.specs.Cursor.{IsCursor}
use Rattle.tg_bench.proofs.node.walked.Given as goal

abbrev pub invariant-loop-next : goal.invariant-loop-next
invariant-loop-next l = IsCursor l.block l.at

abbrev pub decreases-loop-next : goal.decreases-loop-next
decreases-loop-next l = length l.block - l.at
