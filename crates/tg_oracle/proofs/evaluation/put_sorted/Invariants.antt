use Rattle.std.proofs.Common.{◌≤◌}
use Rattle.tg_oracle.proofs.evaluation.put_sorted.Given as goal

abbrev pub invariant-loop-entry : goal.invariant-loop-entry
invariant-loop-entry l = l.at ≤ l.entry-index
