use Rattle.std.proofs.Common.{◌*◌, ◌≡◌, ◌≤◌, take}
use Rattle.tg_dir.proofs.directory.weight.Given as goal
use Rattle.tg_dir.specs.Weights.{weight_for}

abbrev pub invariant-loop-entry : goal.invariant-loop-entry
invariant-loop-entry l = (l.weight ≡ weight_for (take l.entry-index l.entries)) × (l.weight ≤ 388 * l.entry-index)
