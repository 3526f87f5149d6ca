use Rattle.std.proofs.Common.{◌≡◌, ◌-◌, ◌^◌, take, min}
use Rattle.tg_import.specs.Steps.{tsizes_for}
use Rattle.tg_import.proofs.folder.tsizes.Given as goal

abbrev pub invariant-loop-entry : goal.invariant-loop-entry
invariant-loop-entry l = l.sum ≡ min (tsizes_for (take l.entry-index l.entries)) (2 ^ 64 - 1)
