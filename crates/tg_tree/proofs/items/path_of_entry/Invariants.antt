use Rattle.std.proofs.Common.{◌≡◌, take}
use Rattle.tg_tree.proofs.items.path_of_entry.Given as goal

abbrev pub invariant-loop-passed : goal.invariant-loop-passed
invariant-loop-passed l = l.longer ≡ take l.passed-index l.path
