-- the slots so far
use Rattle.std.proofs.Common.{◌≡◌, take}
use Rattle.tg_traversal.proofs.position.Passed.below.Given as goal

abbrev pub invariant-loop-passed : goal.invariant-loop-passed
invariant-loop-passed l = l.slots.items ≡ take l.passed-index l.above
