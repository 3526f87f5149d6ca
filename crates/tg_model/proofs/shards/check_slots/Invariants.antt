-- what is misplaced in what is left is what is misplaced in all
use Rattle.std.proofs.Common.{◌≡◌, drop}
use Rattle.tg_model.specs.Sound.{misplaced_from}
use Rattle.tg_model.proofs.shards.check_slots.Given as goal

abbrev pub invariant-loop-at : goal.invariant-loop-at
invariant-loop-at l = misplaced_from 0 l.above l.slots ≡ misplaced_from l.at l.above (drop l.at l.slots)
