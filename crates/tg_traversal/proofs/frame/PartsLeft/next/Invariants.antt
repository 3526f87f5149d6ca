-- what is left is what was left
use Rattle.std.proofs.Common.{◌≡◌}
use Rattle.tg_traversal.specs.Frames.{ArePartsLeft, part_tasks}
use Rattle.tg_traversal.proofs.frame.PartsLeft.next.Given as goal

abbrev pub invariant-loop-part : goal.invariant-loop-part
invariant-loop-part l = record {
  left : ArePartsLeft l.self;
  tasks : part_tasks l.fn.depth l.initial.self ≡ part_tasks l.fn.depth l.self;
}

abbrev pub decreases-loop-part : goal.decreases-loop-part
decreases-loop-part l = l.self.count
