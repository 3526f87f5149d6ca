use Rattle.std.proofs.Common.{◌≡◌}
use Rattle.tg_verify.proofs.CountedEntries.{HasLeft}
use Rattle.tg_verify.proofs.counts.Counts.leave.Given as goal

abbrev pub invariant-loop-inner : goal.invariant-loop-inner
invariant-loop-inner l = record {
  left : HasLeft l.directory l.fn.self.directories.items l.self.directories.items;
  others : l.self ≡ record l.fn.self { directories = l.self.directories };
}

abbrev pub decreases-loop-inner : goal.decreases-loop-inner
decreases-loop-inner l = goal.left-loop-inner l
