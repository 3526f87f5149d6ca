use Rattle.std.proofs.Common.{◌≡◌, take}
use Rattle.std.specs.List.{sum_by}
use Rattle.tg_dir.proofs.basic.total.Given as goal

abbrev pub invariant-loop-entry : goal.invariant-loop-entry
invariant-loop-entry l = l.tsizes ≡ sum_by (λ entry. entry.tsize) (take l.entry-index l.entries)
