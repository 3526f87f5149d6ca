use Rattle.std.proofs.Common.{◌≡◌, ◌<◌, ℕ}
use Rattle.std.specs.Prelude.{slice_index}
use Rattle.tg_filedag.proofs.linking.first_of_height.Given as goal
use Rattle.tg_filedag.specs.State.{heights}

abbrev pub invariant-loop-i : goal.invariant-loop-i
invariant-loop-i l = (k : ℕ) → k < l.i → slice_index (heights l.subtrees) k ≡ l.height → ⊥
