use Rattle.std.proofs.Common.{ℕ, List, length}
use Rattle.tg_filedag.proofs.Meanwhile.{Raised}
use Rattle.tg_filedag.proofs.linking.raise.Given as goal
use Rattle.tg_filedag.specs.State.{IsGrowing}
use Rattle.tg_model.specs.Dag.{Section}

abbrev pub invariant-loop-alloc : goal.invariant-loop-alloc
invariant-loop-alloc g l =
    (chunks : List (List ℕ)) (kept : List Section) → IsGrowing l.width l.fn.subtrees.items chunks kept
    → Raised g.K.Keep.keeper l.fn.keep l.keep l.width l.subtrees.items chunks kept

abbrev pub decreases-loop-alloc : goal.decreases-loop-alloc
decreases-loop-alloc g l = length l.subtrees.items
