use Rattle.std.proofs.Common.{ℕ, List}
use Rattle.tg_filedag.proofs.Meanwhile.{Closed}
use Rattle.tg_filedag.proofs.Runs.{left_over}
use Rattle.tg_filedag.proofs.linking.close_all.Given as goal
use Rattle.tg_filedag.specs.State.{IsGrowing}
use Rattle.tg_model.specs.Dag.{Section}

abbrev pub invariant-loop-alloc : goal.invariant-loop-alloc
invariant-loop-alloc g l =
    (chunks : List (List ℕ)) (kept : List Section) → IsGrowing l.width l.fn.subtrees.items chunks kept
    → Closed g.K.Keep.keeper l.fn.keep l.keep l.width l.subtrees.items chunks kept

abbrev pub decreases-loop-alloc : goal.decreases-loop-alloc
decreases-loop-alloc g l = left_over l.subtrees.items
