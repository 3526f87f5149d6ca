-- How many blocks are left of a walk at most.
use Rattle.std.proofs.Common.{Ok, Some, ap, arith, subst, ℕ, ◌<◌, ◌∙◌, ◌≤◌}
use Rattle.tg_traversal.specs.BlocksLeft.{HasFewer, blocks_over, then_keeps}
use Rattle.tg_traversal.specs.Left.{LeftState, tasks_left}
use Rattle.tg_traversal.specs.declared.position.Wanted.{Wanted}
use Rattle.tg_walk.specs.Walks.{IsNextPlace}

-- from place to place
pub fewer_next : (most : ℕ) (old mid new : LeftState) (wanted : Wanted) → IsNextPlace old (Ok (Some wanted)) mid → wanted.depth ≤ most → HasFewer mid new
    → blocks_over most (tasks_left new) < blocks_over most (tasks_left old)
fewer_next most old mid new wanted (at, w, told, t) d fewer =
    let less = fewer most at w (subst (λ (n : ℕ). n ≤ most) (ap (λ (x : Wanted). x.depth) told) d) in
    let same = ap (blocks_over most) t ∙ then_keeps most (tasks_left old) in
    omega arith
