use Rattle.std.proofs.Common.{◌<◌, ◌+◌, ℕ, get_or, length}
use Rattle.tg_hamt.proofs.order.same_hash.Given as goal
use Rattle.tg_hamt.specs.declared.order.Hashed.{Hashed}

abbrev pub invariant-loop-i : goal.invariant-loop-i
invariant-loop-i l = (k : ℕ) (d : Hashed) → k + 1 < l.i → k + 1 < length l.order → (get_or l.order k d).hash < (get_or l.order (k + 1) d).hash
