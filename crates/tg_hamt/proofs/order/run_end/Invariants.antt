use Rattle.std.proofs.Common.{◌≡◌, ◌≤◌, ◌<◌, ℕ, get_or}
use Rattle.tg_hamt.proofs.order.run_end.Given as goal
use Rattle.tg_hamt.specs.Order.{slot_in}
use Rattle.tg_hamt.specs.declared.order.Hashed.{Hashed}

abbrev pub invariant-loop-end : goal.invariant-loop-end
invariant-loop-end l = (k : ℕ) (d : Hashed) → l.start ≤ k → k < l.end → slot_in (get_or l.order k d) l.level ≡ slot_in (get_or l.order l.start d) l.level
