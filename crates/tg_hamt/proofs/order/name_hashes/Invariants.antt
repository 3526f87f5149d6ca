use Rattle.std.proofs.Common.{◌≡◌, take}
use Rattle.tg_hamt.proofs.order.name_hashes.Given as goal
use Rattle.tg_hamt.specs.Order.{hashed_from}

abbrev pub invariant-loop-index : goal.invariant-loop-index
invariant-loop-index l = l.items.items ≡ hashed_from 0 (take l.index l.entries)
