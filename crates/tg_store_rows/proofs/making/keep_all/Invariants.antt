use Rattle.std.proofs.Common.{◌≡◌}
use Rattle.tg_store_rows.proofs.making.keep_all.Given as goal

abbrev pub invariant-loop-section : goal.invariant-loop-section
invariant-loop-section l = l.store.fresh ≡ l.fn.store.fresh
