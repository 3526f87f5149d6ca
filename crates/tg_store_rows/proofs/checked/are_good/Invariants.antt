use Rattle.std.proofs.Common.{take}
use Rattle.std.specs.Prelude.{All}
use Rattle.tg_store_rows.proofs.checked.are_good.Given as goal
use Rattle.tg_hamt.specs.Order.{IsGoodEntry}

abbrev pub invariant-loop-entry : goal.invariant-loop-entry
invariant-loop-entry l = All IsGoodEntry (take l.entry-index l.entries)
