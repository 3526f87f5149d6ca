use Rattle.std.proofs.Common.{◌≤◌, length, All}
use Rattle.tg_model.specs.EntryNames.{IsGoodName}
use Rattle.tg_store_rows.proofs.exports.path_of.Given as goal

abbrev pub invariant-loop-name : goal.invariant-loop-name
invariant-loop-name l = (length l.path ≤ l.name-index) × All IsGoodName l.path
