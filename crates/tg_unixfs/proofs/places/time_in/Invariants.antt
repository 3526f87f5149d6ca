use Rattle.std.proofs.Common.{◌-◌, length, List}
use Rattle.tg_pbtable.specs.declared.table.Field.{Field}
use Rattle.tg_pbtable.specs.declared.table.Order.TheVariants.{Ascending}
use Rattle.tg_pbtable.specs.Cursor.{HasRead}
use Rattle.tg_unixfs.specs.declared.TheConstants.{TIME}
use Rattle.tg_unixfs.proofs.places.time_in.Given as goal

abbrev pub invariant-loop : goal.invariant-loop
invariant-loop l = (fields : List Field) × HasRead TIME.now Ascending l.bytes fields l.cursor

abbrev pub decreases-loop : goal.decreases-loop
decreases-loop l = length l.bytes - l.cursor.at
