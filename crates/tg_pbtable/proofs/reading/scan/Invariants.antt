use Rattle.std.proofs.Common.{◌-◌, length}
use Rattle.tg_pbtable.specs.Cursor.{HasRead}
use Rattle.tg_pbtable.proofs.reading.scan.Given as goal

abbrev pub invariant-loop-fields : goal.invariant-loop-fields
invariant-loop-fields g l = HasRead l.rules l.order l.bytes l.fields.items l.cursor

abbrev pub decreases-loop-fields : goal.decreases-loop-fields
decreases-loop-fields g l = length l.initial.bytes - l.cursor.at
