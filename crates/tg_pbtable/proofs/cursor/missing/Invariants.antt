use Rattle.tg_pbtable.specs.Reading.{IsLowest}
use Rattle.tg_pbtable.proofs.cursor.missing.Given as goal

abbrev pub invariant-loop-i : goal.invariant-loop-i
invariant-loop-i g l = IsLowest l.rules l.seen l.i l.lowest
