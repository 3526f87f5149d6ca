use Rattle.tg_import.proofs.NamesInOrder.{AreTaken}
use Rattle.tg_import.proofs.names.check_names.Given as goal

abbrev pub invariant-loop-i : goal.invariant-loop-i
invariant-loop-i l = AreTaken l.items l.i
