use Rattle.tg_pbtable.proofs.Putting.{HasCounted}
use Rattle.tg_pbtable.proofs.writing.size_of_varint.Given as goal

abbrev pub invariant-loop-left : goal.invariant-loop-left
invariant-loop-left l = HasCounted l.number l.left l.size

abbrev pub decreases-loop-left : goal.decreases-loop-left
decreases-loop-left l = l.left
