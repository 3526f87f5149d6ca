use Rattle.tg_pbtable.proofs.Putting.{HasPut}
use Rattle.tg_pbtable.proofs.writing.put_varint.Given as goal

abbrev pub invariant-loop-left : goal.invariant-loop-left
invariant-loop-left l = HasPut l.number l.left l.initial.text.items l.text.items

abbrev pub decreases-loop-left : goal.decreases-loop-left
decreases-loop-left l = l.left
