use Rattle.tg_varint.proofs.Writing.{Written}
use Rattle.tg_varint.proofs.write.Given as goal

abbrev pub invariant-loop-rest : goal.invariant-loop-rest
invariant-loop-rest l = Written l.number l.rest l.at l.spelling

abbrev pub decreases-loop-rest : goal.decreases-loop-rest
decreases-loop-rest l = l.rest
