-- Each byte that is written keeps what the array holds, and the last one ends the spelling.
use Rattle.std.proofs.Common.{refl, arith}
use Rattle.tg_varint.proofs.Writing.{written_more, written_all}
use Rattle.tg_varint.proofs.write.Goals as goal

pub loop-rest-preserved : goal.loop-rest-preserved
loop-rest-preserved c = written_more _ _ _ _ _ c.loop-rest.invariant c.loop-rest-test.true refl

pub returns-clause-spelling : goal.returns-clause-spelling
returns-clause-spelling c = written_all _ _ _ _ _ c.loop-rest.invariant (omega arith) refl
