use Rattle.std.proofs.Common.{arith}
use Rattle.tg_pbtable.proofs.Putting.{few_counted, one_counted, all_counted}
use Rattle.tg_pbtable.proofs.writing.size_of_varint.Goals as goal

pub overflow_add-size : goal.overflow_add-size
overflow_add-size c = omega (arith, few_counted c.args.number c.loop-left.left c.loop-left.size (omega arith) c.loop-left.invariant)

pub loop-left-preserved : goal.loop-left-preserved
loop-left-preserved c = one_counted c.args.number c.loop-left.left c.loop-left.size (omega arith) c.loop-left.invariant

pub returns-clause-spelled : goal.returns-clause-spelled
returns-clause-spelled c = λ bytes p. all_counted c.args.number c.loop-left.left c.loop-left.size bytes (omega arith) c.loop-left.invariant p

pub returns-clause-few : goal.returns-clause-few
returns-clause-few c = few_counted c.args.number c.loop-left.left c.loop-left.size (omega arith) c.loop-left.invariant
