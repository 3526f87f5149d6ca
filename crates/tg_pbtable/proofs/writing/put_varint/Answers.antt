use Rattle.std.proofs.Common.{arith}
use Rattle.tg_pbtable.proofs.Putting.{one_put, all_put}
use Rattle.tg_pbtable.proofs.writing.put_varint.Goals as goal

pub loop-left-preserved : goal.loop-left-preserved
loop-left-preserved c =
    rw c.in_ok-push.ensures.items (one_put c.args.number c.loop-left.left _ _ (omega arith) c.loop-left.invariant)

pub returns : goal.returns
returns c =
    rw c.in_ok-push-2.ensures.items (all_put c.args.number c.loop-left.left _ _ (omega arith) (omega arith) c.loop-left.invariant)
