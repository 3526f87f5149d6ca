use Rattle.std.proofs.Common.{◌∙◌, arith}
use Rattle.tg_hamt.proofs.BitFields.{zero_passed}
use Rattle.tg_hamt.proofs.bits.shortest.Goals as goal

pub loop-i-preserved : goal.loop-i-preserved
loop-i-preserved c = zero_passed c.big_endians.ensures.first c.big_endians.ensures.below c.args.bits.now c.loop-i.i (omega arith) c.if-byte-ne0.false (λ k. (c.type_inv.bits k).fits) ∙ c.loop-i.invariant
