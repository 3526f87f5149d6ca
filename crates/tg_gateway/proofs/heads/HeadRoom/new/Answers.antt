use Rattle.std.proofs.Common.{arith}
use Rattle.tg_gateway.proofs.heads.HeadRoom.new.Goals as goal

pub invariant_of-result : goal.invariant_of-result
invariant_of-result c = record {
  size = c.in_ok-zeros.ensures.size;
  in_order = omega arith;
  within = omega arith;
  sought = c.new.ensures _;
}
