use Rattle.std.proofs.Common.{arith}
use Rattle.tg_gateway.proofs.heads.HeadRoom.clear.Goals as goal

pub invariant_of-self : goal.invariant_of-self
invariant_of-self c = record {
  size = c.self.invariant.size;
  in_order = omega arith;
  within = omega arith;
  sought = c.new-self-inside.ensures _;
}
