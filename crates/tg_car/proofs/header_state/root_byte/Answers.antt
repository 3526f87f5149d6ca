-- The last byte of a root, and another.
use Rattle.std.proofs.Common.{arith}
use Rattle.tg_car.proofs.ByteSteps.{last_byte, bytes_to, bytes_from}
use Rattle.tg_car.proofs.header_state.root_byte.Goals as goal

pub returns-in-0 : goal.returns-in-0
returns-in-0 c = λ live. (live.1, λ rest. last_byte c.args.left c.args.roots c.args.byte rest (omega (arith, live.0)) (omega arith))

pub returns-in_default : goal.returns-in_default
returns-in_default c = λ live. (
  (omega (arith, live.0), live.1),
  λ rest. (
    λ f. bytes_to c.args.left c.args.roots c.args.byte rest live.0 f,
    λ f. bytes_from c.args.left c.args.roots c.args.byte rest live.0 (omega arith) f,
  ),
)
