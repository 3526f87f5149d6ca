-- The second byte of a head of two.
use Rattle.std.proofs.Common.{◌≤◌, arith}
use Rattle.tg_car.proofs.StringSteps.{long_step}
use Rattle.tg_car.proofs.header_state.string_size.Goals as goal

pub returns-in-24-to-200 : goal.returns-in-24-to-200
returns-in-24-to-200 c =
    let low : 24 ≤ c.args.byte = omega arith in
    let high : c.args.byte ≤ 200 = omega arith in
    long_step c.args.roots c.args.byte c.string_of.result low high c.string_of.ensures
