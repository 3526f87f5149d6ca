-- The second byte of a head of two.
use Rattle.std.proofs.Common.{◌≡◌, ◌≤◌, ◌-◌, arith}
use Rattle.tg_car.proofs.ArraySteps.{long_step}
use Rattle.tg_car.proofs.header_state.array_count.Goals as goal

pub returns-in_ok-checked_sub-in-24-to-64 : goal.returns-in_ok-checked_sub-in-24-to-64
returns-in_ok-checked_sub-in-24-to-64 c =
    let bytes = c.in_ok-checked_sub-in-24-to-64.field-0 in
    let left : (18 ≤ c.args.size) × (bytes ≡ c.args.size - 18) = c.in_ok-checked_sub-in-24-to-64.ensures in
    long_step c.args.byte c.args.size bytes c.roots_of.result (omega arith) (omega arith) (omega arith) c.roots_of.ensures
