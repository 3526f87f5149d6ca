-- A head of one byte, and the first byte of one of two.
use Rattle.std.proofs.Common.{◌≡◌, ℕ, ◌≤◌, ◌<◌, ◌+◌, ◌-◌, leb, Option, sym, subst, arith}
use Rattle.std.specs.Bool.{then_some}
use Rattle.std.proofs.lemmas.Bool.{leb-true, leb-false}
use Rattle.tg_car.specs.HeaderState.{GoesOn}
use Rattle.tg_car.specs.declared.header_state.HeaderState.{HeaderState}
use Rattle.tg_car.specs.declared.header_state.HeaderState.TheVariants as states
use Rattle.tg_car.proofs.ArraySteps.{short_step, long_next}
use Rattle.tg_car.proofs.header_state.array_head.Goals as goal

pub returns-in-152 : goal.returns-in-152
returns-in-152 c =
    let P : Option HeaderState → Type 0 = λ r. GoesOn (states.ArrayHead c.args.size) c.args.byte r in
    let Q : ℕ → Type 0 = λ n. GoesOn (states.ArrayHead c.args.size) n (then_some (leb 138 c.args.size) (states.ArrayCount c.args.size)) in
    subst P (sym c.then_some.ensures) (subst Q (sym c.in-152.is)
    (long_next c.args.size (leb 138 c.args.size) (leb-true 138 c.args.size) (leb-false 138 c.args.size)))

pub returns-in_ok-checked_sub-in-128-to-151 : goal.returns-in_ok-checked_sub-in-128-to-151
returns-in_ok-checked_sub-in-128-to-151 c =
    let bytes = c.in_ok-checked_sub-in-128-to-151.field-0 in
    let left : (17 ≤ c.args.size) × (bytes ≡ c.args.size - 17) = c.in_ok-checked_sub-in-128-to-151.ensures in
    let few : c.args.byte - 0x80 < 24 = omega arith in
    let same : 0x80 + (c.args.byte - 0x80) ≡ c.args.byte = omega arith in
    subst (λ n. GoesOn (states.ArrayHead c.args.size) n c.roots_of.result) same
    (short_step (c.args.byte - 0x80) c.args.size bytes c.roots_of.result few (omega arith) c.roots_of.ensures)
