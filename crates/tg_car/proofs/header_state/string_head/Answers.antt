-- A head of one byte, and the first byte of one of two.
use Rattle.std.proofs.Common.{◌≡◌, ◌+◌, ◌-◌, ◌*◌, ◌≤◌, ◌<◌, leb, true, false, Option, sym, subst, arith}
use Rattle.std.specs.Bool.{then_some}
use Rattle.std.proofs.lemmas.Bool.{leb-true, leb-false}
use Rattle.tg_car.specs.declared.header_state.HeaderState.{HeaderState}
use Rattle.tg_car.specs.HeaderState.{GoesOn}
use Rattle.tg_car.specs.declared.header_state.HeaderState.TheVariants as states
use Rattle.tg_car.proofs.StringSteps.{short_step, long_next}
use Rattle.tg_car.proofs.header_state.string_head.Goals as goal

pub returns-in-66-to-87 : goal.returns-in-66-to-87
returns-in-66-to-87 c =
    let low : 2 ≤ c.args.byte - 0x40 = omega arith in
    let high : c.args.byte - 0x40 < 24 = omega arith in
    let same : 0x40 + (c.args.byte - 0x40) ≡ c.args.byte = omega arith in
    subst (λ n. GoesOn (states.StringHead c.args.roots) n c.string_of.result) same
    (short_step c.args.roots (c.args.byte - 0x40) c.string_of.result low high c.string_of.ensures)

pub returns-in-88 : goal.returns-in-88
returns-in-88 c =
    let count : c.from.result ≡ c.args.roots.count = c.from.ensures in
    let fits = leb (5 * c.from.result + 23) c.args.roots.bytes in
    let yes : fits ≡ true → 5 * c.args.roots.count + 23 ≤ c.args.roots.bytes = λ e.
    omega (arith, leb-true (5 * c.from.result + 23) c.args.roots.bytes e) in
    let no : fits ≡ false → c.args.roots.bytes < 5 * c.args.roots.count + 23 = λ e.
    omega (arith, leb-false (5 * c.from.result + 23) c.args.roots.bytes e) in
    let P : Option HeaderState → Type 0 = λ r. GoesOn (states.StringHead c.args.roots) c.args.byte r in
    subst P (sym c.then_some.ensures)
    (subst (λ n. GoesOn (states.StringHead c.args.roots) n (then_some fits (states.StringSize c.args.roots))) (sym c.in-88.is)
    (long_next c.args.roots fits yes no))
