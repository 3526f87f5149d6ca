use Rattle.std.proofs.Common.{ℕ, List, subst, arith}
use Rattle.tg_car.specs.Filling.{IsFront}
use Rattle.tg_car.proofs.Heads.{in_head_size}
use Rattle.tg_car.proofs.Takings.{filled}
use Rattle.tg_car.proofs.head.fill.Goals as goal

pub push-requires : goal.push-requires
push-requires c = omega (arith, in_head_size c.text_laws.ensures c.loop-at.head c.loop-at.invariant.1)

pub returns-in_default : goal.returns-in_default
returns-in_default c =
    filled c.args.head.now c.loop-at.head c.push.new.self c.args.piece.now c.loop-at.at c.front_of.result c.loop-at-test.true c.loop-at.invariant.0
    c.loop-at.invariant.1 c.push.ensures (subst (λ (l : List ℕ). IsFront l c.front_of.result) c.as_slice.ensures c.front_of.ensures) c.in_default.not-Open
