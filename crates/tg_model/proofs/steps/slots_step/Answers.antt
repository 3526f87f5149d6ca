use Rattle.std.proofs.Common.{arith, eq-eqb}
use Rattle.tg_model.proofs.StepsOver.{found_slot}
use Rattle.tg_model.proofs.steps.slots_step.Goals as goal

pub returns-then-held-number : goal.returns-then-held-number
returns-then-held-number c =
    found_slot c.args.number c.args.name.now c.args.slots.now c.loop-held.held-index c.held-item.result c.slot_step.result c.held-item.is (omega arith) c.loop-held.invariant
    (eq-eqb _ _ c.if-held-number.true) c.slot_step.ensures
