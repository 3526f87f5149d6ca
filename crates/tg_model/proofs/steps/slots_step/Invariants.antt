-- the step over what is left is the step over all
use Rattle.std.proofs.Common.{◌≡◌, drop}
use Rattle.tg_model.specs.PathWalk.{slots_step}
use Rattle.tg_model.proofs.steps.slots_step.Given as goal

abbrev pub invariant-loop-held : goal.invariant-loop-held
invariant-loop-held l = slots_step 0 l.number l.name l.slots ≡ slots_step l.held-index l.number l.name (drop l.held-index l.slots)
