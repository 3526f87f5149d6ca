-- the step over what is left is the step over all
use Rattle.std.proofs.Common.{◌≡◌, drop}
use Rattle.tg_model.specs.PathWalk.{entry_step}
use Rattle.tg_model.proofs.steps.entry_step.Given as goal

abbrev pub invariant-loop-entry : goal.invariant-loop-entry
invariant-loop-entry l = entry_step 0 l.name l.entries ≡ entry_step l.entry-index l.name (drop l.entry-index l.entries)
