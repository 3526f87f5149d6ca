-- so many lanes there are
use Rattle.std.proofs.Common.{◌≡◌, length}
use Rattle.tg_gateway_rows.proofs.lanes.answer_steps.Given as goal

abbrev pub invariant-loop-step : goal.invariant-loop-step
invariant-loop-step l = length l.lanes.sessions ≡ l.count
