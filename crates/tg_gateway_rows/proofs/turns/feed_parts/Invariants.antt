-- there are three lanes
use Rattle.std.proofs.Common.{◌≡◌, length}
use Rattle.tg_gateway_rows.proofs.turns.feed_parts.Given as goal

abbrev pub invariant-loop-part : goal.invariant-loop-part
invariant-loop-part l = length l.lanes.sessions ≡ 3
