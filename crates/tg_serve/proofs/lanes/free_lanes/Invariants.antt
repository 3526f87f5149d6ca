use Rattle.std.proofs.Common.{◌≡◌, None, replicate}
use Rattle.tg_serve.proofs.lanes.free_lanes.Given as goal

-- so many lanes are there, without a link
abbrev pub invariant-loop : goal.invariant-loop
invariant-loop g l = l.links.items ≡ replicate l.counter None
