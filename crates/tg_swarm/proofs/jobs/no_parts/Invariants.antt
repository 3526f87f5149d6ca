use Rattle.std.proofs.Common.{◌≡◌, length}
use Rattle.tg_swarm.specs.Jobs.{AreNone}
use Rattle.tg_swarm.proofs.jobs.no_parts.Given as goal

abbrev pub invariant-loop : goal.invariant-loop
invariant-loop l = AreNone l.parts.items × (length l.parts.items ≡ l.counter)
