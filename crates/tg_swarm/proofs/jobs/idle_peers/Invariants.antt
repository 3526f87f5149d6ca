use Rattle.std.proofs.Common.{◌≡◌, length}
use Rattle.tg_swarm.specs.Jobs.{AreIdle}
use Rattle.tg_swarm.proofs.jobs.idle_peers.Given as goal

abbrev pub invariant-loop : goal.invariant-loop
invariant-loop g l = AreIdle l.peers.items × (length l.peers.items ≡ l.counter)
