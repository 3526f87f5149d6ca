use Rattle.std.proofs.Common.{◌-◌, ◌≡◌}
use Rattle.tg_swarm.proofs.Lowest.{NoneBelow}
use Rattle.tg_swarm.proofs.jobs.Jobs.lowest.Given as goal

abbrev pub invariant-loop-k : goal.invariant-loop-k
invariant-loop-k g l = (l.left ≡ l.self.count - l.self.written) × NoneBelow l.self l.k
