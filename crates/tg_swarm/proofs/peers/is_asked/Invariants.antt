use Rattle.tg_swarm.proofs.Lists.{NoneHas}
use Rattle.tg_swarm.proofs.peers.is_asked.Given as goal

abbrev pub invariant-loop-peer : goal.invariant-loop-peer
invariant-loop-peer g l = NoneHas l.peers l.job l.peer-index
