use Rattle.tg_swarm.proofs.Lists.{FirstRefused}
use Rattle.tg_swarm.proofs.peers.none_left.Given as goal

abbrev pub invariant-loop-peer : goal.invariant-loop-peer
invariant-loop-peer g l = FirstRefused l.peers l.peer-index
