use Rattle.tg_swarm.proofs.BusyCounts.{IsBusyCount}
use Rattle.tg_swarm.proofs.peers.busy_count.Given as goal

abbrev pub invariant-loop-peer : goal.invariant-loop-peer
invariant-loop-peer g l = IsBusyCount l.peers l.peer-index l.busy
