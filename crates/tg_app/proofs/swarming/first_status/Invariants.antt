use Rattle.std.proofs.Common.{◌≡◌, drop, length}
use Rattle.tg_swarm.specs.Peers.{refusals_of}
use Rattle.tg_app.proofs.swarming.first_status.Given as goal

abbrev pub invariant-loop-peer : goal.invariant-loop-peer
invariant-loop-peer l =
    let peers = l.swarm.jobs.peers in
    (l.peer-end ≡ length peers) × (refusals_of (drop l.peer peers) ≡ refusals_of peers)
