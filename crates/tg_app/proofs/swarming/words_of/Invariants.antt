use Rattle.std.proofs.Common.{◌≡◌, length}
use Rattle.tg_app.proofs.Peers.{AreWordsTo}
use Rattle.tg_app.proofs.swarming.words_of.Given as goal

abbrev pub invariant-loop-peer : goal.invariant-loop-peer
invariant-loop-peer l = (l.peer-end ≡ length l.swarm.jobs.peers) × AreWordsTo l.swarm.jobs.peers l.peer l.words
