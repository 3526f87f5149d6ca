use Rattle.std.proofs.lemmas.Option.{slice_get_read}
use Rattle.std.proofs.Common.{length, refl}
use Rattle.tg_swarm.proofs.Lists.{none_has_all, none_has_more}
use Rattle.tg_swarm.proofs.peers.is_asked.Goals as goal

pub loop-peer-preserved : goal.loop-peer-preserved
loop-peer-preserved g c =
    none_has_more c.args.peers.now c.args.job c.loop-peer.peer-index c.peer-item.result c.loop-peer.invariant
    (slice_get_read c.args.peers.now (length c.args.peers.now) c.loop-peer.peer-index c.peer-item.result refl c.loop-peer-test.true c.peer-item.is)
    (λ has. let t = c.has_job.ensures.1 has in let f = c.if-has_job.false in cc)

pub returns : goal.returns
returns g c =
    let none = none_has_all c.args.peers.now c.args.job c.loop-peer.peer-index c.loop-peer.invariant c.loop-peer-test.false in
    (λ t. absurd (cc t), λ asked. absurd (none asked))
