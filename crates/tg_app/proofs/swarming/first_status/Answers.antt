use Rattle.std.proofs.Common.{ap, arith, refl, sym, ◌∙◌}
use Rattle.std.proofs.lemmas.List.{at_drop_all}
use Rattle.tg_app.proofs.Peers.{none_at, some_at}
use Rattle.tg_app.specs.Swarms.{first_status}
use Rattle.tg_swarm.specs.Peers.{refusals_of}
use Rattle.tg_app.proofs.swarming.first_status.Goals as goal

pub loop-peer-init : goal.loop-peer-init
loop-peer-init c = (c.peer_count-peer-end.ensures, refl)

pub returns-in-Some : goal.returns-in-Some
returns-in-Some c =
    let first = some_at c.args.swarm.now.jobs.peers c.loop-peer.peer c.refusal.result (omega (arith, c.loop-peer-test.true, c.loop-peer.invariant.0)) c.refusal.ensures c.in-Some.fault c.in-Some.is in
    c.peer_status.ensures ∙ ap first_status (sym first ∙ c.loop-peer.invariant.1)

pub loop-peer-preserved : goal.loop-peer-preserved
loop-peer-preserved c =
    let same = none_at c.args.swarm.now.jobs.peers c.loop-peer.peer c.refusal.result (omega (arith, c.loop-peer-test.true, c.loop-peer.invariant.0)) c.refusal.ensures c.in_default.is in
    (c.loop-peer.invariant.0, sym same ∙ c.loop-peer.invariant.1)

pub returns : goal.returns
returns c =
    sym (at_drop_all (λ last. first_status (refusals_of last)) c.args.swarm.now.jobs.peers c.loop-peer.peer (omega (arith, c.loop-peer-test.false, c.loop-peer.invariant.0)))
    ∙ ap first_status c.loop-peer.invariant.1
