use Rattle.std.proofs.Common.{Err, None, Some, ap, refl, subst, sym, ◌++◌, ◌∙◌, ◌≡◌}
use Rattle.tg_streams.specs.Streams.{into}
use Rattle.tg_swarm.proofs.Ended.{ended_after, ended_ends}
use Rattle.tg_swarm.proofs.swarm.Swarm.event.Goals as goal
use Rattle.tg_swarm.specs.Swarms.{AfterEvent, EventEnds, SwarmState, bytes_of}

pub returns-in-Err-clause-ends : goal.returns-in-Err-clause-ends
returns-in-Err-clause-ends g c = λ connections written heard call h busy stands.
    subst (λ (t : SwarmState). EventEnds c.args.self.now (record t { ended = Some c.in-Err.fault }) connections written call
    (heard ++ bytes_of c.args.event) (into g.S.Sink.sink c.args.out.now c.hear.new.out) (Err c.in-Err.fault)) (sym c.self-2.view_is)
    (ended_ends c.args.self.now c.hear.new.self (Some c.in-Err.fault) connections written (heard ++ bytes_of c.args.event) call
    (into g.S.Sink.sink c.args.out.now c.hear.new.out) (Err c.in-Err.fault) refl
    (c.in-Err.ensures.ends connections written heard call h busy stands))

pub returns-in-Err-clause-peer : goal.returns-in-Err-clause-peer
returns-in-Err-clause-peer g c = λ connections written heard call h busy stands.
    subst (λ (t : SwarmState). AfterEvent c.args.self.now (record t { ended = Some c.in-Err.fault }) c.args.peer call heard c.args.event
    (Err c.in-Err.fault)) (sym c.self-2.view_is)
    (ended_after c.args.self.now c.hear.new.self (Some c.in-Err.fault) c.args.peer call heard c.args.event (Err c.in-Err.fault)
    (c.in-Err.ensures.peer connections written heard call h busy stands))

pub returns-in-Some-clause-ends : goal.returns-in-Some-clause-ends
returns-in-Some-clause-ends g c = λ connections written heard call h busy stands.
    let e : None ≡ Some c.in-Some.fault = sym h.going ∙ ap (λ (s : SwarmState). s.ended) (sym c.self.view_is) ∙ c.in-Some.is in
    absurd (cc e)

pub returns-in-Some-clause-peer : goal.returns-in-Some-clause-peer
returns-in-Some-clause-peer g c = λ connections written heard call h busy stands.
    let e : None ≡ Some c.in-Some.fault = sym h.going ∙ ap (λ (s : SwarmState). s.ended) (sym c.self.view_is) ∙ c.in-Some.is in
    absurd (cc e)
