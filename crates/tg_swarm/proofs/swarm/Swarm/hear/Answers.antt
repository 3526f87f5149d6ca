use Rattle.std.proofs.Common.{Err, List, Ok, Some, ap, refl, subst, sym, ℕ, ◌++◌, ◌∙◌, ◌≡◌}
use Rattle.std.specs.List.{slice_get}
use Rattle.std.specs.Prelude.{OnErr, slice_set}
use Rattle.tg_fetch.specs.declared.client.Client.{Client}
use Rattle.tg_fetch.specs.declared.fault.FetchFault.TheVariants.{PeerFault}
use Rattle.tg_parts.specs.Connections.{Connection}
use Rattle.tg_streams.specs.Streams.{into}
use Rattle.tg_swarm.proofs.Events.{accepted_after, accepted_ends, blamed_after, blamed_ends, blamed_others, heard_as, its_call, kept_others, more_after, more_ends, over_accepting, over_told, put_nothing, set_others, unput_still, with_over}
use Rattle.tg_swarm.proofs.Starting.{set_in, set_is}
use Rattle.tg_swarm.proofs.Steps.{accepted_shorter, blamed_shorter, more_shorter, piece_tells}
use Rattle.tg_swarm.proofs.Unfinished.{blamed_before, blamed_failed, idle_then, more_before}
use Rattle.tg_swarm.proofs.swarm.Swarm.hear.Goals as goal
use Rattle.tg_swarm.specs.Jobs.{JobsState}
use Rattle.tg_swarm.specs.Said.{AcceptedEnds, CallHeard}
use Rattle.tg_swarm.specs.Swarms.{SwarmState, bytes_of}
use Rattle.tg_swarm.specs.declared.peers.Call.{Call}
use Rattle.tg_swarm.specs.declared.peers.Peer.TheVariants.{Busy, Idle}
use Rattle.tg_verify.specs.declared.verifier.Progress.{Progress}
use Rattle.tg_verify.specs.declared.verifier.Progress.TheVariants.{Done, More}

pub returns-in-Ok-More-clause-ends : goal.returns-in-Ok-More-clause-ends
returns-in-Ok-More-clause-ends g c = λ connections written heard call h busy stands.
    let inside : SwarmState = record {
      root = c.self.inside.root;
      part = c.self.inside.part;
      limits = c.self.inside.limits;
      plan = c.self.inside.plan;
      jobs = c.self.inside.jobs;
      ended = c.self.inside.ended;
    }
    in
    let taken : SwarmState = record inside { jobs = c.take_busy.new.self } in
    let taken_is : taken ≡ set_in c.args.self.now c.args.peer Idle =
    set_is inside c.args.self.now c.take_busy.new.self c.args.peer Idle c.self.view_is c.in-Some.ensures.1
    in
    let one : c.in-Some.call ≡ call = its_call inside c.args.self.now c.args.peer c.in-Some.call call c.self.view_is c.in-Some.ensures.0 busy in
    let same : c.heard.new.call.job ≡ call.job = c.heard.ensures.job ∙ ap (λ (t : Call Client). t.job) one in
    let new : SwarmState = record inside { jobs = c.set.new.self } in
    let new_is : new ≡ set_in taken c.args.peer (Busy c.heard.new.call) =
    ap (λ (j : JobsState Client). record inside { jobs = j }) c.set.ensures
    in
    more_ends c.args.self.now c.args.peer call busy taken taken_is connections written (heard ++ bytes_of c.args.event)
    (into g.S.Sink.sink c.args.out.now c.args.out.now) h new c.heard.new.call
    c.progress-in-Ok-More.result new_is same
    (put_nothing g.S.Sink.sink c.args.out.now (g.met.S.Sink.rests c.args.out.now)) refl c.progress-in-Ok-More.ensures

pub returns-in-Ok-More-clause-peer : goal.returns-in-Ok-More-clause-peer
returns-in-Ok-More-clause-peer g c = λ connections written heard call h busy stands.
    let inside : SwarmState = record {
      root = c.self.inside.root;
      part = c.self.inside.part;
      limits = c.self.inside.limits;
      plan = c.self.inside.plan;
      jobs = c.self.inside.jobs;
      ended = c.self.inside.ended;
    }
    in
    let taken : SwarmState = record inside { jobs = c.take_busy.new.self } in
    let taken_is : taken ≡ set_in c.args.self.now c.args.peer Idle =
    set_is inside c.args.self.now c.take_busy.new.self c.args.peer Idle c.self.view_is c.in-Some.ensures.1
    in
    let one : c.in-Some.call ≡ call = its_call inside c.args.self.now c.args.peer c.in-Some.call call c.self.view_is c.in-Some.ensures.0 busy in
    let same : c.heard.new.call.job ≡ call.job = c.heard.ensures.job ∙ ap (λ (t : Call Client). t.job) one in
    let new : SwarmState = record inside { jobs = c.set.new.self } in
    let new_is : new ≡ set_in taken c.args.peer (Busy c.heard.new.call) =
    ap (λ (j : JobsState Client). record inside { jobs = j }) c.set.ensures
    in
    let says : CallHeard call c.heard.new.call heard c.args.event (Ok More) =
    heard_as c.in-Some.call call c.heard.new.call heard c.args.event c.heard.result (Ok More) one
    (c.in-Ok-More.is ∙ ap (λ (p : Progress). Ok p) c.in-Ok-More.field-0-is) (c.heard.ensures.heard heard)
    in
    more_after c.args.self.now c.args.peer call busy c.heard.new.call heard c.args.event same stands taken new taken_is new_is says

pub returns-in-Ok-More-clause-others : goal.returns-in-Ok-More-clause-others
returns-in-Ok-More-clause-others g c = λ i differs.
    let inside : SwarmState = record {
      root = c.self.inside.root;
      part = c.self.inside.part;
      limits = c.self.inside.limits;
      plan = c.self.inside.plan;
      jobs = c.self.inside.jobs;
      ended = c.self.inside.ended;
    }
    in
    let taken : SwarmState = record inside { jobs = c.take_busy.new.self } in
    let taken_is : taken ≡ set_in c.args.self.now c.args.peer Idle =
    set_is inside c.args.self.now c.take_busy.new.self c.args.peer Idle c.self.view_is c.in-Some.ensures.1
    in
    let new : SwarmState = record inside { jobs = c.set.new.self } in
    let new_is : new ≡ set_in taken c.args.peer (Busy c.heard.new.call) =
    ap (λ (j : JobsState Client). record inside { jobs = j }) c.set.ensures
    in
    set_others c.args.self.now taken new c.args.peer (Busy c.heard.new.call) taken_is new_is i differs

pub returns-in-Ok-Done-clause-ends : goal.returns-in-Ok-Done-clause-ends
returns-in-Ok-Done-clause-ends g c = λ connections written heard call h busy stands.
    let inside : SwarmState = record {
      root = c.self.inside.root;
      part = c.self.inside.part;
      limits = c.self.inside.limits;
      plan = c.self.inside.plan;
      jobs = c.self.inside.jobs;
      ended = c.self.inside.ended;
    }
    in
    let taken : SwarmState = record inside { jobs = c.take_busy.new.self } in
    let taken_is : taken ≡ set_in c.args.self.now c.args.peer Idle =
    set_is inside c.args.self.now c.take_busy.new.self c.args.peer Idle c.self.view_is c.in-Some.ensures.1
    in
    let one : c.in-Some.call ≡ call = its_call inside c.args.self.now c.args.peer c.in-Some.call call c.self.view_is c.in-Some.ensures.0 busy in
    let same : c.heard.new.call.job ≡ call.job = c.heard.ensures.job ∙ ap (λ (t : Call Client). t.job) one in
    let says : CallHeard call c.heard.new.call heard c.args.event (Ok Done) =
    heard_as c.in-Some.call call c.heard.new.call heard c.args.event c.heard.result (Ok Done) one
    (c.in-Ok-Done.is ∙ ap (λ (p : Progress). Ok p) c.in-Ok-Done.field-0-is) (c.heard.ensures.heard heard)
    in
    let longer : List Connection = with_over c.args.self.now c.args.peer call busy c.heard.new.call heard c.args.event same stands says connections in
    let ends : AcceptedEnds (set_in c.args.self.now c.args.peer Idle) c.accept.new.self longer written c.heard.new.call
    (into g.S.Sink.sink c.args.out.now c.accept.new.out) c.accept.result =
    subst (λ (t : SwarmState). AcceptedEnds t c.accept.new.self longer written c.heard.new.call
    (into g.S.Sink.sink c.args.out.now c.accept.new.out) c.accept.result) taken_is
    (c.accept.ensures.ends longer written
    (over_accepting c.args.self.now c.args.peer call busy c.heard.new.call heard c.args.event same stands says
    c.accepted_parts.ensures.stay c.accepted_roots.ensures.block_stays c.accepted_roots.ensures.total_stays taken taken_is connections written h))
    in
    let peers : c.accept.new.self.jobs.peers ≡ slice_set c.args.self.now.jobs.peers c.args.peer Idle =
    c.accept.ensures.peers ∙ ap (λ (t : SwarmState). t.jobs.peers) taken_is
    in
    accepted_ends c.args.self.now c.args.peer call busy connections longer written (heard ++ bytes_of c.args.event)
    (into g.S.Sink.sink c.args.out.now c.accept.new.out)
    (over_told c.args.self.now c.args.peer call busy c.heard.new.call heard c.args.event same stands says connections)
    c.accept.new.self c.heard.new.call c.accept.result peers ends

pub returns-in-Ok-Done-clause-peer : goal.returns-in-Ok-Done-clause-peer
returns-in-Ok-Done-clause-peer g c = λ connections written heard call h busy stands.
    let inside : SwarmState = record {
      root = c.self.inside.root;
      part = c.self.inside.part;
      limits = c.self.inside.limits;
      plan = c.self.inside.plan;
      jobs = c.self.inside.jobs;
      ended = c.self.inside.ended;
    }
    in
    let taken : SwarmState = record inside { jobs = c.take_busy.new.self } in
    let taken_is : taken ≡ set_in c.args.self.now c.args.peer Idle =
    set_is inside c.args.self.now c.take_busy.new.self c.args.peer Idle c.self.view_is c.in-Some.ensures.1
    in
    let one : c.in-Some.call ≡ call = its_call inside c.args.self.now c.args.peer c.in-Some.call call c.self.view_is c.in-Some.ensures.0 busy in
    let same : c.heard.new.call.job ≡ call.job = c.heard.ensures.job ∙ ap (λ (t : Call Client). t.job) one in
    let says : CallHeard call c.heard.new.call heard c.args.event (Ok Done) =
    heard_as c.in-Some.call call c.heard.new.call heard c.args.event c.heard.result (Ok Done) one
    (c.in-Ok-Done.is ∙ ap (λ (p : Progress). Ok p) c.in-Ok-Done.field-0-is) (c.heard.ensures.heard heard)
    in
    let longer : List Connection = with_over c.args.self.now c.args.peer call busy c.heard.new.call heard c.args.event same stands says connections in
    let ends : AcceptedEnds (set_in c.args.self.now c.args.peer Idle) c.accept.new.self longer written c.heard.new.call
    (into g.S.Sink.sink c.args.out.now c.accept.new.out) c.accept.result =
    subst (λ (t : SwarmState). AcceptedEnds t c.accept.new.self longer written c.heard.new.call
    (into g.S.Sink.sink c.args.out.now c.accept.new.out) c.accept.result) taken_is
    (c.accept.ensures.ends longer written
    (over_accepting c.args.self.now c.args.peer call busy c.heard.new.call heard c.args.event same stands says
    c.accepted_parts.ensures.stay c.accepted_roots.ensures.block_stays c.accepted_roots.ensures.total_stays taken taken_is connections written h))
    in
    let peers : c.accept.new.self.jobs.peers ≡ slice_set c.args.self.now.jobs.peers c.args.peer Idle =
    c.accept.ensures.peers ∙ ap (λ (t : SwarmState). t.jobs.peers) taken_is
    in
    accepted_after c.args.self.now c.args.peer call busy connections longer written (heard ++ bytes_of c.args.event)
    (into g.S.Sink.sink c.args.out.now c.accept.new.out)
    (over_told c.args.self.now c.args.peer call busy c.heard.new.call heard c.args.event same stands says connections)
    c.accept.new.self c.heard.new.call heard c.args.event c.accept.result peers same ends

pub returns-in-Ok-Done-clause-others : goal.returns-in-Ok-Done-clause-others
returns-in-Ok-Done-clause-others g c = λ i differs.
    let inside : SwarmState = record {
      root = c.self.inside.root;
      part = c.self.inside.part;
      limits = c.self.inside.limits;
      plan = c.self.inside.plan;
      jobs = c.self.inside.jobs;
      ended = c.self.inside.ended;
    }
    in
    let taken : SwarmState = record inside { jobs = c.take_busy.new.self } in
    let taken_is : taken ≡ set_in c.args.self.now c.args.peer Idle =
    set_is inside c.args.self.now c.take_busy.new.self c.args.peer Idle c.self.view_is c.in-Some.ensures.1
    in
    kept_others c.args.self.now taken c.accept.new.self c.args.peer taken_is c.accept.ensures.peers i differs

pub returns-in-Err-clause-ends : goal.returns-in-Err-clause-ends
returns-in-Err-clause-ends g c = λ connections written heard call h busy stands.
    let inside : SwarmState = record {
      root = c.self.inside.root;
      part = c.self.inside.part;
      limits = c.self.inside.limits;
      plan = c.self.inside.plan;
      jobs = c.self.inside.jobs;
      ended = c.self.inside.ended;
    }
    in
    let taken : SwarmState = record inside { jobs = c.take_busy.new.self } in
    let taken_is : taken ≡ set_in c.args.self.now c.args.peer Idle =
    set_is inside c.args.self.now c.take_busy.new.self c.args.peer Idle c.self.view_is c.in-Some.ensures.1
    in
    blamed_ends c.args.self.now c.args.peer call busy taken taken_is connections written (heard ++ bytes_of c.args.event)
    (into g.S.Sink.sink c.args.out.now c.args.out.now) h c.blame.new.self c.in-Err.fault
    c.blame.result c.blame.ensures (put_nothing g.S.Sink.sink c.args.out.now (g.met.S.Sink.rests c.args.out.now))
    (unput_still g.S.Sink.sink c.args.out.now (g.met.S.Sink.rests c.args.out.now)) refl

pub returns-in-Err-clause-peer : goal.returns-in-Err-clause-peer
returns-in-Err-clause-peer g c = λ connections written heard call h busy stands.
    let inside : SwarmState = record {
      root = c.self.inside.root;
      part = c.self.inside.part;
      limits = c.self.inside.limits;
      plan = c.self.inside.plan;
      jobs = c.self.inside.jobs;
      ended = c.self.inside.ended;
    }
    in
    let taken : SwarmState = record inside { jobs = c.take_busy.new.self } in
    let taken_is : taken ≡ set_in c.args.self.now c.args.peer Idle =
    set_is inside c.args.self.now c.take_busy.new.self c.args.peer Idle c.self.view_is c.in-Some.ensures.1
    in
    let one : c.in-Some.call ≡ call = its_call inside c.args.self.now c.args.peer c.in-Some.call call c.self.view_is c.in-Some.ensures.0 busy in
    let same : c.heard.new.call.job ≡ call.job = c.heard.ensures.job ∙ ap (λ (t : Call Client). t.job) one in
    let says : CallHeard call c.heard.new.call heard c.args.event (Err c.in-Err.fault) =
    heard_as c.in-Some.call call c.heard.new.call heard c.args.event c.heard.result (Err c.in-Err.fault) one (c.in-Err.is)
    (c.heard.ensures.heard heard)
    in
    blamed_after c.args.self.now c.args.peer call busy c.heard.new.call heard c.args.event same stands taken c.blame.new.self
    c.in-Err.fault c.blame.result
    taken_is c.blame.ensures says

pub returns-in-Err-clause-others : goal.returns-in-Err-clause-others
returns-in-Err-clause-others g c = λ i differs.
    let inside : SwarmState = record {
      root = c.self.inside.root;
      part = c.self.inside.part;
      limits = c.self.inside.limits;
      plan = c.self.inside.plan;
      jobs = c.self.inside.jobs;
      ended = c.self.inside.ended;
    }
    in
    let taken : SwarmState = record inside { jobs = c.take_busy.new.self } in
    let taken_is : taken ≡ set_in c.args.self.now c.args.peer Idle =
    set_is inside c.args.self.now c.take_busy.new.self c.args.peer Idle c.self.view_is c.in-Some.ensures.1
    in
    blamed_others c.args.self.now taken c.blame.new.self c.args.peer c.in-Err.fault c.blame.result taken_is c.blame.ensures i differs

pub returns-in-Ok-More-clause-unfinished : goal.returns-in-Ok-More-clause-unfinished
returns-in-Ok-More-clause-unfinished g c = λ connections written h not.
    let inside : SwarmState = record {
      root = c.self.inside.root;
      part = c.self.inside.part;
      limits = c.self.inside.limits;
      plan = c.self.inside.plan;
      jobs = c.self.inside.jobs;
      ended = c.self.inside.ended;
    }
    in
    let taken : SwarmState = record inside { jobs = c.take_busy.new.self } in
    let taken_is : taken ≡ set_in c.args.self.now c.args.peer Idle =
    set_is inside c.args.self.now c.take_busy.new.self c.args.peer Idle c.self.view_is c.in-Some.ensures.1
    in
    let busy : slice_get c.args.self.now.jobs.peers c.args.peer ≡ Some (Busy c.in-Some.call) =
    ap (λ (s : SwarmState). slice_get s.jobs.peers c.args.peer) (sym c.self.view_is) ∙ c.in-Some.ensures.0
    in
    let new : SwarmState = record inside { jobs = c.set.new.self } in
    let new_is : new ≡ set_in taken c.args.peer (Busy c.heard.new.call) =
    ap (λ (j : JobsState Client). record inside { jobs = j }) c.set.ensures
    in
    more_before c.args.self.now taken c.args.peer c.in-Some.call busy taken_is connections written
    (into g.S.Sink.sink c.args.out.now c.args.out.now) h
    (unput_still g.S.Sink.sink c.args.out.now (g.met.S.Sink.rests c.args.out.now)) refl
    new c.heard.new.call c.heard.ensures.job new_is

pub returns-in-Ok-More-clause-failed : goal.returns-in-Ok-More-clause-failed
returns-in-Ok-More-clause-failed g c = λ is going.
    let found : c.heard.result ≡ Ok More = c.in-Ok-More.is ∙ ap (λ (p : Progress). Ok p) c.in-Ok-More.field-0-is in
    let e : Ok More ≡ Err PeerFault = sym found ∙ c.heard.ensures.failed is in
    absurd (cc e)

pub returns-in-Ok-Done-clause-failed : goal.returns-in-Ok-Done-clause-failed
returns-in-Ok-Done-clause-failed g c = λ is going.
    let found : c.heard.result ≡ Ok Done = c.in-Ok-Done.is ∙ ap (λ (p : Progress). Ok p) c.in-Ok-Done.field-0-is in
    let e : Ok Done ≡ Err PeerFault = sym found ∙ c.heard.ensures.failed is in
    absurd (cc e)

pub returns-in-Ok-Done-clause-unfinished : goal.returns-in-Ok-Done-clause-unfinished
returns-in-Ok-Done-clause-unfinished g c = λ connections written h not.
    let inside : SwarmState = record {
      root = c.self.inside.root;
      part = c.self.inside.part;
      limits = c.self.inside.limits;
      plan = c.self.inside.plan;
      jobs = c.self.inside.jobs;
      ended = c.self.inside.ended;
    }
    in
    let taken : SwarmState = record inside { jobs = c.take_busy.new.self } in
    let taken_is : taken ≡ set_in c.args.self.now c.args.peer Idle =
    set_is inside c.args.self.now c.take_busy.new.self c.args.peer Idle c.self.view_is c.in-Some.ensures.1
    in
    let busy : slice_get c.args.self.now.jobs.peers c.args.peer ≡ Some (Busy c.in-Some.call) =
    ap (λ (s : SwarmState). slice_get s.jobs.peers c.args.peer) (sym c.self.view_is) ∙ c.in-Some.ensures.0
    in
    absurd (not (idle_then c.args.self.now taken c.args.peer c.in-Some.call busy taken_is c.accept.new.self c.accept.ensures.peers))

pub returns-in-Ok-Done-clause-count : goal.returns-in-Ok-Done-clause-count
returns-in-Ok-Done-clause-count g c =
    let inside : SwarmState = record {
      root = c.self.inside.root;
      part = c.self.inside.part;
      limits = c.self.inside.limits;
      plan = c.self.inside.plan;
      jobs = c.self.inside.jobs;
      ended = c.self.inside.ended;
    }
    in
    let taken : SwarmState = record inside { jobs = c.take_busy.new.self } in
    let taken_is : taken ≡ set_in c.args.self.now c.args.peer Idle =
    set_is inside c.args.self.now c.take_busy.new.self c.args.peer Idle c.self.view_is c.in-Some.ensures.1
    in
    subst (λ (n : ℕ). OnErr c.accept.result (c.accept.new.self.jobs.count ≡ n)) (ap (λ (t : SwarmState). t.jobs.count) taken_is)
    c.accept.ensures.count

pub returns-in-Ok-Done-clause-plan : goal.returns-in-Ok-Done-clause-plan
returns-in-Ok-Done-clause-plan g c = λ total is.
    let inside : SwarmState = record {
      root = c.self.inside.root;
      part = c.self.inside.part;
      limits = c.self.inside.limits;
      plan = c.self.inside.plan;
      jobs = c.self.inside.jobs;
      ended = c.self.inside.ended;
    }
    in
    let taken : SwarmState = record inside { jobs = c.take_busy.new.self } in
    let taken_is : taken ≡ set_in c.args.self.now c.args.peer Idle =
    set_is inside c.args.self.now c.take_busy.new.self c.args.peer Idle c.self.view_is c.in-Some.ensures.1
    in
    c.accept.ensures.plan total (ap (λ (t : SwarmState). t.plan) taken_is ∙ is)

pub returns-in-Err-clause-unfinished : goal.returns-in-Err-clause-unfinished
returns-in-Err-clause-unfinished g c = λ connections written h not.
    let inside : SwarmState = record {
      root = c.self.inside.root;
      part = c.self.inside.part;
      limits = c.self.inside.limits;
      plan = c.self.inside.plan;
      jobs = c.self.inside.jobs;
      ended = c.self.inside.ended;
    }
    in
    let taken : SwarmState = record inside { jobs = c.take_busy.new.self } in
    let taken_is : taken ≡ set_in c.args.self.now c.args.peer Idle =
    set_is inside c.args.self.now c.take_busy.new.self c.args.peer Idle c.self.view_is c.in-Some.ensures.1
    in
    let busy : slice_get c.args.self.now.jobs.peers c.args.peer ≡ Some (Busy c.in-Some.call) =
    ap (λ (s : SwarmState). slice_get s.jobs.peers c.args.peer) (sym c.self.view_is) ∙ c.in-Some.ensures.0
    in
    blamed_before c.args.self.now taken c.args.peer c.in-Some.call busy taken_is connections written
    (into g.S.Sink.sink c.args.out.now c.args.out.now) h
    (unput_still g.S.Sink.sink c.args.out.now (g.met.S.Sink.rests c.args.out.now)) refl
    c.blame.new.self c.in-Err.fault c.blame.result c.blame.ensures

pub returns-in-Err-clause-failed : goal.returns-in-Err-clause-failed
returns-in-Err-clause-failed g c = λ is going.
    let inside : SwarmState = record {
      root = c.self.inside.root;
      part = c.self.inside.part;
      limits = c.self.inside.limits;
      plan = c.self.inside.plan;
      jobs = c.self.inside.jobs;
      ended = c.self.inside.ended;
    }
    in
    let taken : SwarmState = record inside { jobs = c.take_busy.new.self } in
    let taken_is : taken ≡ set_in c.args.self.now c.args.peer Idle =
    set_is inside c.args.self.now c.take_busy.new.self c.args.peer Idle c.self.view_is c.in-Some.ensures.1
    in
    let busy : slice_get c.args.self.now.jobs.peers c.args.peer ≡ Some (Busy c.in-Some.call) =
    ap (λ (s : SwarmState). slice_get s.jobs.peers c.args.peer) (sym c.self.view_is) ∙ c.in-Some.ensures.0
    in
    let same : Err c.in-Err.fault ≡ Err PeerFault = sym c.in-Err.is ∙ c.heard.ensures.failed is in
    let fault_is : c.in-Err.fault ≡ PeerFault = cc same in
    blamed_failed c.args.self.now taken c.args.peer c.in-Some.call busy taken_is c.blame.new.self c.in-Err.fault c.blame.result fault_is
    c.blame.ensures

-- ---- less is left to do

pub returns-in-Ok-More-clause-shorter : goal.returns-in-Ok-More-clause-shorter
returns-in-Ok-More-clause-shorter g c = λ connections written heard call h busy stands some.
    let inside : SwarmState = record {
      root = c.self.inside.root;
      part = c.self.inside.part;
      limits = c.self.inside.limits;
      plan = c.self.inside.plan;
      jobs = c.self.inside.jobs;
      ended = c.self.inside.ended;
    }
    in
    let taken : SwarmState = record inside { jobs = c.take_busy.new.self } in
    let taken_is : taken ≡ set_in c.args.self.now c.args.peer Idle =
    set_is inside c.args.self.now c.take_busy.new.self c.args.peer Idle c.self.view_is c.in-Some.ensures.1
    in
    let one : c.in-Some.call ≡ call = its_call inside c.args.self.now c.args.peer c.in-Some.call call c.self.view_is c.in-Some.ensures.0 busy in
    let new : SwarmState = record inside { jobs = c.set.new.self } in
    let new_is : new ≡ set_in taken c.args.peer (Busy c.heard.new.call) =
    ap (λ (j : JobsState Client). record inside { jobs = j }) c.set.ensures
    in
    let says : CallHeard call c.heard.new.call heard c.args.event (Ok More) =
    heard_as c.in-Some.call call c.heard.new.call heard c.args.event c.heard.result (Ok More) one
    (c.in-Ok-More.is ∙ ap (λ (p : Progress). Ok p) c.in-Ok-More.field-0-is) (c.heard.ensures.heard heard)
    in
    more_shorter c.args.self.now c.args.peer call heard busy stands taken new c.heard.new.call c.args.event taken_is new_is says
    (piece_tells c.args.event c.heard.result some (c.in-Ok-More.is ∙ ap (λ (p : Progress). Ok p) c.in-Ok-More.field-0-is) c.heard.ensures.ended
    c.heard.ensures.failed)

pub returns-in-Ok-Done-clause-shorter : goal.returns-in-Ok-Done-clause-shorter
returns-in-Ok-Done-clause-shorter g c = λ connections written heard call h busy stands some.
    let inside : SwarmState = record {
      root = c.self.inside.root;
      part = c.self.inside.part;
      limits = c.self.inside.limits;
      plan = c.self.inside.plan;
      jobs = c.self.inside.jobs;
      ended = c.self.inside.ended;
    }
    in
    let taken : SwarmState = record inside { jobs = c.take_busy.new.self } in
    let taken_is : taken ≡ set_in c.args.self.now c.args.peer Idle =
    set_is inside c.args.self.now c.take_busy.new.self c.args.peer Idle c.self.view_is c.in-Some.ensures.1
    in
    let one : c.in-Some.call ≡ call = its_call inside c.args.self.now c.args.peer c.in-Some.call call c.self.view_is c.in-Some.ensures.0 busy in
    let same : c.heard.new.call.job ≡ call.job = c.heard.ensures.job ∙ ap (λ (t : Call Client). t.job) one in
    let says : CallHeard call c.heard.new.call heard c.args.event (Ok Done) =
    heard_as c.in-Some.call call c.heard.new.call heard c.args.event c.heard.result (Ok Done) one
    (c.in-Ok-Done.is ∙ ap (λ (p : Progress). Ok p) c.in-Ok-Done.field-0-is) (c.heard.ensures.heard heard)
    in
    let longer : List Connection = with_over c.args.self.now c.args.peer call busy c.heard.new.call heard c.args.event same stands says connections in
    let ends : AcceptedEnds (set_in c.args.self.now c.args.peer Idle) c.accept.new.self longer written c.heard.new.call
    (into g.S.Sink.sink c.args.out.now c.accept.new.out) c.accept.result =
    subst (λ (t : SwarmState). AcceptedEnds t c.accept.new.self longer written c.heard.new.call
    (into g.S.Sink.sink c.args.out.now c.accept.new.out) c.accept.result) taken_is
    (c.accept.ensures.ends longer written
    (over_accepting c.args.self.now c.args.peer call busy c.heard.new.call heard c.args.event same stands says
    c.accepted_parts.ensures.stay c.accepted_roots.ensures.block_stays c.accepted_roots.ensures.total_stays taken taken_is connections written h))
    in
    accepted_shorter c.args.self.now c.args.peer call heard busy stands taken c.accept.new.self c.heard.new.call longer written
    (into g.S.Sink.sink c.args.out.now c.accept.new.out) c.accept.result taken_is c.accept.ensures.settings c.accept.ensures.peers ends

pub returns-in-Err-clause-shorter : goal.returns-in-Err-clause-shorter
returns-in-Err-clause-shorter g c = λ connections written heard call h busy stands some.
    let inside : SwarmState = record {
      root = c.self.inside.root;
      part = c.self.inside.part;
      limits = c.self.inside.limits;
      plan = c.self.inside.plan;
      jobs = c.self.inside.jobs;
      ended = c.self.inside.ended;
    }
    in
    let taken : SwarmState = record inside { jobs = c.take_busy.new.self } in
    let taken_is : taken ≡ set_in c.args.self.now c.args.peer Idle =
    set_is inside c.args.self.now c.take_busy.new.self c.args.peer Idle c.self.view_is c.in-Some.ensures.1
    in
    blamed_shorter c.args.self.now c.args.peer call heard busy stands taken c.blame.new.self c.in-Err.fault c.blame.result taken_is c.blame.ensures
