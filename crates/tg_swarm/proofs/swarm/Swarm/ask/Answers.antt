use Rattle.std.proofs.Common.{ap, subst, sym, ℕ, ◌∙◌, ◌≡◌}
use Rattle.std.specs.List.{slice_get}
use Rattle.tg_fetch.specs.declared.client.Client.{Client}
use Rattle.tg_swarm.proofs.Starting.{has_asked, not_ended, nothing_asked, set_is, stands_asked}
use Rattle.tg_swarm.proofs.Steps.{asked_shorter}
use Rattle.tg_swarm.proofs.swarm.Swarm.ask.Goals as goal
use Rattle.tg_swarm.specs.Jobs.{IsLowest, JobsState}
use Rattle.tg_swarm.specs.Peers.{slice_with}
use Rattle.tg_swarm.specs.Swarms.{SwarmState}
use Rattle.tg_swarm.specs.declared.peers.Call.{Call}
use Rattle.tg_swarm.specs.declared.peers.Peer.TheVariants.{Busy}

-- a peer is busy in jobs that are what they were
set_over : (peer : ℕ) (call : Call Client) {old roomy new : JobsState Client} → new ≡ record roomy { peers = slice_with roomy.peers peer (Busy call) } → roomy ≡ old
    → new ≡ record old { peers = slice_with old.peers peer (Busy call) }
set_over peer call {old} {roomy} {new} set same =
    set ∙ ap {A = JobsState Client} (λ s. record s { peers = slice_with s.peers peer (Busy call) }) same

pub returns-in_default-clause-asked : goal.returns-in_default-clause-asked
returns-in_default-clause-asked c = nothing_asked c.args.self.now c.args.peer c.self.inside.jobs
    (ap (λ s. s.jobs) c.self.view_is) c.in_default.ensures.lowest

pub returns-clause-asked : goal.returns-clause-asked
returns-clause-asked c =
    let inside : SwarmState = record {
      root = c.self.inside.root;
      part = c.self.inside.part;
      limits = c.self.inside.limits;
      plan = c.self.inside.plan;
      jobs = c.self.inside.jobs;
      ended = c.self.inside.ended;
    }
    in
    let call : Call Client = record { job = c.in-Some.job; client = c.in_ok-client.client; text = c.onto-text.result } in
    let same = c.self.view_is in
    has_asked c.args.self.now (record inside { jobs = c.set.new.self }) c.args.peer c.query-query.result call
    c.query-query.ensures
    c.in_ok-client.ensures.query (c.in_ok-client.ensures.limits ∙ c.client_limits.ensures) c.in_ok-client.ensures.stands
    (ap (λ t. t.content) c.onto-text.ensures ∙ c.in_ok-room.ensures.empty)
    (ap (λ s. slice_get s.jobs.peers c.args.peer) (sym same) ∙ c.is_idle.ensures.0 (cc c.if-not-is_idle.false))
    (not_ended c.self.inside.ended c.args.self.now.ended c.is_some.result c.is_some.ensures c.if-is_some.false (ap (λ s. s.ended) same))
    (subst (λ s. IsLowest s.jobs c.in-Some.job) same c.in-Some.ensures.lowest)
    (set_is inside c.args.self.now c.set.new.self c.args.peer (Busy call) same (set_over c.args.peer call c.set.ensures c.in_ok-room.ensures.same))

pub returns-clause-stands : goal.returns-clause-stands
returns-clause-stands c =
    let inside : SwarmState = record {
      root = c.self.inside.root;
      part = c.self.inside.part;
      limits = c.self.inside.limits;
      plan = c.self.inside.plan;
      jobs = c.self.inside.jobs;
      ended = c.self.inside.ended;
    }
    in
    let call : Call Client = record { job = c.in-Some.job; client = c.in_ok-client.client; text = c.onto-text.result } in
    let same = c.self.view_is in
    stands_asked c.args.self.now (record inside { jobs = c.set.new.self }) c.args.peer call c.requires
    (subst (λ s. IsLowest s.jobs c.in-Some.job) same c.in-Some.ensures.lowest)
    (set_is inside c.args.self.now c.set.new.self c.args.peer (Busy call) same (set_over c.args.peer call c.set.ensures c.in_ok-room.ensures.same))

pub returns-clause-shorter : goal.returns-clause-shorter
returns-clause-shorter c =
    let inside : SwarmState = record {
      root = c.self.inside.root;
      part = c.self.inside.part;
      limits = c.self.inside.limits;
      plan = c.self.inside.plan;
      jobs = c.self.inside.jobs;
      ended = c.self.inside.ended;
    }
    in
    let call : Call Client = record { job = c.in-Some.job; client = c.in_ok-client.client; text = c.onto-text.result } in
    let same = c.self.view_is in
    asked_shorter c.args.self.now (record inside { jobs = c.set.new.self }) c.args.peer call
    (ap (λ s. slice_get s.jobs.peers c.args.peer) (sym same) ∙ c.is_idle.ensures.0 (cc c.if-not-is_idle.false))
    (set_is inside c.args.self.now c.set.new.self c.args.peer (Busy call) same (set_over c.args.peer call c.set.ensures c.in_ok-room.ensures.same))
