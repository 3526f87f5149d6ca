use Rattle.std.proofs.Common.{List, ap, subst, sym, ℕ, ◌-◌, ◌∙◌, ◌≡◌}
use Rattle.std.proofs.lemmas.Result.{err_from_is_err_and}
use Rattle.tg_streams.specs.Streams.{into}
use Rattle.tg_swarm.proofs.Accepting.{kept_almost, kept_answers, part_accepted, part_failed, root_accepted, rooting}
use Rattle.tg_swarm.proofs.swarm.Swarm.accept.Goals as goal
use Rattle.tg_swarm.specs.Jobs.{with_part}
use Rattle.tg_swarm.specs.Said.{FailedIn, HasAccepted, IsRooting, RootedEnds}
use Rattle.tg_swarm.specs.Swarms.{SwarmState, asked_of}
use Rattle.tg_swarm.specs.declared.swarm.Plan.TheVariants.{Parts, Root}

pub returns-in-Root-clause-ends : goal.returns-in-Root-clause-ends
returns-in-Root-clause-ends g c = λ connections written f.
    let plan_is : c.args.self.now.plan ≡ Root = ap (λ (s : SwarmState). s.plan) (sym c.self.view_is) ∙ c.in-Root.is in
    root_accepted c.args.self.now c.args.call connections written f plan_is c.begin.new.self (into g.S.Sink.sink c.args.out.now c.begin.new.out)
    c.begin.result
    (subst (λ (b : List ℕ). RootedEnds c.args.self.now c.begin.new.self connections b
    (into g.S.Sink.sink c.args.out.now c.begin.new.out) c.begin.result)
    c.into_bytes.ensures
    (c.begin.ensures.ends connections
    (subst (λ (b : List ℕ). IsRooting c.args.self.now b connections) (sym c.into_bytes.ensures)
    (rooting c.args.self.now c.args.call connections written f plan_is))))

pub returns-in_ok-put_ready-in-Parts-clause-ends : goal.returns-in_ok-put_ready-in-Parts-clause-ends
returns-in_ok-put_ready-in-Parts-clause-ends g c = λ connections written f.
    let plan_is : c.args.self.now.plan ≡ Parts c.in-Parts.total = ap (λ (s : SwarmState). s.plan) (sym c.self.view_is) ∙ c.in-Parts.is in
    let kept_is : c.keep.new.self ≡ with_part c.args.self.now.jobs (c.args.call.job - c.args.self.now.jobs.written) c.args.call.text.content =
    c.keep.ensures
    ∙ ap (λ (s : SwarmState). with_part s.jobs (c.args.call.job - s.jobs.written) c.into_bytes-in-Parts.result) c.self.view_is
    ∙ ap (λ (t : List ℕ). with_part c.args.self.now.jobs (c.args.call.job - c.args.self.now.jobs.written) t) c.into_bytes-in-Parts.ensures
    in
    let almost = kept_almost c.args.self.now c.args.call connections written f c.in-Parts.total plan_is c.keep.new.self kept_is in
    let answers = kept_answers c.args.self.now c.args.call connections written f c.in-Parts.total plan_is c.keep.new.self kept_is in
    subst (λ (t : SwarmState). HasAccepted c.args.self.now (record t { jobs = c.put_ready.new.self }) connections written c.args.call.job
    (into g.S.Sink.sink c.args.out.now c.put_ready.new.out) c.progress.result) (sym c.self.view_is)
    (part_accepted c.args.self.now c.args.call connections written f c.in-Parts.total plan_is c.keep.new.self kept_is c.put_ready.new.self
    (into g.S.Sink.sink c.args.out.now c.put_ready.new.out) c.progress.result
    (c.in_ok-put_ready-in-Parts.ensures.put (asked_of c.args.self.now connections) written almost answers)
    (c.in_ok-put_ready-in-Parts.ensures.opened (asked_of c.args.self.now connections) written almost answers)
    c.put_ready.ensures.count c.progress.ensures)

pub returns-in_err-put_ready-in-Parts-clause-ends : goal.returns-in_err-put_ready-in-Parts-clause-ends
returns-in_err-put_ready-in-Parts-clause-ends g c = λ connections written f.
    let p = err_from_is_err_and c.from_residual.result c.from_residual.ensures.1 in
    let plan_is : c.args.self.now.plan ≡ Parts c.in-Parts.total = ap (λ (s : SwarmState). s.plan) (sym c.self.view_is) ∙ c.in-Parts.is in
    let kept_is : c.keep.new.self ≡ with_part c.args.self.now.jobs (c.args.call.job - c.args.self.now.jobs.written) c.args.call.text.content =
    c.keep.ensures
    ∙ ap (λ (s : SwarmState). with_part s.jobs (c.args.call.job - s.jobs.written) c.into_bytes-in-Parts.result) c.self.view_is
    ∙ ap (λ (t : List ℕ). with_part c.args.self.now.jobs (c.args.call.job - c.args.self.now.jobs.written) t) c.into_bytes-in-Parts.ensures
    in
    let almost = kept_almost c.args.self.now c.args.call connections written f c.in-Parts.total plan_is c.keep.new.self kept_is in
    let answers = kept_answers c.args.self.now c.args.call connections written f c.in-Parts.total plan_is c.keep.new.self kept_is in
    rw (p.1, p.2)
    (subst (λ (t : SwarmState). FailedIn c.args.self.now (record t { jobs = c.put_ready.new.self }) connections written
    (into g.S.Sink.sink c.args.out.now c.put_ready.new.out)) (sym c.self.view_is)
    (part_failed c.args.self.now c.args.call connections written f c.in-Parts.total plan_is c.keep.new.self kept_is c.put_ready.new.self
    (into g.S.Sink.sink c.args.out.now c.put_ready.new.out)
    (c.in_err-put_ready-in-Parts.ensures.failed (asked_of c.args.self.now connections) written almost answers)))

pub returns-in-Root-clause-plan : goal.returns-in-Root-clause-plan
returns-in-Root-clause-plan g c = λ total is.
    let e : Parts total ≡ Root = sym is ∙ ap (λ (s : SwarmState). s.plan) (sym c.self.view_is) ∙ c.in-Root.is in
    absurd (cc e)
