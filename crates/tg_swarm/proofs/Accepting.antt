-- What stands of a swarm once a job is finished.
use Rattle.std.proofs.Common.{Err, List, None, Ok, Result, Some, [], ap, arith, length, length-set, refl, subst, suc, sym, zero, ℕ, ◌++◌, ◌-◌, ◌∙◌, ◌≡◌, ◌≤◌}
use Rattle.tg_fetch.specs.declared.client.Client.{Client}
use Rattle.tg_parts.specs.Connections.{AreAnswers, Connection, WasAccepted}
use Rattle.tg_parts.specs.Connections as connected
use Rattle.tg_streams.specs.Streams.{Output}
use Rattle.std.specs.List.{slice_get}
use Rattle.tg_swarm.proofs.Keeping.{kept_closes, part_finished}
use Rattle.tg_swarm.proofs.Places.{texts_more, texts_within}
use Rattle.tg_swarm.specs.Jobs.{HasFailed, HasOpened, HasPut, IsAlmost, IsProgress, JobsState, finished_count, with_part}
use Rattle.tg_swarm.specs.Peers.{HasJob}
use Rattle.tg_swarm.specs.Said.{AcceptedEnds, FailedIn, HasAccepted, IsAccepting, IsRooting, RootedEnds}
use Rattle.tg_swarm.specs.Swarms.{AnswersFor, AnswersJob, IsPlanned, SwarmState, asked_of, query_for}
use Rattle.tg_swarm.specs.declared.fault.SwarmFault.{SwarmFault}
use Rattle.tg_swarm.specs.declared.peers.Call.{Call}
use Rattle.tg_swarm.specs.declared.swarm.Plan.{Plan}
use Rattle.tg_swarm.specs.declared.swarm.Plan.TheVariants as plans
use Rattle.tg_verify.specs.declared.verifier.Progress.{Progress}

nothing_written : (answers : ℕ → List ℕ → Type 0) (n : ℕ) (written : List ℕ) → AreAnswers answers n written → n ≡ 0 → written ≡ []
nothing_written answers zero written connected.none e = refl
nothing_written answers (suc n) written (connected.more m before text first a) e = absurd (omega (arith, e))

module _ (old : SwarmState) (call : Call Client) (connections : List Connection) (written : List ℕ)
    (f : IsAccepting old call connections written) where
  -- ---- the root's block

  module _ (plan_is : old.plan ≡ plans.Root) where
    planned_root : IsPlanned old.root old.part plans.Root old.jobs connections written
    planned_root = subst (λ (p : Plan). IsPlanned old.root old.part p old.jobs connections written) plan_is f.stands.planned

    first_job : call.job ≡ 0
    first_job = let one = planned_root.0 in omega (arith, f.is_open.within, one)

    unwritten : old.jobs.written ≡ 0
    unwritten = omega (arith, f.is_open.is_at, first_job)

    nobody : (i job : ℕ) → HasJob old.jobs.peers i job → ⊥
    nobody i job h =
        let o = f.stands.jobs.almost.jobs i job h in
        let one = planned_root.0 in
        let same : job ≡ call.job = omega (arith, o.within, one, first_job) in
        f.nobody i (subst (HasJob old.jobs.peers i) same h)

    pub rooting : IsRooting old call.text.content connections
    rooting = record {
      plan = plan_is;
      going = f.stands.going;
      accepted = subst (λ (p : Plan). WasAccepted connections (query_for old.root old.part p call.job) call.text.content) plan_is f.accepted;
      count = planned_root.0;
      written = unwritten;
      none = planned_root.1;
      jobs = f.stands.jobs;
      nobody = nobody;
    }

    by_result : (new : SwarmState) (out : Output) (result : Result Progress SwarmFault) → RootedEnds old new connections call.text.content out result
        → AcceptedEnds old new connections [] call out result
    by_result new out (Ok progress) h = record {
      text = h.text;
      put = h.put;
      quiet = h.quiet;
      stands = h.stands;
      progress_is = h.progress_is;
      closed = λ plan o. let done = h.closed (plan ∙ plan_is) in omega (arith, o.is_at, done, first_job);
      fewer = h.fewer;
    }
    by_result new out (Err fault) h = h

    pub root_accepted : (new : SwarmState) (out : Output) (result : Result Progress SwarmFault)
        → RootedEnds old new connections call.text.content out result → AcceptedEnds old new connections written call out result
    root_accepted new out result h =
        subst (λ (w : List ℕ). AcceptedEnds old new connections w call out result)
        (sym (nothing_written (AnswersJob (asked_of old connections)) old.jobs.written written f.stands.answers unwritten))
        (by_result new out result h)

  -- ---- a part

  module _ (total : ℕ) (plan_is : old.plan ≡ plans.Parts total) (kept : JobsState Client)
      (kept_is : kept ≡ with_part old.jobs (call.job - old.jobs.written) call.text.content) where
    its_answer : AnswersJob (asked_of old connections) call.job call.text.content
    its_answer = subst (λ (p : Plan). AnswersFor old.root old.part p connections call.job call.text.content) (sym plan_is)
        (subst (λ (p : Plan). WasAccepted connections (query_for old.root old.part p call.job) call.text.content) plan_is f.accepted)

    pub kept_almost : IsAlmost (AnswersJob (asked_of old connections)) kept
    kept_almost = subst (λ (j : JobsState Client). IsAlmost (AnswersJob (asked_of old connections)) j) (sym kept_is)
        (part_finished (AnswersJob (asked_of old connections)) old.jobs call.job call.text.content f.stands.jobs.almost f.is_open f.nobody its_answer)

    pub kept_answers : AreAnswers (AnswersJob (asked_of old connections)) kept.written written
    kept_answers = subst (λ (j : JobsState Client). AreAnswers (AnswersJob (asked_of old connections)) j.written written)
        (sym kept_is) f.stands.answers

    ready_planned : (ready : JobsState Client) (text : List ℕ) → ready.count ≡ kept.count
        → IsPlanned old.root old.part old.plan ready connections (written ++ text)
    ready_planned ready text count =
        let before : IsPlanned old.root old.part (plans.Parts total) old.jobs connections written =
        subst (λ (p : Plan). IsPlanned old.root old.part p old.jobs connections written) plan_is f.stands.planned
        in
        subst (λ (p : Plan). IsPlanned old.root old.part p ready connections (written ++ text)) (sym plan_is)
        (before.0, count ∙ ap (λ (j : JobsState Client). j.count) kept_is ∙ before.1)

    pub part_accepted : (ready : JobsState Client) (out : Output) (progress : Progress)
        → HasPut (AnswersJob (asked_of old connections)) ready written out → HasOpened kept ready → ready.count ≡ kept.count
        → (ready.written ≤ ready.count → IsProgress ready progress)
        → HasAccepted old (record old { jobs = ready }) connections written call.job out progress
    part_accepted ready out progress p opened count far = record {
      text = p.text;
      put = p.put;
      quiet = p.quiet;
      stands = record {
        going = f.stands.going;
        planned = ready_planned ready p.text count;
        jobs = p.jobs;
        answers = p.answers;
      };
      progress_is = far p.jobs.almost.within;
      closed = λ plan o.
          kept_closes old.jobs ready call.job call.text.content f.is_open (subst (λ (j : JobsState Client). HasOpened j ready) kept_is opened) o;
      fewer = omega (
        arith,
        opened.same,
        opened.finished,
        ap (λ (j : JobsState Client). length j.parts) kept_is,
        ap (λ (j : JobsState Client). finished_count j) kept_is,
        length-set old.jobs.parts (call.job - old.jobs.written) (Some call.text.content),
        texts_more old.jobs.parts (call.job - old.jobs.written) call.text.content
            (subst (λ (n : ℕ). slice_get old.jobs.parts n ≡ Some None) (omega (arith, f.is_open.is_at)) f.is_open.unfinished),
        texts_within ready.parts,
        p.jobs.almost.within,
        p.jobs.almost.fits,
      );
    }

    pub part_failed : (ready : JobsState Client) (out : Output) → HasFailed (AnswersJob (asked_of old connections)) ready written out
        → FailedIn old (record old { jobs = ready }) connections written out
    part_failed ready out h = record {
      failed = h;
      raw = λ plan. absurd (let e : plans.Root ≡ plans.Parts total = sym plan ∙ plan_is in cc);
    }
