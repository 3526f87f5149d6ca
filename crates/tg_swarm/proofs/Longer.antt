-- What stands of a swarm stays so with further connections, and with other answers that follow from these.
use Rattle.std.proofs.Common.{List, suc, zero, ℕ, ◌++◌, ◌+◌}
use Rattle.tg_cid.specs.Cid.{CidParts}
use Rattle.tg_fetch.specs.declared.client.Client.{Client}
use Rattle.tg_parts.specs.Connections.{AreAnswers, Connection}
use Rattle.tg_parts.specs.Connections as connected
use Rattle.tg_parts.specs.PartLaws.{AcceptedStay, RootsStay, TotalsStay}
use Rattle.tg_parts.specs.Parts.{part_query}
use Rattle.tg_swarm.specs.Jobs.{IsAlmost, JobsState}
use Rattle.tg_swarm.specs.Swarms.{AnswersFor, AnswersJob, IsPlanned, StandsFor, SwarmState, asked_of}
use Rattle.tg_swarm.specs.declared.swarm.Plan.{Plan}
use Rattle.tg_swarm.specs.declared.swarm.Plan.TheVariants as plans

-- ---- other answers

pub almost_for : {C : Type 0} (old new : ℕ → List ℕ → Type 0) (s : JobsState C) → ((k : ℕ) (text : List ℕ) → old k text → new k text)
    → IsAlmost old s → IsAlmost new s
almost_for old new s each a = record {
  within = a.within;
  fits = a.fits;
  room = a.room;
  jobs = a.jobs;
  one = a.one;
  done = λ k text h. let d = a.done k text h in (d.0, each (s.written + k) text d.1);
}

pub answers_for : (old new : ℕ → List ℕ → Type 0) → ((k : ℕ) (text : List ℕ) → old k text → new k text) → (n : ℕ) (written : List ℕ)
    → AreAnswers old n written → AreAnswers new n written
answers_for old new each zero written connected.none = connected.none
answers_for old new each (suc n) written (connected.more m before text first a) =
    connected.more n before text (answers_for old new each n before first) (each n text a)

-- ---- further connections

module _ (stay : AcceptedStay) (block_stays : RootsStay) (total_stays : TotalsStay) (connections more : List Connection) where
  answer_stays : (root : CidParts) (part : ℕ) (plan : Plan) (job : ℕ) (text : List ℕ) → AnswersFor root part plan connections job text
      → AnswersFor root part plan (connections ++ more) job text
  answer_stays root part plans.Root job text h = block_stays connections more root text h
  answer_stays root part (plans.Parts total) job text h = stay connections more (part_query root part total job) text h

  planned_stays : (root : CidParts) (part : ℕ) (plan : Plan) (jobs : JobsState Client) (written : List ℕ)
      → IsPlanned root part plan jobs connections written → IsPlanned root part plan jobs (connections ++ more) written
  planned_stays root part plans.Root jobs written h = h
  planned_stays root part (plans.Parts total) jobs written h = (total_stays connections more root total h.0, h.1)

  pub stands_longer : (s : SwarmState) (written : List ℕ) → StandsFor s connections written → StandsFor s (connections ++ more) written
  stands_longer s written h = record {
    going = h.going;
    planned = planned_stays s.root s.part s.plan s.jobs written h.planned;
    jobs = record {
      almost = almost_for (AnswersJob (asked_of s connections)) (AnswersJob (asked_of s (connections ++ more))) s.jobs
          (λ k text. answer_stays s.root s.part s.plan k text) h.jobs.almost;
      first = h.jobs.first;
    };
    answers = answers_for (AnswersJob (asked_of s connections)) (AnswersJob (asked_of s (connections ++ more)))
        (λ k text. answer_stays s.root s.part s.plan k text) s.jobs.written written h.answers;
  }
