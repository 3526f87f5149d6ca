-- What each job is.
use Rattle.std.proofs.Common.{List, None, Option, Some, [], ap, arith, inl, inr, refl, subst, suc, sym, zero, ℕ, ◌+◌, ◌-◌, ◌<◌, ◌∙◌, ◌∷◌, ◌≡◌, ◌⊎◌}
use Rattle.std.proofs.lemmas.Bool.{cases_eq, cases_lt}
use Rattle.std.proofs.lemmas.Option.{slice_get_cases}
use Rattle.std.specs.List.{slice_get}
use Rattle.tg_swarm.specs.Peers.{HasJob, IsAsked, job_of}
use Rattle.tg_swarm.specs.Jobs.{IsJobs, IsWaiting, JobIs, JobsState, NoneBusy, ahead, asked, finished, waits, written}
use Rattle.tg_swarm.specs.declared.peers.Peer.{Peer}
use Rattle.tg_swarm.specs.declared.peers.Peer.TheVariants as kinds

its_job : {C : Type 0} (peer : Peer C) (job : ℕ) → (job_of peer ≡ Some job) ⊎ (job_of peer ≡ Some job → ⊥)
its_job kinds.Idle job = inr (λ h. cc)
its_job (kinds.Busy call) job = elim (cases_eq call.job job) [
  | inl same ↦ inl (ap (λ (n : ℕ). Some n) same)
  | inr differs ↦ inr (λ h. let e : call.job ≡ job = cc in differs e)
]
its_job (kinds.Refused fault) job = inr (λ h. cc)

no_later : {C : Type 0} (peer : Peer C) (peers : List (Peer C)) (job : ℕ) → (job_of peer ≡ Some job → ⊥) → (IsAsked peers job → ⊥) → (i : ℕ)
    → HasJob (peer ∷ peers) i job → ⊥
no_later peer peers job not none zero h =
    let e : peer ≡ h.0 = let both : Some peer ≡ Some h.0 = h.1 in cc in
    not (ap job_of e ∙ h.2)
no_later peer peers job not none (suc i) h = none (i, h)

asked_or_not : {C : Type 0} (peers : List (Peer C)) (job : ℕ) → IsAsked peers job ⊎ (IsAsked peers job → ⊥)
asked_or_not [] job = inr (λ a. let h = (a.1).1 in absurd (cc h))
asked_or_not {C} (peer ∷ peers) job = go (its_job peer job) (asked_or_not peers job)
  where
    go : (job_of peer ≡ Some job) ⊎ (job_of peer ≡ Some job → ⊥) → IsAsked peers job ⊎ (IsAsked peers job → ⊥)
        → IsAsked (peer ∷ peers) job ⊎ (IsAsked (peer ∷ peers) job → ⊥)
    go (inl here) rest = inl (0, (peer, refl, here))
    go (inr not) (inl (i, h)) = inl (suc i, h)
    go (inr not) (inr none) = inr (λ a. no_later peer peers job not none a.0 a.1)

module _ {C : Type 0} (answers : ℕ → List ℕ → Type 0) (s : JobsState C) (w : IsJobs answers s) where
  open_job : (job k : ℕ) → job ≡ s.written + k → job < s.count → slice_get s.parts k ≡ Some None → IsAsked s.peers job ⊎ (IsAsked s.peers job → ⊥)
      → JobIs answers s job
  open_job job k is below free (inl (i, h)) = asked i h (λ j g. w.almost.one j i job g h)
  open_job job k is below free (inr not) = waits (record { place = k; is_at = is; within = below; unfinished = free }, not)

  at_part : (job k : ℕ) (part : Option (List ℕ)) → job ≡ s.written + k → job < s.count → slice_get s.parts k ≡ Some part → JobIs answers s job
  at_part job k None is below h = open_job job k is below h (asked_or_not s.peers job)
  at_part job k (Some text) is below h = finished k text is h (subst (λ (n : ℕ). answers n text) (sym is) (w.almost.done k text h).1)

  pub each_job : (job : ℕ) → job < s.count → JobIs answers s job
  each_job job below = elim (cases_lt job s.written) [
    | inl less ↦ written less
    | inr most ↦ elim (slice_get_cases s.parts (job - s.written)).1 [
      | inl (part, within, at, same) ↦ at_part job (job - s.written) part (omega (arith, most)) below at
      | inr (past, nothing) ↦ ahead (omega (arith, most, past))
    ]
  ]

  pub unstuck : s.written < s.count → NoneBusy s → IsWaiting s s.written
  unstuck below none = (record { place = 0; is_at = omega arith; within = below; unfinished = w.first }, λ a. none a.0 s.written a.1)
