-- The lowest job that waits.
use Rattle.std.proofs.Common.{None, Some, arith, inl, inr, length, subst, sym, ℕ, ◌+◌, ◌-◌, ◌<◌, ◌≡◌, ◌≤◌, ◌⊎◌}
use Rattle.std.proofs.lemmas.Bool.{cases_lt}
use Rattle.std.proofs.lemmas.Option.{slice_get_within}
use Rattle.std.specs.List.{slice_get}
use Rattle.tg_swarm.specs.Peers.{IsAsked}
use Rattle.tg_swarm.specs.Jobs.{IsWaiting, JobsState}

module _ {C : Type 0} (s : JobsState C) where
  -- of the first places the job of each that isn't finished is asked of a peer
  abbrev pub NoneBelow : ℕ → Type 0
  NoneBelow k = (j : ℕ) → j < k → slice_get s.parts j ≡ Some None → IsAsked s.peers (s.written + j)

  pub below_more : (k : ℕ) → NoneBelow k → (slice_get s.parts k ≡ Some None → IsAsked s.peers (s.written + k)) → NoneBelow (k + 1)
  below_more k before here j below h = elim (cases_lt j k) [
    | inl less ↦ before j less h
    | inr most ↦
        let same : k ≡ j = omega (arith, below, most) in
        subst (λ (i : ℕ). slice_get s.parts i ≡ Some None → IsAsked s.peers (s.written + i)) same here h
  ]

  -- so none waits among them
  waits_not : (k : ℕ) → NoneBelow k → (job : ℕ) (w : IsWaiting s job) → (w.0).place < k → ⊥
  waits_not k none job w below = w.1 (subst (IsAsked s.peers) (sym (w.0).is_at) (none (w.0).place below (w.0).unfinished))

  pub none_waits : (k : ℕ) → NoneBelow k → (length s.parts ≤ k) ⊎ (s.count - s.written ≤ k) → (job : ℕ) → IsWaiting s job → ⊥
  none_waits k none (inl all) job w = waits_not k none job w (omega (arith, all, slice_get_within s.parts (w.0).place None (w.0).unfinished))
  none_waits k none (inr all) job w = waits_not k none job w (omega (arith, all, (w.0).is_at, (w.0).within))
