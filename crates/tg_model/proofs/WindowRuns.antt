-- The run of the parts that a range meets, among those below an index.
use Rattle.std.proofs.Common.{◌≡◌, ◌≢◌, ◌≤◌, ◌<◌, ℕ, ◌+◌, ◌⊎◌, inl, inr, List, length, arith, below_more}
use Rattle.std.proofs.lemmas.Option.{slice_get_within}
use Rattle.tg_model.specs.Window.{IsWindow, Meets}
use Rattle.tg_model.specs.declared.kinds.Part.{Part}

module _ (inline : ℕ) (parts : List Part) (low high : ℕ) where
  -- some part is met, and the run holds each of those below the index that are
  pub record SomeMet (first end at : ℕ) : Type 0 where
    pub begins : Meets inline parts low high first
    pub last : ℕ
    pub end_is : end ≡ last + 1
    pub ends : Meets inline parts low high last
    pub before : first ≤ at
    pub holds : (i : ℕ) → i < at → Meets inline parts low high i → (first ≤ i) × (i < end)

  -- no part below the index is met
  pub record NoneMet (first end at : ℕ) : Type 0 where
    pub none : (i : ℕ) → i < at → Meets inline parts low high i → ⊥
    pub first_is : first ≡ 0
    pub end_is : end ≡ 0

  abbrev pub RunBelow : ℕ → ℕ → ℕ → Type 0
  RunBelow first end at = SomeMet first end at ⊎ NoneMet first end at

  -- below 0 there is no part
  pub no_run : RunBelow 0 0 0
  no_run = inr (record { none = λ i below met. omega arith; first_is = omega arith; end_is = omega arith })

  -- a part that isn't met changes nothing
  pub run_kept : (first end at : ℕ) → RunBelow first end at → (Meets inline parts low high at → ⊥) → RunBelow first end (at + 1)
  run_kept first end at (inl some) unmet =
      inl (record {
        begins = some.begins;
        last = some.last;
        end_is = some.end_is;
        ends = some.ends;
        before = omega (arith, some.before);
        holds = below_more (λ (i : ℕ). Meets inline parts low high i → (first ≤ i) × (i < end)) at some.holds (λ met. absurd (unmet met));
      })
  run_kept first end at (inr nothing) unmet =
      inr (record { none = below_more (λ (i : ℕ). Meets inline parts low high i → ⊥) at nothing.none unmet; first_is = nothing.first_is; end_is = nothing.end_is })

  -- the first part that is met is a run of its own
  pub run_begun : (first end at : ℕ) → RunBelow first end at → end ≡ 0 → Meets inline parts low high at → RunBelow at (at + 1) (at + 1)
  run_begun first end at (inl some) e met = absurd (omega (arith, some.end_is))
  run_begun first end at (inr nothing) e met =
      inl (record {
        begins = met;
        last = at;
        end_is = omega arith;
        ends = met;
        before = omega arith;
        holds = below_more (λ (i : ℕ). Meets inline parts low high i → (at ≤ i) × (i < at + 1)) at (λ i below m. absurd (nothing.none i below m)) (λ m. (omega arith, omega arith));
      })

  -- another one ends the run
  pub run_grown : (first end at : ℕ) → RunBelow first end at → end ≢ 0 → Meets inline parts low high at → RunBelow first (at + 1) (at + 1)
  run_grown first end at (inl some) e met =
      inl (record {
        begins = some.begins;
        last = at;
        end_is = omega arith;
        ends = met;
        before = omega (arith, some.before);
        holds = below_more (λ (i : ℕ). Meets inline parts low high i → (first ≤ i) × (i < at + 1)) at
            (λ i below m. ((some.holds i below m).0, omega arith)) (λ m. (some.before, omega arith));
      })
  run_grown first end at (inr nothing) e met = absurd (e nothing.end_is)

  -- below the number of all parts the run is the window
  pub run_whole : (first end at : ℕ) → RunBelow first end at → length parts ≤ at → IsWindow inline parts low high first end
  run_whole first end at (inl some) all =
      inl (record {
        begins = some.begins;
        last = some.last;
        end_is = some.end_is;
        ends = some.ends;
        holds = λ i met. some.holds i (omega (arith, slice_get_within parts i met.part met.here)) met;
      })
  run_whole first end at (inr nothing) all =
      inr (record { none = λ i met. nothing.none i (omega (arith, slice_get_within parts i met.part met.here)) met; first_is = nothing.first_is; end_is = nothing.end_is })
