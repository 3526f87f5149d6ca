-- What a verifier's answer says that no more sections come.
use Rattle.std.proofs.Common.{Err, List, None, Ok, Option, Some, refl, subst, sym, ℕ, ◌≡◌}
use Rattle.std.specs.Prelude.{MatchResult, Result, ⊤}
use Rattle.tg_traversal.specs.Left.{WantedAt}
use Rattle.tg_model.specs.Dag.{Section}
use Rattle.tg_verify.proofs.Going.{going_through, going_up_to}
use Rattle.tg_verify.proofs.Sections.{is_going, stands_by}
use Rattle.tg_verify.specs.History.{StandsBy, StandsFor}
use Rattle.tg_verify.specs.Laws.{AnswerLaws}
use Rattle.tg_verify.specs.Sound.{EndsFor, ForEachSound}
use Rattle.tg_verify.specs.State.{VerifierState}
use Rattle.tg_verify.specs.declared.fault.Refusal.{Refusal}
use Rattle.tg_verify.specs.declared.fault.Refusal.TheVariants as refusals
use Rattle.tg_verify.specs.declared.verifier.Progress.TheVariants as progresses

module _ (laws : AnswerLaws) (state : VerifierState) (sections : List Section) (written : List ℕ) (h : StandsFor state sections written) where
  pub refused_sound : (fault : Refusal) → state.refused ≡ Some fault → ForEachSound state.left.query (λ d. EndsFor state.left.query d sections written (Err fault))
  refused_sound fault e d sound root =
      laws.sound_refused state.left.query state.limits d sections written fault sound root (subst (λ (r : Option Refusal). StandsBy r state sections written) e h)

  -- of one that refused nothing, by whether a block is wanted
  pub ended_sound : (result : Result ⊤ Refusal) → state.refused ≡ None → (state.left.wanted ≡ None → result ≡ Ok tt)
      → ((at : WantedAt) → state.left.wanted ≡ Some at → result ≡ Err (refusals.Truncated at.cid state.taken)) → (wanted : Option WantedAt) → state.left.wanted ≡ wanted
      → ForEachSound state.left.query (λ d. EndsFor state.left.query d sections written result)
  ended_sound result e done cut None w d sound root =
      subst (λ (r : Result ⊤ Refusal). EndsFor state.left.query d sections written r) (sym (done w))
      (laws.sound_through state.left.query state.limits d sections written sound root (going_through state sections written (is_going state sections written e h) w))
  ended_sound result e done cut (Some at) w d sound root =
      let going = is_going state sections written e h in
      subst (λ (r : Result ⊤ Refusal). EndsFor state.left.query d sections written r) (sym (cut at w))
      (laws.sound_refused state.left.query state.limits d sections written (refusals.Truncated at.cid state.taken) sound root
      (at, refl, record { up_to = going_up_to state sections written going at w; number_is = going.keeps.count }))

  -- with the refusal kept
  pub ended_stands : (result : Result ⊤ Refusal) (refused : Option Refusal) → state.refused ≡ None → (state.left.wanted ≡ None → result ≡ Ok tt)
      → ((at : WantedAt) → state.left.wanted ≡ Some at → result ≡ Err (refusals.Truncated at.cid state.taken)) → MatchResult result (λ _. refused ≡ None) (λ fault. refused ≡ Some fault)
      → (wanted : Option WantedAt) → state.left.wanted ≡ wanted → StandsFor (record state { refused = refused }) sections written
  ended_stands result refused e done cut kept None w =
      let none : refused ≡ None = subst (λ (r : Result ⊤ Refusal). MatchResult r (λ _. refused ≡ None) (λ fault. refused ≡ Some fault)) (done w) kept in
      stands_by laws state sections written refused (Ok progresses.Done) none (is_going state sections written e h)
  ended_stands result refused e done cut kept (Some at) w =
      let going = is_going state sections written e h in
      let some : refused ≡ Some (refusals.Truncated at.cid state.taken) =
      subst (λ (r : Result ⊤ Refusal). MatchResult r (λ _. refused ≡ None) (λ fault. refused ≡ Some fault)) (cut at w) kept in
      stands_by laws state sections written refused (Err (refusals.Truncated at.cid state.taken)) some
      (at, refl, record { up_to = going_up_to state sections written going at w; number_is = going.keeps.count })
