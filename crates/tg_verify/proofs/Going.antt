-- A verifier that goes on, by whether a block is wanted.
use Rattle.std.proofs.Common.{List, None, Option, Some, subst, ℕ, ◌++◌, ◌≡◌}
use Rattle.tg_cid.specs.Cid.{CidParts}
use Rattle.tg_model.specs.Dag.{Section}
use Rattle.tg_traversal.specs.Left.{WantedAt, wanted_tasks}
use Rattle.tg_model_laws.specs.Tasks.{Task}
use Rattle.tg_model_laws.specs.Verified.{Verified}
use Rattle.tg_verify.specs.Reached.{IsReached, stage_of}
use Rattle.tg_verify.specs.State.{VerifierState}
use Rattle.tg_verify.specs.Taken.{IsGoing, IsSentFor, IsThrough, IsUpTo, IsWrittenAt}

module _ (state : VerifierState) (sections : List Section) (written : List ℕ) (h : IsGoing state sections written) where
  pub going_up_to : (at : WantedAt) → state.left.wanted ≡ Some at → IsUpTo state.left.query state.limits sections written at
  going_up_to at e =
      let writes = subst (λ (w : Option WantedAt). IsWrittenAt state h.given written w) e h.writes in
      record {
        given = h.given;
        later = state.left.later;
        verified = subst (λ (w : Option WantedAt). Verified state.left.query sections h.given (wanted_tasks w ++ state.left.later)) e h.verified;
        reached = subst (λ (w : Option WantedAt). IsReached state.left.query state.limits (stage_of sections h.given (wanted_tasks w ++ state.left.later))) e h.reached;
        sends = subst (λ (w : Option WantedAt). IsSentFor state.left.query sections w) e h.sends;
        text = writes.0;
      }

  pub going_through : state.left.wanted ≡ None → IsThrough state.left.query state.limits sections written
  going_through e =
      let writes = subst (λ (w : Option WantedAt). IsWrittenAt state h.given written w) e h.writes in
      let verified = subst (λ (w : Option WantedAt). Verified state.left.query sections h.given (wanted_tasks w ++ state.left.later)) e h.verified in
      let reached = subst (λ (w : Option WantedAt). IsReached state.left.query state.limits (stage_of sections h.given (wanted_tasks w ++ state.left.later))) e h.reached in
      record {
        given = h.given;
        verified = subst (λ (tasks : List (Task CidParts)). Verified state.left.query sections h.given tasks) writes.0 verified;
        reached = subst (λ (tasks : List (Task CidParts)). IsReached state.left.query state.limits (stage_of sections h.given tasks)) writes.0 reached;
        text = writes.1;
      }
