-- What stands of a body of which nothing was refused.
use Rattle.std.proofs.Common.{◌≡◌, ℕ, List, Option, Some, None, refl}
use Rattle.std.specs.Prelude.{◌≢◌}
use Rattle.tg_model.specs.Dag.{Section}
use Rattle.tg_traversal.specs.Left.{WantedAt}
use Rattle.tg_verify.specs.Laws.{AnswerLaws}
use Rattle.tg_client.specs.Body.{BodyStands, IsBody, StandsSo}
use Rattle.tg_client.specs.Ends.{IsWaiting}
use Rattle.tg_client.specs.declared.body.CarBody.{CarBody}
use Rattle.tg_client.proofs.Going.{car_behind, goes_here, held_front, is_held, is_held_exactly, is_received, is_waiting}

module _ (laws : AnswerLaws) (body : CarBody) (heard : List ℕ) (sections : List Section) (written : List ℕ) (h : IsBody body heard sections written) where
  waits_by : (wanted : Option WantedAt) → body.verifier.left.wanted ≡ wanted → wanted ≢ None → IsWaiting body.verifier.left.query body.verifier.limits heard sections written
  waits_by (Some at) e some = is_waiting laws body heard sections written h.given (goes_here body heard sections written h) h.sections_are h.at at e
  waits_by None e some = absurd (some refl)

  stands : StandsSo body.verifier.left.query body.verifier.limits body.verifier.left.wanted heard sections written
  stands = record {
    received = is_received body heard sections written h;
    held = is_held_exactly laws body heard sections written h;
    waits = waits_by body.verifier.left.wanted refl;
    through = λ none.
        let (going, is_car) = car_behind body heard sections written h none in
        (laws.going_through body.verifier sections written going none, is_car);
    front = held_front laws body.verifier.left.query body.verifier.limits heard sections written (is_held laws body heard sections written h);
  }

pub body_stands : AnswerLaws → BodyStands
body_stands laws body heard sections written h = stands laws body heard sections written h
