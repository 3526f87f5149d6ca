-- How a body ends where no more bytes come.
use Rattle.std.proofs.Common.{◌≡◌, ℕ, List, [], ◌∷◌, ◌++◌, Option, Some, None, Ok, Err, refl, ap, sym, subst, ◌∙◌, inl, inr, arith}
use Rattle.tg_car.specs.History.{GoesOn}
use Rattle.tg_car.specs.declared.event.Event.{Event}
use Rattle.tg_cid.specs.Cid.{CidParts}
use Rattle.tg_traversal.specs.Left.{WantedAt, wanted_tasks}
use Rattle.tg_model.specs.Dag.{Section}
use Rattle.tg_verify.specs.Laws.{AnswerLaws}
use Rattle.tg_verify.specs.declared.fault.Refusal.TheVariants as refusals
use Rattle.tg_client.specs.Body.{HasEnded, IsAfterWanted, IsBody, IsBodyAt}
use Rattle.tg_client.specs.Ends.{IsBeforeHeader}
use Rattle.tg_client.specs.Received.{sections_given}
use Rattle.tg_client.specs.declared.fault.ClientFault.{ClientFault}
use Rattle.tg_client.specs.declared.body.CarBody.{CarBody}
use Rattle.tg_client.specs.declared.fault.ClientFault.TheVariants as faults
use Rattle.tg_client.proofs.Going.{car_behind, goes_here, held_front, is_received}

module _ (laws : AnswerLaws) (body : CarBody) (heard : List ℕ) (sections : List Section) (written : List ℕ) (h : IsBody body heard sections written) where
  abbrev Ended : CidParts → ℕ → Type 0
  Ended want number = HasEnded body.verifier.left.query body.verifier.limits heard sections written (Err (faults.Refused (refusals.Truncated want number)))

  -- what was heard, and what is wanted of it
  cut_by : (given : List Event) → GoesOn body.verifier.limits.block heard given → sections_given given ≡ sections → IsBodyAt body given sections written → (at : WantedAt) → body.verifier.left.wanted ≡ Some at
      → Ended at.cid body.verifier.taken
  cut_by [] on are (fresh, none) at wanted =
      let tasks = sym (ap (λ (w : Option WantedAt). wanted_tasks w ++ body.verifier.left.later) wanted) ∙ fresh.left in
      let root : at.cid ≡ body.verifier.left.query.root = cc tasks in
      let before : IsBeforeHeader body.verifier.limits heard sections written = record { goes_on = on; no_section = sym are; no_text = none } in
      record {
        received = is_received body heard sections written h;
        ends = inl (before, root, fresh.taken);
        sound = λ d sound root. (held_front laws body.verifier.left.query body.verifier.limits heard sections written (inl (inl before)) d sound root, tt);
        wanted = λ fault e.
            let same : faults.Refused (refusals.Truncated at.cid body.verifier.taken) ≡ fault = cc e in
            subst (λ (f : ClientFault). IsAfterWanted body.verifier.left.query body.verifier.limits heard sections f) same (inl (root, fresh.taken));
      }
  cut_by (event ∷ given) on are going at wanted =
      let up_to = laws.going_up_to body.verifier sections written going at wanted in
      record {
        received = is_received body heard sections written h;
        ends = inr (at, refl, record { up_to = up_to; number_is = going.keeps.count }, record { event = event; given = given; goes_on = on });
        sound = λ d sound root. (held_front laws body.verifier.left.query body.verifier.limits heard sections written (inl (inr (at, up_to, record { event = event; given = given; goes_on = on }))) d sound root, tt);
        wanted = λ fault e.
            let same : faults.Refused (refusals.Truncated at.cid body.verifier.taken) ≡ fault = cc e in
            subst (λ (f : ClientFault). IsAfterWanted body.verifier.left.query body.verifier.limits heard sections f) same (inr (record { event = event; given = given; goes_on = on }));
      }

  pub cut_short : (at : WantedAt) → body.verifier.left.wanted ≡ Some at
      → HasEnded body.verifier.left.query body.verifier.limits heard sections written (Err (faults.Refused (refusals.Truncated at.cid body.verifier.taken)))
  cut_short at wanted = cut_by h.given (goes_here body heard sections written h) h.sections_are h.at at wanted

  pub accepted : body.verifier.left.wanted ≡ None → HasEnded body.verifier.left.query body.verifier.limits heard sections written (Ok tt)
  accepted none =
      let (going, is_car) = car_behind body heard sections written h none in
      let through = laws.going_through body.verifier sections written going none in
      let most : body.most ≡ body.verifier.limits.received = h.most in
      record {
        received = is_received body heard sections written h;
        ends = record { is_car = is_car; through = through; within = omega (arith, most, h.within) };
        sound = λ d sound root. laws.sound_through body.verifier.left.query body.verifier.limits d sections written sound root through;
        wanted = λ fault e. absurd (cc e);
      }
