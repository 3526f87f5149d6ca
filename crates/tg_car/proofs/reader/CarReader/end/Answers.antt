use Rattle.std.proofs.Common.{ℕ, List, Some, refl, subst}
use Rattle.std.proofs.lemmas.Bool.{false≢true}
use Rattle.tg_car.specs.declared.event.Event.{Event}
use Rattle.tg_car.specs.declared.fault.CarFault.TheVariants.{Torn}
use Rattle.tg_car.specs.Faults.{HasEndCause}
use Rattle.tg_car.specs.History.{History, IsGivenOf, at_end, stopped}
use Rattle.tg_car.specs.State.{ReaderState, Holds, StandsFor}
use Rattle.tg_car.proofs.States.{state_of}
use Rattle.tg_car.proofs.Feeding.{whole_car, stands_torn, torn_header, torn_section}
use Rattle.tg_car.proofs.reader.CarReader.end.Goals as goal
use Rattle.tg_car.proofs.reader.CarReader.end.Goals.{then-self, else-self+else-is_empty}

pub returns-clause-stands : goal.returns-clause-stands
returns-clause-stands c =
    let old : ReaderState = state_of c.self.inside in
    let at = c.if-self.at in
    let new : ReaderState = record old { refused = Some (Torn at) } in
    let cause : (fed : List ℕ) (given : List Event) → Holds old.in_header old fed given → HasEndCause old.limit fed (Torn at) = elim c.if-self.branch [
      | then-self w ↦ torn_header old at w.if-self.true w.at-is
      | else-self+else-is_empty w ↦ torn_section old at w.if-self.false w.at-is (λ e. false≢true (w.if-is_empty.ensures.1 e))
    ] in
    subst (λ (s : ReaderState). (h : History) → StandsFor s h → StandsFor new (stopped h (at_end (Torn at)) h.stop)) c.self.view_is
    (stands_torn old new at c.in_default.is refl refl cause)

pub returns-then-is_empty-clause-whole : goal.returns-then-is_empty-clause-whole
returns-then-is_empty-clause-whole c =
    let old : ReaderState = state_of c.self.inside in
    subst (λ (s : ReaderState). (h : History) → StandsFor s h → IsGivenOf h.fed h.given) c.self.view_is
    (whole_car old c.in_default.is c.if-self.false (c.if-is_empty.ensures.0 refl))
