-- What a reader of a body stands for after a call.
use Rattle.std.proofs.Common.{◌≡◌, ℕ, Bool, false, Option, Some, None, List, ◌++◌, take, refl, sym, ap, ◌∙◌, subst}
use Rattle.std.specs.Prelude.{option_map}
use Rattle.std.proofs.lemmas.List.{append-nil}
use Rattle.tg_http.specs.declared.framing.Framing.{Framing}
use Rattle.tg_http.specs.declared.fault.HttpFault.{HttpFault}
use Rattle.tg_body.specs.declared.body.Body.{Body}
use Rattle.tg_body.specs.declared.body.Body.TheVariants as bodies
use Rattle.tg_body.specs.declared.reader.BodyReader.{BodyReader}
use Rattle.tg_body.specs.History.{History, Stop, at_piece, stopped, with_body, IsSoFar, HasStopped, HasFeedCause}
use Rattle.tg_body.specs.State.{Holds, is_done, fault_of, StandsFor}
use Rattle.tg_body.specs.Steps.{Advances, Stops}
use Rattle.tg_body.proofs.Behind.{so_far}

pub none_refused : (refusal : Option Stop) → None ≡ option_map fault_of refusal → refusal ≡ None
none_refused None e = refl
none_refused (Some r) e = cc

made : (new : BodyReader) (h : History) → h.stop ≡ None → new.refused ≡ option_map fault_of h.stop → is_done new.stage ≡ h.ended
    → Holds new.framing new.stage new.came h.given h.fed → StandsFor new h
made new h none refused ended held = record {
  exact = record {
    so_far = subst (λ (b : Bool). IsSoFar new.framing b h.given h.fed) ended (so_far new.framing new.stage new.came h.given h.fed held);
    stopped = subst (λ (r : Option Stop). HasStopped new.framing h r) (sym none) tt;
  };
  refused = refused;
  ended = λ e. ended;
  holds = λ e. held;
}

pub stands_on : (old new : BodyReader) (piece : List ℕ) (taken : ℕ) (told : Body) (h : History) → Advances old new piece taken told → old.refused ≡ None
    → StandsFor old h → StandsFor new (with_body h piece taken told)
stands_on old new piece taken told h a quiet s = by_told told a
  where
    none : h.stop ≡ None
    none = none_refused h.stop (sym quiet ∙ s.refused)

    same_refusal : (told : Body) → Advances old new piece taken told → new.refused ≡ option_map fault_of h.stop
    same_refusal told a = a.refused ∙ s.refused

    by_told : (told : Body) → Advances old new piece taken told → StandsFor new (with_body h piece taken told)
    by_told bodies.Need a =
        let held : Holds new.framing new.stage new.came h.given (h.fed ++ take taken piece) =
        subst (λ (b : List ℕ). Holds new.framing new.stage new.came b (h.fed ++ take taken piece)) (append-nil h.given) (a.holds h.given h.fed (s.holds none)) in
        let shut : is_done new.stage ≡ h.ended = a.done ∙ sym (a.goes_on refl) ∙ s.ended none in
        made new (with_body h piece taken bodies.Need) none (same_refusal bodies.Need a) shut held
    by_told (bodies.Part start end) a =
        let shut : is_done new.stage ≡ h.ended = a.done ∙ sym (a.goes_on refl) ∙ s.ended none in
        made new (with_body h piece taken (bodies.Part start end)) none (same_refusal (bodies.Part start end) a) shut (a.holds h.given h.fed (s.holds none))
    by_told bodies.End a =
        let held : Holds new.framing new.stage new.came h.given (h.fed ++ take taken piece) =
        subst (λ (b : List ℕ). Holds new.framing new.stage new.came b (h.fed ++ take taken piece)) (append-nil h.given) (a.holds h.given h.fed (s.holds none)) in
        made new (with_body h piece taken bodies.End) none (same_refusal bodies.End a) a.done held

pub stands_refused : (old now new : BodyReader) (piece : List ℕ) (fault : HttpFault) (h : History) → Stops old now piece fault → old.refused ≡ None
    → new.framing ≡ now.framing → new.refused ≡ Some fault → StandsFor old h → StandsFor new (stopped h (at_piece piece fault) h.stop)
stands_refused old now new piece fault h a quiet framing loud s =
    let none : h.stop ≡ None = none_refused h.stop (sym quiet ∙ s.refused) in
    let going : h.ended ≡ false = sym (s.ended none) ∙ a.goes_on in
    let same : new.framing ≡ old.framing = framing ∙ a.framing in
    let cause : HasFeedCause old.framing h.fed h.given piece fault = a.cause h.given h.fed (s.holds none) in
    let next : History = record h { stop = Some (at_piece piece fault) } in
    let stands : StandsFor new next = record {
      exact = record {
        so_far = subst (λ (f : Framing). IsSoFar f h.ended h.given h.fed) (sym same) s.exact.so_far;
        stopped = (going, subst (λ (f : Framing). HasFeedCause f h.fed h.given piece fault) (sym same) cause);
      };
      refused = loud;
      ended = λ e. absurd (some_stop e);
      holds = λ e. absurd (some_stop e);
    } in
    subst (λ (r : Option Stop). StandsFor new (stopped h (at_piece piece fault) r)) (sym none) stands
  where
    some_stop : {stop : Stop} → Some stop ≡ None → ⊥
    some_stop e = cc

-- a reader that refused has a history with a refusal
pub refused_stop : (reader : BodyReader) (fault : HttpFault) (h : History) → reader.refused ≡ Some fault → StandsFor reader h → h.stop ≡ None → ⊥
refused_stop reader fault h loud s none = some_fault (sym loud ∙ s.refused ∙ ap (option_map fault_of) none)
  where
    some_fault : {f : HttpFault} → Some f ≡ None → ⊥
    some_fault e = cc
