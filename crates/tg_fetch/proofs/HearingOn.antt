-- What stands of a reply of which nothing was refused; and that no refusal of it is a fault of the peer.
use Rattle.std.proofs.Common.{◌≡◌, ℕ, List, [], ◌++◌, Option, Some, None, inl, inr, refl, sym, subst, ◌∙◌, ap}
use Rattle.std.specs.Prelude.{Bool}
use Rattle.tg_body.specs.Bodies.{BodyFront}
use Rattle.tg_client.specs.Body.{BodyStands, StandsSo}
use Rattle.tg_client.specs.declared.fault.ClientFault.{ClientFault}
use Rattle.tg_client.specs.declared.fault.ClientFault.TheVariants as clients
use Rattle.tg_fetch.specs.Bodies.{BodyFails, BodyStops, IsBlockFault, IsOpenBody, IsTaking}
use Rattle.tg_fetch.specs.Bodies as bodies
use Rattle.tg_fetch.specs.Clients.{IsAt, StandsFor}
use Rattle.tg_fetch.specs.Faults.{absence_fault, fault_of_client, fault_of_refusal}
use Rattle.tg_fetch.specs.Replies.{HeadStops, IsOpenReply, RefusedBy}
use Rattle.tg_fetch.specs.Replies as replies
use Rattle.tg_fetch.specs.declared.client.Client.{Client}
use Rattle.tg_fetch.specs.declared.client.Stage.{Stage}
use Rattle.tg_fetch.specs.declared.client.Stage.TheVariants as stages
use Rattle.tg_fetch.specs.declared.fault.FetchFault.{FetchFault}
use Rattle.tg_fetch.specs.declared.fault.FetchFault.TheVariants as faults
use Rattle.tg_fetch.specs.declared.sections.Sections.{Sections}
use Rattle.tg_fetch.specs.declared.sections.Sections.TheVariants as takings
use Rattle.tg_http.specs.declared.framing.Framing.{Framing}
use Rattle.tg_http.specs.declared.reply.ReplyHead.{ReplyHead}
use Rattle.tg_model.specs.Answer.{answer}
use Rattle.tg_model.specs.Dag.{Section}
use Rattle.tg_model.specs.Fits.{IsFrontOfAnswer}
use Rattle.tg_model.specs.LimitNumbers.{LimitNumbers}
use Rattle.tg_model.specs.Queries.{QueryParts}
use Rattle.tg_verify.specs.Absences.{path_query}
use Rattle.tg_verify.specs.Sound.{ForEachSound, IsItsFront}
use Rattle.tg_verify.specs.declared.fault.Refusal.{Refusal}
use Rattle.tg_verify.specs.declared.fault.Refusal.TheVariants as refusals

-- ---- no fault of the peer

of_client : (cause : ClientFault) → fault_of_client cause ≡ faults.PeerFault → cause ≡ clients.InputFault
of_client (clients.Refused refusal) e = absurd (let no : ⊥ = cc in no)
of_client (clients.BadCar car) e = absurd (let no : ⊥ = cc in no)
of_client clients.InputFault e = refl
of_client clients.KeepFault e = absurd (let no : ⊥ = cc in no)
of_client clients.OutOfMemory e = absurd (let no : ⊥ = cc in no)

of_absence : (cause : ClientFault) → absence_fault cause ≡ faults.PeerFault → cause ≡ clients.InputFault
of_absence (clients.Refused (refusals.Extra number)) e = absurd (let no : ⊥ = cc in no)
of_absence (clients.Refused (refusals.Limit kind number)) e = absurd (let no : ⊥ = cc in no)
of_absence (clients.Refused (refusals.BadDigest cid)) e = absurd (let no : ⊥ = cc in no)
of_absence (clients.Refused (refusals.WrongBlock want got)) e = absurd (let no : ⊥ = cc in no)
of_absence (clients.Refused (refusals.BadBlock cid fault)) e = absurd (let no : ⊥ = cc in no)
of_absence (clients.Refused (refusals.BadSize declared actual)) e = absurd (let no : ⊥ = cc in no)
of_absence (clients.Refused (refusals.NotFolder segment)) e = absurd (let no : ⊥ = cc in no)
of_absence (clients.Refused (refusals.NotThere segment)) e = absurd (let no : ⊥ = cc in no)
of_absence (clients.Refused refusals.SinkFault) e = absurd (let no : ⊥ = cc in no)
of_absence (clients.Refused (refusals.Truncated want number)) e = absurd (let no : ⊥ = cc in no)
of_absence (clients.Refused refusals.OutOfMemory) e = absurd (let no : ⊥ = cc in no)
of_absence (clients.BadCar car) e = absurd (let no : ⊥ = cc in no)
of_absence clients.InputFault e = refl
of_absence clients.KeepFault e = absurd (let no : ⊥ = cc in no)
of_absence clients.OutOfMemory e = absurd (let no : ⊥ = cc in no)

of_refusal : (cause : Refusal) → fault_of_refusal cause ≡ faults.PeerFault → ⊥
of_refusal (refusals.Extra number) e = cc
of_refusal (refusals.Limit kind number) e = cc
of_refusal (refusals.BadDigest cid) e = cc
of_refusal (refusals.WrongBlock want got) e = cc
of_refusal (refusals.BadBlock cid fault) e = cc
of_refusal (refusals.BadSize declared actual) e = cc
of_refusal (refusals.NotFolder segment) e = cc
of_refusal (refusals.NotThere segment) e = cc
of_refusal refusals.SinkFault e = cc
of_refusal (refusals.Truncated want number) e = cc
of_refusal refusals.OutOfMemory e = cc

module _ (q : QueryParts) (limits : LimitNumbers) (fault : FetchFault) (is_peer : fault ≡ faults.PeerFault) where
  stops_not : (head : ReplyHead) (bytes : List ℕ) (sections : List Section) (text : List ℕ) → BodyStops q limits head bytes sections text fault → ⊥
  stops_not head bytes sections text (bodies.answer s) = s.not_input (of_client s.cause (sym s.fault_is ∙ is_peer))
  stops_not head bytes sections text (bodies.absence s) = s.not_input (of_absence s.cause (sym s.fault_is ∙ is_peer))
  stops_not head bytes sections text (bodies.reaches s) = let e : faults.PeerFault ≡ faults.Status 404 = sym is_peer ∙ s.fault_is in cc
  stops_not head bytes sections text (bodies.block s) = subst (λ (f : FetchFault). IsBlockFault limits bytes f) is_peer s.cause

  fails_not : (head : ReplyHead) (bytes : List ℕ) (sections : List Section) (text : List ℕ) → BodyFails q limits head bytes sections text fault → ⊥
  fails_not head bytes sections text (bodies.answer s) =
      let e : faults.PeerFault ≡ faults.Refused (refusals.Truncated s.want s.number) = sym is_peer ∙ s.fault_is in cc
  fails_not head bytes sections text (bodies.absence s) =
      let e : faults.PeerFault ≡ faults.Refused (refusals.Truncated s.want s.number) = sym is_peer ∙ s.fault_is in cc
  fails_not head bytes sections text (bodies.reaches s) = let e : faults.PeerFault ≡ faults.Status 404 = sym is_peer ∙ s.fault_is in cc
  fails_not head bytes sections text (bodies.block s) = of_refusal s.cause (sym s.fault_is ∙ is_peer)

  pub refused_not : (heard unheard : List ℕ) (ended : Bool) (sections : List Section) (text : List ℕ)
      → RefusedBy q limits heard unheard ended sections text fault → ⊥
  refused_not heard unheard ended sections text (replies.bad_head e bad no_section no_text) = cc
  refused_not heard unheard ended sections text (replies.cut_head e is_end none is_open no_section no_text) = cc
  refused_not heard unheard ended sections text (replies.at_head r no_section no_text) = subst (λ (f : FetchFault). HeadStops q r.head f) is_peer r.stops
  refused_not heard unheard ended sections text (replies.in_body r) = stops_not r.head r.given sections text r.stops
  refused_not heard unheard ended sections text (replies.at_end r) = fails_not r.head r.given sections text r.fails
  refused_not heard unheard ended sections text (replies.breaks e b) = cc
  refused_not heard unheard ended sections text (replies.cut_body e is_end none i) = cc
  refused_not heard unheard ended sections text (replies.past e p) = cc
  refused_not heard unheard ended sections text (replies.memory e is_open) = cc

-- ---- a reply that goes on

-- nothing is a front of every answer
front_none : (written : List ℕ) (o : Option (List ℕ)) → written ≡ [] → IsFrontOfAnswer written o
front_none written (Some text) none = (text, ap (λ (l : List ℕ). l ++ text) (sym none))
front_none written None none = none

pub sound_none : (q : QueryParts) (sections : List Section) (written : List ℕ) → written ≡ [] → ForEachSound q (λ d. IsItsFront q d sections written)
sound_none q sections written none d sound root = inl (front_none written (answer q d) none)

-- the body, by its bytes, with what it says of each sound DAG
pub record BodyOpen (q : QueryParts) (limits : LimitNumbers) (head : ReplyHead) (given written : List ℕ) : Type 0 where
  pub sections : List Section
  pub body : IsOpenBody q limits head given sections written
  pub sound : ForEachSound q (λ d. IsItsFront q d sections written)

abbrev pub body_open : BodyStands → (q : QueryParts) (limits : LimitNumbers) (head : ReplyHead) (s : Sections) (given written : List ℕ)
    → IsTaking q limits head s given written → BodyOpen q limits head given written
body_open stand q limits head (takings.Answer body) given written t =
    let here = stand body given t.sections written t.is_body in
    let by = subst (λ (n : LimitNumbers). StandsSo q n body.verifier.left.wanted given t.sections written) t.limits_are
    (subst (λ (p : QueryParts). StandsSo p body.verifier.limits body.verifier.left.wanted given t.sections written) t.query here) in
    record {
      sections = t.sections;
      body = bodies.answer (record { form = t.form; is_head = t.is_head; received = by.received; held = by.held });
      sound = by.front;
    }
body_open stand q limits head (takings.Absence body) given written (t, none) =
    let here = stand body given t.sections t.said t.is_body in
    let by = subst (λ (n : LimitNumbers). StandsSo (path_query q) n body.verifier.left.wanted given t.sections t.said) t.limits_are
    (subst (λ (p : QueryParts). StandsSo p body.verifier.limits body.verifier.left.wanted given t.sections t.said) t.query here) in
    record {
      sections = t.sections;
      body = bodies.absence (record { is_head = t.is_head; received = by.received; said = t.said; waits = by.waits t.wanted; no_text = none });
      sound = sound_none q t.sections written none;
    }
body_open stand q limits head (takings.Block raw) given written (t, none) = record {
  sections = [];
  body = bodies.block (record { form = t.form; is_head = t.is_head; few = t.few; no_section = refl; no_text = none });
  sound = sound_none q [] written none;
}

-- the reply
pub record StandsOpen (q : QueryParts) (limits : LimitNumbers) (heard text : List ℕ) : Type 0 where
  pub sections : List Section
  pub is_open : IsOpenReply q limits heard sections text
  pub sound : ForEachSound q (λ d. IsItsFront q d sections text)

abbrev pub open_at : BodyStands → (q : QueryParts) (limits : LimitNumbers) (stage : Stage) (heard written : List ℕ) → IsAt q limits stage heard written
    → StandsOpen q limits heard written
open_at stand q limits (stages.Heads heads) heard written (h, none) = record {
  sections = [];
  is_open = inl (record {
    is_open = record { count = heads.interims; behind = heads.came; interims = h.interims; few = h.few; waiting = h.waiting };
    no_section = refl;
    no_text = none;
  });
  sound = sound_none q [] written none;
}
open_at stand q limits (stages.Content content) heard written h =
    let b = body_open stand q limits h.head content.sections h.given written h.taking in
    record {
      sections = b.sections;
      is_open = inr (record {
        head = h.head;
        rest = h.rest;
        final = h.final;
        framed = h.framed;
        given = h.given;
        front = subst (λ (f : Framing). BodyFront f h.given h.rest) h.framing h.reads.exact.so_far;
        body = b.body;
      });
      sound = b.sound;
    }
open_at stand q limits stages.Done heard written h = absurd h

abbrev pub stands_open : BodyStands → (client : Client) (heard written : List ℕ) → StandsFor client heard written
    → StandsOpen client.query client.limits heard written
stands_open stand client heard written h = open_at stand client.query client.limits client.stage heard written h.is_open.at
