-- The sections that stand whole in what was heard in a call, and what the call says of each sound DAG with the query's root.
use Rattle.std.proofs.Common.{◌≡◌, ℕ, zero, suc, ◌⊎◌, Bool, true, List, [], ◌∷◌, ◌++◌, Option, Some, None, Ok, Err, length, refl, sym, ap, ◌∙◌, subst, inl, inr, append-nil, arith}
use Rattle.std.specs.Prelude.{Result, ⊤}
use Rattle.std.proofs.lemmas.List.{length_push, same_from_push}
use Rattle.tg_body.specs.Bodies.{BodyFront, BodyText}
use Rattle.tg_body.specs.History.{EndsInside}
use Rattle.tg_bytes.specs.Told.{IsNothing, grown}
use Rattle.tg_client.specs.Received.{HasReceived}
use Rattle.tg_dials.specs.Dials.{DialRose, Dialling, IsHungUp}
use Rattle.tg_faults.specs.Faults.{Rose}
use Rattle.tg_fetch.specs.Bodies.{AreHeard, BodyFails, BodyStops, IsBeforeBlock, IsOpenBody, SaysOf, root_section}
use Rattle.tg_fetch.specs.Calls.{FetchEnds, HeardBy, HeardRefused, IsUncalled, LinkCalled}
use Rattle.tg_fetch.specs.Received.{AreReceived, HasBody, HeardIn, IsOfBody, SoundCall, block, car, carried, none}
use Rattle.tg_fetch.specs.Replies.{IsOpenBefore, IsOpenReply, IsShortBehind, RefusedBy, at_end, at_head, bad_head, breaks, cut_body, cut_head, in_body, memory, past}
use Rattle.tg_fetch.specs.declared.fault.FetchFault.{FetchFault}
use Rattle.tg_fetch.specs.declared.fault.FetchFault.TheVariants as faults
use Rattle.tg_heard.specs.FinalHeads.{FinalHead}
use Rattle.tg_heard.specs.Got.{IsTakenHead}
use Rattle.tg_http.specs.declared.framing.Framing.{Framing}
use Rattle.tg_http.specs.declared.framing.Framing.TheVariants as framings
use Rattle.tg_http.specs.declared.reply.ReplyHead.{ReplyHead}
use Rattle.tg_links.specs.Steps.{LinkRose, LinkStep}
use Rattle.tg_links.specs.Views.{LinkView, and_call, between, call_with, is_failed, told_call}
use Rattle.tg_links.specs.declared.call.Call.{Call}
use Rattle.tg_model.specs.Answer.{answer}
use Rattle.tg_model.specs.Dag.{Dag, Section}
use Rattle.tg_model.specs.Fits.{IsFrontOfAnswer}
use Rattle.tg_model.specs.LimitNumbers.{LimitNumbers}
use Rattle.tg_model.specs.Queries.{QueryParts}
use Rattle.tg_model.specs.declared.queries.Form.TheVariants as forms
use Rattle.tg_streams.specs.Streams.{Output, Put}
use Rattle.tg_verify.specs.declared.fault.Refusal.{Refusal}

-- ---- the sections

-- a body that ended inside went on
inside : (framing : Framing) (given rest : List ℕ) → EndsInside framing given rest → BodyFront framing given rest
inside (framings.Length number) given rest h = (h.0, omega (arith, h.1))
inside framings.Chunked given rest h = h
inside framings.UntilClose given rest h = absurd h
inside framings.Broken given rest h = h

module _ (q : QueryParts) (limits : LimitNumbers) (front more : List ℕ) (sections : List Section) where
  abbrev Got : Type 0
  Got = AreReceived limits.block (front ++ more) q sections

  module _ (head : ReplyHead) (rest : List ℕ) (final : FinalHead front head rest) (given : List ℕ) (come : IsOfBody head.framing given rest) where
    behind : IsTakenHead q head → HasBody (front ++ more) q head rest
    behind taken = record { front = front; more = more; whole = refl; final = final; is_taken = taken }

    -- of a CAR, in all that came of it, or in a front
    car_whole : IsTakenHead q head → HasReceived limits.block given sections → Got
    car_whole taken r = car head rest given given [] (behind taken) come (sym (append-nil given)) r

    car_front : IsTakenHead q head → AreHeard limits given sections → Got
    car_front taken a = car head rest given a.heard a.unheard (behind taken) come a.whole a.received

    in_open : (text : List ℕ) → IsOpenBody q limits head given sections text → Got
    in_open text (IsOpenBody.answer o) = car_whole (inl o.is_head) o.received
    in_open text (IsOpenBody.absence o) = car_whole (inr o.is_head) o.received
    in_open text (IsOpenBody.block o) = none o.no_section

    in_stopped : (text : List ℕ) (fault : FetchFault) → BodyStops q limits head given sections text fault → Got
    in_stopped text fault (BodyStops.answer s) = car_front (inl s.is_head) s.are_heard
    in_stopped text fault (BodyStops.absence s) = car_front (inr s.is_head) s.are_heard
    in_stopped text fault (BodyStops.reaches s) = car_front (inr s.is_head) s.are_heard
    in_stopped text fault (BodyStops.block s) = none s.no_section

  in_reply : (text : List ℕ) → IsOpenReply q limits front sections text → Got
  in_reply text (inl o) = none o.no_section
  in_reply text (inr o) = in_open o.head o.rest o.final o.given (inl o.front) text o.body

  in_past : (text : List ℕ) → IsOpenBefore front sections text ⊎ IsShortBehind q limits front sections text → Got
  in_past text (inl o) = none o.no_section
  in_past text (inr o) = in_reply text (inr o.behind)

  module _ (head : ReplyHead) (rest : List ℕ) (final : FinalHead front head rest) (given : List ℕ) (whole : BodyText head.framing given rest) where
    in_raw : (cause : Refusal) → IsTakenHead q head → q.form ≡ forms.Raw → ((sections ≡ []) × IsBeforeBlock cause) ⊎ (sections ≡ root_section q given ∷ []) → Got
    in_raw cause taken form (inl e) = none e.0
    in_raw cause taken form (inr e) = block head rest given (behind head rest final given (inr whole) taken) form whole e

    in_failed : (text : List ℕ) (fault : FetchFault) → BodyFails q limits head given sections text fault → Got
    in_failed text fault (BodyFails.answer s) = car_whole head rest final given (inr whole) (inl s.is_head) s.received
    in_failed text fault (BodyFails.absence s) = car_whole head rest final given (inr whole) (inr s.is_head) s.received
    in_failed text fault (BodyFails.reaches s) = car_front head rest final given (inr whole) (inr s.is_head) s.are_heard
    in_failed text fault (BodyFails.block s) = in_raw s.cause (inl s.is_head) s.form s.sections_are

  -- of a reply that is refused
  in_refused : (ended : Bool) (text : List ℕ) (fault : FetchFault) → RefusedBy q limits front more ended sections text fault → Got
  in_refused ended text fault (bad_head e bad no_section no_text) = none no_section
  in_refused ended text fault (cut_head e over all is_open no_section no_text) = none no_section
  in_refused ended text fault (at_head stopped no_section no_text) = none no_section
  in_refused ended text fault (in_body r) = in_stopped r.head r.rest r.final r.given (inl r.front) text fault r.stops
  in_refused ended text fault (at_end r) = in_failed r.head r.rest r.final r.given r.body_is text fault r.fails
  in_refused ended text fault (breaks e r) = in_open r.head r.rest r.final r.given (inl r.front) text r.body
  in_refused ended text fault (cut_body e over all r) =
      in_open r.head r.rest r.final r.given (inl (inside r.head.framing r.given r.rest r.inside)) text r.body
  in_refused ended text fault (past e r) = in_past text r.is_open
  in_refused ended text fault (memory e is_open) = in_reply text is_open

-- ---- what the dial tells

-- the call that is told behind the others
pub one_more : (before : List Call) (call : Call) (told : Option Call) → Some (before ++ call ∷ []) ≡ and_call (Some before) told → told ≡ Some call
one_more before call None e = absurd cc
one_more before call (Some other) e =
    let same : before ++ call ∷ [] ≡ before ++ other ∷ [] = cc in ap (λ (c : Call). Some c) (sym (same_from_push before before call other same).1)

heard_told : (heard said : Option (List ℕ)) (over failed : Bool) (call : Call) → call_with heard said over failed ≡ Some call → heard ≡ Some call.heard
heard_told None said over failed call e = absurd cc
heard_told (Some heard) None over failed call e = absurd cc
heard_told (Some heard) (Some said) over failed call e =
    let same : record { heard = heard; said = said; over = over; failed = failed } ≡ call = cc in ap (λ (c : Call). Some c.heard) same

-- what grew from nothing
from_nothing : (old : Option (List ℕ)) (heard all : List ℕ) → IsNothing old → Some all ≡ grown old heard → all ≡ heard
from_nothing None heard all nothing e = absurd cc
from_nothing (Some held) heard all nothing e =
    let same : all ≡ held ++ heard = cc in same ∙ ap (λ (l : List ℕ). l ++ heard) nothing

told_by : (link : LinkView) (dial : Dialling) (old : Option (List ℕ)) (heard : List ℕ) → IsNothing old → link.heard ≡ grown old heard
    → (before : List Call) (call : Call) → dial.calls_old ≡ Some before → dial.calls_new ≡ Some (before ++ call ∷ [])
    → (dial.calls_new ≡ and_call dial.calls_old (told_call link)) ⊎ ((dial.calls_new ≡ None) × DialRose dial) → call.heard ≡ heard
told_by link dial old heard nothing heard_is before call old_is new_is (inl e) =
    let told = one_more before call (told_call link) (sym new_is ∙ e ∙ ap (λ (calls : Option (List Call)). and_call calls (told_call link)) old_is) in
    from_nothing old heard call.heard nothing (sym (heard_told link.heard link.said link.over (is_failed link.faults) call told) ∙ heard_is)
told_by link dial old heard nothing heard_is before call old_is new_is (inr lost) = absurd (let same = sym new_is ∙ lost.0 in cc)

pub told_in : (link : LinkView) (dial : Dialling) (old : Option (List ℕ)) (heard : List ℕ) → IsNothing old → link.heard ≡ grown old heard → IsHungUp link dial → HeardIn dial heard
told_in link dial old heard nothing heard_is up before call old_is new_is = told_by link dial old heard nothing heard_is before call old_is new_is up.calls

-- no call was told
pub untold : (dial : Dialling) → dial.calls_new ≡ dial.calls_old → HeardIn dial []
untold dial keeps before call old_is new_is =
    let both = sym new_is ∙ keeps ∙ old_is in
    let same : before ++ call ∷ [] ≡ before = cc in
    absurd (omega (arith, length_push before call, ap length same))

-- ---- what a call says

-- nothing is a front of each answer
no_text_front : (text : Option (List ℕ)) → IsFrontOfAnswer [] text
no_text_front (Some text) = (text, refl)
no_text_front None = refl

module _ (q : QueryParts) (limits : LimitNumbers) (dial : Dialling) (out : Output) where
  by_refused : (heard : List ℕ) → HeardIn dial heard → (over : Bool) (fault : FetchFault) → HeardRefused q limits heard over out fault
      → SoundCall q limits dial out (Err fault)
  by_refused heard told over fault h = record {
    heard = heard;
    heard_in = told;
    sections = h.sections;
    received = subst (λ (l : List ℕ). AreReceived limits.block l q h.sections) (sym h.whole)
        (in_refused q limits h.front h.more h.sections h.ended h.text fault h.refused);
    text = h.text;
    put = h.put;
    sound = h.sound;
  }

  by_heard : (heard : List ℕ) → HeardIn dial heard → (over : Bool) (result : Result ⊤ FetchFault) → HeardBy q limits heard over out result
      → SoundCall q limits dial out result
  by_heard heard told over (Ok done) h = record {
    heard = heard;
    heard_in = told;
    sections = h.sections;
    received = carried h.front h.more h.ended h.whole h.answered.carries;
    text = h.text;
    put = h.put;
    sound = h.sound;
  }
  by_heard heard told over (Err faults.PeerFault) h = record {
    heard = heard;
    heard_in = told;
    sections = h.sections;
    received = subst (λ (l : List ℕ). AreReceived limits.block l q h.sections) (append-nil heard) (in_reply q limits heard [] h.sections h.text h.is_open);
    text = h.text;
    put = h.put;
    sound = λ d sound root. (h.sound d sound root, tt);
  }
  by_heard heard told over (Err fault) h = by_refused heard told over fault h

  -- nothing was heard and put
  by_nothing : HeardIn dial [] → Put [] out → (fault : FetchFault) → ((d : Dag) → SaysOf q d [] fault) → SoundCall q limits dial out (Err fault)
  by_nothing told unput fault says = record {
    heard = [];
    heard_in = told;
    sections = [];
    received = none refl;
    text = [];
    put = unput;
    sound = λ d sound root. (inl (no_text_front (answer q d)), says d);
  }

  by_uncalled : HeardIn dial [] → Put [] out → (link : LinkStep) (result : Result ⊤ FetchFault) → IsUncalled link result → SoundCall q limits dial out result
  by_uncalled told unput link (Err faults.PeerFault) why = by_nothing told unput faults.PeerFault (λ d. tt)
  by_uncalled told unput link (Err faults.OutOfMemory) why = by_nothing told unput faults.OutOfMemory (λ d. tt)
  by_uncalled told unput link (Err fault) why = absurd why
  by_uncalled told unput link (Ok done) why = absurd why

  module _ (addr : List ℕ) (made link : LinkView) (nothing : IsNothing made.heard) (up : IsHungUp link dial) where
    by_called : (result : Result ⊤ FetchFault) → LinkCalled q limits addr (between made link) out result → SoundCall q limits dial out result
    by_called result (inl w) = by_heard w.heard (told_in link dial made.heard w.heard nothing w.spoke.heard_is up) link.over result w.ends
    by_called result (inr w) = by_uncalled (told_in link dial made.heard [] nothing w.spoke.heard_is up) w.unput (between made link) result w.why

pub sound_call : (q : QueryParts) (limits : LimitNumbers) (addr : List ℕ) (dial : Dialling) (out : Output) (result : Result ⊤ FetchFault) → FetchEnds q limits addr dial out result
    → SoundCall q limits dial out result
sound_call q limits addr dial out result (inl h) = by_called q limits dial out addr h.made h.link h.is_new.heard h.hung_up result h.called
sound_call q limits addr dial out result (inr m) =
    subst (λ (r : Result ⊤ FetchFault). SoundCall q limits dial out r) (sym m.result_is) (by_nothing q limits dial out (untold dial m.calls) m.unput faults.PeerFault (λ d. tt))

-- ---- a fault of the peer

has_failed : (count : ℕ) → Rose 0 count → is_failed count ≡ true
has_failed zero rose = absurd (omega (arith, rose (omega arith)))
has_failed (suc n) rose = refl

link_rose : (q : QueryParts) (limits : LimitNumbers) (addr : List ℕ) (link : LinkStep) (out : Output) → LinkCalled q limits addr link out (Err faults.PeerFault) → LinkRose link
link_rose q limits addr link out (inl w) = w.rose
link_rose q limits addr link out (inr w) = w.why

-- is one of the dial
pub dial_rose : (q : QueryParts) (limits : LimitNumbers) (addr : List ℕ) (dial : Dialling) (out : Output) → FetchEnds q limits addr dial out (Err faults.PeerFault) → DialRose dial
dial_rose q limits addr dial out (inl h) =
    let rose = link_rose q limits addr (between h.made h.link) out h.called in
    h.hung_up.failed (has_failed h.link.faults (subst (λ (n : ℕ). Rose n h.link.faults) h.is_new.faults rose))
dial_rose q limits addr dial out (inr m) = m.rose
