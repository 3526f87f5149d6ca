-- What is taken of a body, and why it isn't.
use Rattle.std.proofs.Common.{◌≡◌, ℕ, List, [], ◌∷◌, ◌++◌, Option, Some, None, Ok, Err, Result, refl, ap, sym, subst, ◌∙◌, inl, inr, ap₂, append-nil, arith}
use Rattle.std.specs.Prelude.{MatchResult, ⊤, ◌≢◌, ◌⊎◌}
use Rattle.tg_client.specs.Body.{BodyStands, EndsAt, HasEnded, HasOutCause, IsBody, IsStopped, WentOn, unknown}
use Rattle.tg_client.specs.Ends.{EndsBy, IsEndedShort, SaysFor}
use Rattle.tg_client.specs.Received.{HasReceived}
use Rattle.tg_client.specs.declared.body.CarBody.{CarBody}
use Rattle.tg_client.specs.declared.fault.ClientFault.{ClientFault}
use Rattle.tg_client.specs.declared.fault.ClientFault.TheVariants as clients
use Rattle.tg_cid.specs.Cid.{CidParts}
use Rattle.tg_fetch.proofs.PathCounts.{OwnNowhere, path_says}
use Rattle.tg_fetch.specs.Bodies.{BodyFails, BodyStops, FailsTaking, FrontAndSays, IsBeforeBlock, IsBlockFault, IsTakingAbsence, IsTakingAnswer, IsTakingBlock}
use Rattle.tg_fetch.specs.Bodies.{IsWholeAnswer, SaysOf, StopsTaking, TakesOn, TakesWhole, root_section}
use Rattle.tg_fetch.specs.Faults.{QuietUnlessSink, absence_fault, fault_of_client, fault_of_refusal}
use Rattle.tg_fetch.specs.declared.fault.FetchFault.{FetchFault}
use Rattle.tg_fetch.specs.declared.fault.FetchFault.TheVariants as faults
use Rattle.tg_fetch.specs.declared.sections.RawBlock.{RawBlock}
use Rattle.tg_fetch.specs.declared.sections.Sections.TheVariants as takings
use Rattle.tg_heard.specs.Carried.{BodyCarries}
use Rattle.tg_http.specs.declared.reply.ReplyHead.{ReplyHead}
use Rattle.tg_model.specs.Answer.{answer}
use Rattle.tg_model.specs.Dag.{Dag, Section}
use Rattle.tg_model.specs.Fits.{IsFrontOfAnswer}
use Rattle.tg_model.specs.LimitNumbers.{LimitNumbers, standard}
use Rattle.tg_model.specs.Queries.{QueryParts}
use Rattle.tg_model.specs.Sound.{IsSound}
use Rattle.tg_model.specs.declared.limits.LimitKind.TheVariants as kinds
use Rattle.tg_model.specs.declared.queries.Form.{Form}
use Rattle.tg_model.specs.declared.queries.Form.TheVariants as forms
use Rattle.tg_traversal.specs.Left.{WantedAt}
use Rattle.tg_streams.specs.Joining.{SinkJoins, put_put}
use Rattle.tg_streams.specs.Streams.{Output, OutputQuiet, Put, SinkMeaning, into}
use Rattle.tg_verify.specs.Absences.{path_limits, path_query}
use Rattle.tg_verify.specs.History.{HasPutCause, HasWritten, StandsBy, StandsFor}
use Rattle.tg_verify.specs.Laws.{AnswerLaws}
use Rattle.tg_verify.specs.Refusals.{HasSectionCause, HasRefused}
use Rattle.tg_verify.specs.Sound.{EndsFor, ForEachSound, IsItsFront, SaysOfDag}
use Rattle.tg_verify.specs.State.{VerifierState, next_cid}
use Rattle.tg_verify.specs.Steps.{section_with}
use Rattle.tg_verify.specs.Taken.{IsGoing, IsThrough}
use Rattle.tg_verify.specs.declared.fault.Refusal.{Refusal}
use Rattle.tg_verify.specs.declared.fault.Refusal.TheVariants as refusals
use Rattle.tg_verify.specs.declared.verifier.Progress.{Progress}

-- ---- a CAR of no bytes isn't whole

pub no_header : (size : List ℕ) (first : ℕ) (tail rest : List ℕ) → [] ≡ (size ++ first ∷ tail) ++ rest → ⊥
no_header [] first tail rest e = cc e
no_header (a ∷ size) first tail rest e = cc e

pub some_wanted : BodyStands → (body : CarBody) (sections : List Section) (said : List ℕ) → IsBody body [] sections said → body.verifier.left.wanted ≢ None
some_wanted stands body sections said h none =
    let is_car = ((stands body [] sections said h).through none).1 in
    let car = is_car.1 in
    let text = car.header_is in
    no_header text.size _ _ car.rest (subst (λ (l : List ℕ). [] ≡ l ++ car.rest) text.whole car.whole)

-- ---- what each says of a sound DAG

-- nothing is a front of every answer
front_of : (a : Option (List ℕ)) → IsFrontOfAnswer [] a
front_of (Some text) = (text, refl)
front_of None = refl

pub nothing_front : (q : QueryParts) (d : Dag) (sections : List Section) → IsItsFront q d sections []
nothing_front q d sections = inl (front_of (answer q d))

-- what a verifier's refusal says
refused_says : (q : QueryParts) (d : Dag) (sections : List Section) (fault : Refusal) → SaysOfDag q d sections fault → SaysOf q d sections (faults.Refused fault)
refused_says q d sections (refusals.Limit kinds.Output number) says = inl says
refused_says q d sections (refusals.Limit kind number) says = says
refused_says q d sections fault says = says

pub says_for : (q : QueryParts) (d : Dag) (sections : List Section) (text : List ℕ) (cause : ClientFault) → SaysFor q d sections text (Err cause)
    → FrontAndSays q sections text (fault_of_client cause) d
says_for q d sections text (clients.Refused refusal) (front, says) = (front, refused_says q d sections refusal says)
says_for q d sections text (clients.BadCar car) front = (front, tt)
says_for q d sections text clients.InputFault front = (front, tt)
says_for q d sections text clients.KeepFault front = (front, tt)
says_for q d sections text clients.OutOfMemory front = (front, tt)

-- a text that is too large is larger than the limit
passed_of : (q : QueryParts) (limits : LimitNumbers) (heard unheard : List ℕ) (sections : List Section) (text : List ℕ) (number : ℕ)
    → EndsBy q limits unknown heard unheard sections text (Err (clients.Refused (refusals.Limit kinds.Output number))) → number ≡ limits.output
passed_of q limits heard unheard sections text number (inl at) = by at.cause
  where
    by : HasSectionCause q limits at.up_to.given at.up_to.later at.at at.section (refusals.Limit kinds.Output number) → number ≡ limits.output
    by (inl receipt) = absurd receipt
    by (inr (wanted, over)) = over.number_is
passed_of q limits heard unheard sections text number (inr behind) = behind.cause.number_is

abbrev IsMostOutput : ClientFault → Type 0
IsMostOutput cause = (number : ℕ) → cause ≡ clients.Refused (refusals.Limit kinds.Output number) → number ≡ standard.output

most_output : (q : QueryParts) (limits : LimitNumbers) (heard unheard : List ℕ) (sections : List Section) (text : List ℕ) (cause : ClientFault) → limits.output ≡ standard.output
    → EndsBy q limits unknown heard unheard sections text (Err cause) → IsMostOutput cause
most_output q limits heard unheard sections text cause most ends number is =
    passed_of q limits heard unheard sections text number (subst (λ (c : ClientFault). EndsBy q limits unknown heard unheard sections text (Err c)) is ends) ∙ most

-- of the CAR that shows an absence
says_of_path : OwnNowhere → (q : QueryParts) (d : Dag) → IsSound d → q.form ≡ forms.Car → (sections : List Section) (said : List ℕ) (cause : ClientFault) → IsMostOutput cause
    → SaysFor (path_query q) d sections said (Err cause) → FrontAndSays q sections [] (absence_fault cause) d
says_of_path nowhere q d sound car sections said (clients.Refused refusal) most (front, says) =
    (nothing_front q d sections, path_says nowhere q d sound car sections refusal (λ number is. most number (ap clients.Refused is)) says)
says_of_path nowhere q d sound car sections said (clients.BadCar fault) most front = (nothing_front q d sections, tt)
says_of_path nowhere q d sound car sections said clients.InputFault most front = (nothing_front q d sections, tt)
says_of_path nowhere q d sound car sections said clients.KeepFault most front = (nothing_front q d sections, tt)
says_of_path nowhere q d sound car sections said clients.OutOfMemory most front = (nothing_front q d sections, tt)

says_of_refusal : (q : QueryParts) (d : Dag) (sections : List Section) (fault : Refusal) → SaysOfDag q d sections fault → SaysOf q d sections (fault_of_refusal fault)
says_of_refusal q d sections (refusals.Extra number) says = says
says_of_refusal q d sections (refusals.Limit kind number) says = refused_says q d sections (refusals.Limit kind number) says
says_of_refusal q d sections (refusals.BadDigest cid) says = says
says_of_refusal q d sections (refusals.WrongBlock want got) says = says
says_of_refusal q d sections (refusals.BadBlock cid fault) says = says
says_of_refusal q d sections (refusals.BadSize declared actual) says = says
says_of_refusal q d sections (refusals.NotFolder segment) says = says
says_of_refusal q d sections (refusals.NotThere segment) says = says
says_of_refusal q d sections refusals.SinkFault says = says
says_of_refusal q d sections (refusals.Truncated want number) says = says
says_of_refusal q d sections refusals.OutOfMemory says = tt

-- no fault of a body is of the input
pub never_of_input : (out : Output) (cause : ClientFault) → HasOutCause out cause → cause ≢ clients.InputFault
never_of_input out cause has e = subst (λ (f : ClientFault). HasOutCause out f) e has

-- ---- the answer's CAR

module _ (q : QueryParts) (limits : LimitNumbers) (head : ReplyHead) (body : CarBody) (given written : List ℕ) (h : IsTakingAnswer q limits head body given written) where
  pub goes_on : (new : CarBody) (bytes : List ℕ) (out : Output) → new.verifier.left.query ≡ body.verifier.left.query → new.verifier.limits ≡ body.verifier.limits → WentOn new bytes written out
      → TakesOn q limits head (takings.Answer new) bytes written out
  goes_on new bytes out query limits_are w = record {
    text = w.text;
    put = w.put;
    taking = record {
      form = h.form;
      is_head = h.is_head;
      query = query ∙ h.query;
      limits_are = limits_are ∙ h.limits_are;
      sections = w.sections;
      is_body = w.is_body;
    };
  }

  abbrev pub stopped : (taken : ℕ) (bytes : List ℕ) (out : Output) (cause : ClientFault) → cause ≢ clients.InputFault → IsStopped q limits taken bytes written out cause
      → StopsTaking q limits head bytes written out (fault_of_client cause)
  stopped taken bytes out cause not_input s = record {
    text = s.text;
    put = s.put;
    sections = s.sections;
    stops = BodyStops.answer (record {
      form = h.form;
      is_head = h.is_head;
      are_heard = record { heard = s.heard; unheard = s.unheard; whole = s.whole; received = s.received };
      cause = cause;
      not_input = not_input;
      fault_is = refl;
      ends = s.ends;
      wanted = s.wanted;
    });
    sound = λ d is root. says_for q d s.sections (written ++ s.text) cause (s.sound d is root);
  }

  pub stops : {taken : ℕ} → (bytes : List ℕ) (out : Output) (cause : ClientFault) → HasOutCause out cause
      → IsStopped body.verifier.left.query body.verifier.limits taken bytes written out cause → StopsTaking q limits head bytes written out (fault_of_client cause)
  stops {taken} bytes out cause has s =
      stopped taken bytes out cause (never_of_input out cause has)
      (subst (λ (n : LimitNumbers). IsStopped q n taken bytes written out cause) h.limits_are
      (subst (λ (p : QueryParts). IsStopped p body.verifier.limits taken bytes written out cause) h.query s))

-- where no more bytes come only a block that is wanted, or the header, is why it isn't accepted
pub record IsShort (q : QueryParts) (limits : LimitNumbers) (heard : List ℕ) (sections : List Section) (text : List ℕ) (cause : ClientFault) : Type 0 where
  pub want : CidParts
  pub number : ℕ
  pub cause_is : cause ≡ clients.Refused (refusals.Truncated want number)
  pub short : IsEndedShort q limits heard sections text want number

pub is_short : (q : QueryParts) (limits : LimitNumbers) (heard : List ℕ) (sections : List Section) (text : List ℕ) (cause : ClientFault) → EndsAt q limits heard sections text (Err cause)
    → IsShort q limits heard sections text cause
is_short q limits heard sections text (clients.Refused (refusals.Truncated want number)) e = record { want = want; number = number; cause_is = refl; short = e }
is_short q limits heard sections text (clients.Refused (refusals.Extra number)) e = absurd e
is_short q limits heard sections text (clients.Refused (refusals.Limit kind number)) e = absurd e
is_short q limits heard sections text (clients.Refused (refusals.BadDigest cid)) e = absurd e
is_short q limits heard sections text (clients.Refused (refusals.WrongBlock want got)) e = absurd e
is_short q limits heard sections text (clients.Refused (refusals.BadBlock cid fault)) e = absurd e
is_short q limits heard sections text (clients.Refused (refusals.BadSize declared actual)) e = absurd e
is_short q limits heard sections text (clients.Refused (refusals.NotFolder segment)) e = absurd e
is_short q limits heard sections text (clients.Refused (refusals.NotThere segment)) e = absurd e
is_short q limits heard sections text (clients.Refused refusals.SinkFault) e = absurd e
is_short q limits heard sections text (clients.Refused refusals.OutOfMemory) e = absurd e
is_short q limits heard sections text (clients.BadCar car) e = absurd e
is_short q limits heard sections text clients.InputFault e = absurd e
is_short q limits heard sections text clients.KeepFault e = absurd e
is_short q limits heard sections text clients.OutOfMemory e = absurd e

module _ (q : QueryParts) (limits : LimitNumbers) (head : ReplyHead) (body : CarBody) (given written : List ℕ) (h : IsTakingAnswer q limits head body given written) where
  abbrev pub ended : (out : Output) → Put [] out → (cause : ClientFault) → HasEnded q limits given h.sections written (Err cause) → FailsTaking q limits head given written out (fault_of_client cause)
  ended out put cause e =
      let s = is_short q limits given h.sections written cause e.ends in
      record {
        text = [];
        put = put;
        sections = h.sections;
        fails = BodyFails.answer (record {
          form = h.form;
          is_head = h.is_head;
          received = e.received;
          want = s.want;
          number = s.number;
          fault_is = ap fault_of_client s.cause_is;
          short = subst (λ (t : List ℕ). IsEndedShort q limits given h.sections t s.want s.number) (sym (append-nil written)) s.short;
        });
        sound = λ d is root. says_for q d h.sections (written ++ []) cause
            (subst (λ (t : List ℕ). SaysFor q d h.sections t (Err cause)) (sym (append-nil written)) (e.sound d is root));
      }

  -- of the query and the limits that the verifier has
  pub by_its : (result : Result ⊤ ClientFault) → HasEnded body.verifier.left.query body.verifier.limits given h.sections written result → HasEnded q limits given h.sections written result
  by_its result e =
      subst (λ (n : LimitNumbers). HasEnded q n given h.sections written result) h.limits_are
      (subst (λ (p : QueryParts). HasEnded p body.verifier.limits given h.sections written result) h.query e)

  abbrev pub ends_short : (out : Output) → Put [] out → (cause : ClientFault) → HasEnded body.verifier.left.query body.verifier.limits given h.sections written (Err cause)
      → FailsTaking q limits head given written out (fault_of_client cause)
  ends_short out put cause e = ended out put cause (by_its (Err cause) e)

  abbrev pub ends_whole : (out : Output) → Put [] out → HasEnded body.verifier.left.query body.verifier.limits given h.sections written (Ok tt)
      → TakesWhole q limits head given written out
  ends_whole out put raw =
      let e = by_its (Ok tt) raw in
      record {
        text = [];
        put = put;
        sections = h.sections;
        whole = subst (λ (t : List ℕ). IsWholeAnswer q limits head given h.sections t) (sym (append-nil written)) (record {
          is_head = h.is_head;
          carries = subst (λ (f : Form). BodyCarries f q given h.sections) (sym h.form) e.ends.is_car;
          through = e.ends.through;
          sound = e.sound;
        });
      }

-- ---- the CAR that shows an absence

-- no block is wanted, and none was refused
pub none_wanted : (refused : Option Refusal) (wanted : Option WantedAt) → refused ≡ None → next_cid refused wanted ≡ None → wanted ≡ None
none_wanted None None e none = refl
none_wanted None (Some at) e none = absurd (cc none)
none_wanted (Some refusal) wanted e none = absurd (cc e)

module _ (q : QueryParts) (limits : LimitNumbers) (head : ReplyHead) (body : CarBody) (given : List ℕ) (h : IsTakingAbsence q limits head body given) where
  abbrev Stops : List ℕ → FetchFault → Type 0
  Stops bytes fault = (sections : List Section) × BodyStops q limits head bytes sections [] fault × ForEachSound q (FrontAndSays q sections [] fault)

  pub shows_on : (m : Output) (new : CarBody) (bytes : List ℕ) → new.verifier.left.query ≡ body.verifier.left.query → new.verifier.limits ≡ body.verifier.limits → WentOn new bytes h.said m
      → new.verifier.left.wanted ≢ None → IsTakingAbsence q limits head new bytes
  shows_on m new bytes query limits_are w wanted = record {
    is_head = h.is_head;
    query = query ∙ h.query;
    limits_are = limits_are ∙ h.limits_are;
    sections = w.sections;
    said = h.said ++ w.text;
    is_body = w.is_body;
    wanted = wanted;
  }

  pub shows_terminal : BodyStands → (m : Output) (new : CarBody) (bytes : List ℕ) → new.verifier.left.query ≡ body.verifier.left.query → new.verifier.limits ≡ body.verifier.limits
      → WentOn new bytes h.said m → new.verifier.left.wanted ≡ None → Stops bytes (faults.Status 404)
  shows_terminal stands m new bytes query limits_are w none =
      let s = stands new bytes w.sections (h.said ++ w.text) w.is_body in
      let block : new.verifier.limits.block ≡ limits.block = ap (λ (n : LimitNumbers). n.block) (limits_are ∙ h.limits_are) in (
        w.sections,
        BodyStops.reaches (record {
          is_head = h.is_head;
          are_heard = record {
            heard = bytes;
            unheard = [];
            whole = sym (append-nil bytes);
            received = subst (λ (n : ℕ). HasReceived n bytes w.sections) block s.received;
          };
          said = h.said ++ w.text;
          is_car = (s.through none).1;
          through = subst (λ (l : LimitNumbers). IsThrough (path_query q) l w.sections (h.said ++ w.text)) (limits_are ∙ h.limits_are)
              (subst (λ (p : QueryParts). IsThrough p new.verifier.limits w.sections (h.said ++ w.text)) (query ∙ h.query) (s.through none).0);
          fault_is = refl;
          no_text = refl;
        }),
        λ d is root. (nothing_front q d w.sections, tt),
      )

  shown : OwnNowhere → (m : Output) (taken : ℕ) (bytes : List ℕ) (cause : ClientFault) → cause ≢ clients.InputFault → cause ≢ clients.KeepFault → absence_fault cause ≢ faults.Refused refusals.SinkFault
      → IsStopped (path_query q) (path_limits limits) taken bytes h.said m cause → Stops bytes (absence_fault cause)
  shown nowhere m taken bytes cause not_input not_keep not_sink s = (
    s.sections,
    BodyStops.absence (record {
      is_head = h.is_head;
      are_heard = record { heard = s.heard; unheard = s.unheard; whole = s.whole; received = s.received };
      said = h.said ++ s.text;
      cause = cause;
      not_input = not_input;
      not_keep = not_keep;
      fault_is = refl;
      not_sink = not_sink;
      ends = s.ends;
      wanted = s.wanted;
      no_text = refl;
    }),
    λ d is root. says_of_path nowhere q d is h.is_head.car s.sections (h.said ++ s.text) cause
        (most_output (path_query q) (path_limits limits) s.heard s.unheard s.sections (h.said ++ s.text) cause refl s.ends) (s.sound d is root),
  )

  pub shows_stop : {taken : ℕ} → OwnNowhere → (m : Output) (bytes : List ℕ) (cause : ClientFault) → HasOutCause m cause → cause ≢ clients.KeepFault
      → absence_fault cause ≢ faults.Refused refusals.SinkFault → IsStopped body.verifier.left.query body.verifier.limits taken bytes h.said m cause → Stops bytes (absence_fault cause)
  shows_stop {taken} nowhere m bytes cause has not_keep not_sink s =
      shown nowhere m taken bytes cause (never_of_input m cause has) not_keep not_sink
      (subst (λ (n : LimitNumbers). IsStopped (path_query q) n taken bytes h.said m cause) h.limits_are
      (subst (λ (p : QueryParts). IsStopped p body.verifier.limits taken bytes h.said m cause) h.query s))

  -- what is taken of it, with what was put before
  pub absence_takes : (written : List ℕ) → written ≡ [] → (out : Output) → Put [] out → (new : CarBody) (bytes : List ℕ) (result : Result ⊤ FetchFault)
      → MatchResult result (λ _. IsTakingAbsence q limits head new bytes) (Stops bytes)
      → MatchResult result (λ _. TakesOn q limits head (takings.Absence new) bytes written out) (StopsTaking q limits head bytes written out)
  absence_takes written none out put new bytes (Ok done) taking =
      subst (λ (t : List ℕ). TakesOn q limits head (takings.Absence new) bytes t out) (sym none) (record { text = []; put = put; taking = (taking, refl) })
  absence_takes written none out put new bytes (Err fault) (sections, stops, sound) =
      subst (λ (t : List ℕ). StopsTaking q limits head bytes t out fault) (sym none) (record { text = []; put = put; sections = sections; stops = stops; sound = sound })

  its : (result : Result ⊤ ClientFault) → HasEnded body.verifier.left.query body.verifier.limits given h.sections h.said result
      → HasEnded (path_query q) (path_limits limits) given h.sections h.said result
  its result e =
      subst (λ (n : LimitNumbers). HasEnded (path_query q) n given h.sections h.said result) h.limits_are
      (subst (λ (p : QueryParts). HasEnded p body.verifier.limits given h.sections h.said result) h.query e)

  pub absence_short : (written : List ℕ) → written ≡ [] → (out : Output) → Put [] out → (cause : ClientFault)
      → HasEnded body.verifier.left.query body.verifier.limits given h.sections h.said (Err cause) → FailsTaking q limits head given written out (fault_of_client cause)
  absence_short written none out put cause raw =
      let e = its (Err cause) raw in
      let s = is_short (path_query q) (path_limits limits) given h.sections h.said cause e.ends in
      let fault_is : fault_of_client cause ≡ faults.Refused (refusals.Truncated s.want s.number) = ap fault_of_client s.cause_is in
      subst (λ (t : List ℕ). FailsTaking q limits head given t out (fault_of_client cause)) (sym none)
      (record {
        text = [];
        put = put;
        sections = h.sections;
        fails = BodyFails.absence (record {
          is_head = h.is_head;
          received = e.received;
          said = h.said;
          want = s.want;
          number = s.number;
          fault_is = fault_is;
          short = s.short;
          no_text = refl;
        });
        sound = λ d is root. (nothing_front q d h.sections, subst (λ (f : FetchFault). SaysOf q d h.sections f) (sym fault_is) tt);
      })

  pub absence_reached : (written : List ℕ) → written ≡ [] → (out : Output) → Put [] out → HasEnded body.verifier.left.query body.verifier.limits given h.sections h.said (Ok tt)
      → FailsTaking q limits head given written out (faults.Status 404)
  absence_reached written none out put raw =
      let e = its (Ok tt) raw in
      subst (λ (t : List ℕ). FailsTaking q limits head given t out (faults.Status 404)) (sym none)
      (record {
        text = [];
        put = put;
        sections = h.sections;
        fails = BodyFails.reaches (record {
          is_head = h.is_head;
          are_heard = record { heard = given; unheard = []; whole = sym (append-nil given); received = e.received };
          said = h.said;
          is_car = e.ends.is_car;
          through = e.ends.through;
          fault_is = refl;
          no_text = refl;
        });
        sound = λ d is root. (nothing_front q d h.sections, tt);
      })

-- no fault of a sink that never fails
abbrev silent : Output
silent = record { wrote = λ bytes. ⊤; held_old = None; held_new = None; faults_old = 0; faults_new = 0 }

pub never_of_sink : (cause : ClientFault) → HasOutCause silent cause → absence_fault cause ≡ faults.Refused refusals.SinkFault → ⊥
never_of_sink (clients.Refused refusals.SinkFault) rose e = omega (arith, rose (omega arith))
never_of_sink (clients.Refused (refusals.Extra number)) quiet e = cc e
never_of_sink (clients.Refused (refusals.Limit kind number)) quiet e = cc e
never_of_sink (clients.Refused (refusals.BadDigest cid)) quiet e = cc e
never_of_sink (clients.Refused (refusals.WrongBlock want got)) quiet e = cc e
never_of_sink (clients.Refused (refusals.BadBlock cid fault)) quiet e = cc e
never_of_sink (clients.Refused (refusals.BadSize declared actual)) quiet e = cc e
never_of_sink (clients.Refused (refusals.NotFolder segment)) quiet e = cc e
never_of_sink (clients.Refused (refusals.NotThere segment)) quiet e = cc e
never_of_sink (clients.Refused (refusals.Truncated want number)) quiet e = cc e
never_of_sink (clients.Refused refusals.OutOfMemory) quiet e = cc e
never_of_sink (clients.BadCar car) quiet e = cc e
never_of_sink clients.InputFault quiet e = cc e
never_of_sink clients.KeepFault quiet e = cc e
never_of_sink clients.OutOfMemory quiet e = cc e

-- ---- faults of out

-- a block too large, or want of memory, is none of out
pub quiet_block : (out : Output) (limits : LimitNumbers) (bytes : List ℕ) → OutputQuiet out → (fault : FetchFault) → IsBlockFault limits bytes fault → QuietUnlessSink {A = ⊤} out (Err fault)
quiet_block out limits bytes quiet (faults.Refused (refusals.Limit kind number)) is = quiet
quiet_block out limits bytes quiet faults.OutOfMemory is = quiet
quiet_block out limits bytes quiet (faults.Refused refusals.SinkFault) is = absurd is
quiet_block out limits bytes quiet (faults.Refused (refusals.Extra number)) is = quiet
quiet_block out limits bytes quiet (faults.Refused (refusals.BadDigest cid)) is = quiet
quiet_block out limits bytes quiet (faults.Refused (refusals.WrongBlock want got)) is = quiet
quiet_block out limits bytes quiet (faults.Refused (refusals.BadBlock cid fault)) is = quiet
quiet_block out limits bytes quiet (faults.Refused (refusals.BadSize declared actual)) is = quiet
quiet_block out limits bytes quiet (faults.Refused (refusals.NotFolder segment)) is = quiet
quiet_block out limits bytes quiet (faults.Refused (refusals.NotThere segment)) is = quiet
quiet_block out limits bytes quiet (faults.Refused (refusals.Truncated want number)) is = quiet
quiet_block out limits bytes quiet (faults.Refused refusals.OutOfMemory) is = quiet
quiet_block out limits bytes quiet (faults.Status number) is = quiet
quiet_block out limits bytes quiet faults.BadType is = quiet
quiet_block out limits bytes quiet faults.BadReplyHead is = quiet
quiet_block out limits bytes quiet faults.BadFraming is = quiet
quiet_block out limits bytes quiet (faults.BadCar car) is = quiet
quiet_block out limits bytes quiet faults.PeerFault is = quiet
quiet_block out limits bytes quiet faults.KeepFault is = absurd is

-- a fault that is neither of out nor of a keeper
pub quiet_other : (out : Output) (result : Result ⊤ FetchFault) → (result ≡ Err (faults.Refused refusals.SinkFault) → ⊥) → (result ≡ Err faults.KeepFault → ⊥) → OutputQuiet out
    → QuietUnlessSink out result
quiet_other out (Ok done) sink keep quiet = quiet
quiet_other out (Err (faults.Refused refusals.SinkFault)) sink keep quiet = absurd (sink refl)
quiet_other out (Err (faults.Refused (refusals.Extra number))) sink keep quiet = quiet
quiet_other out (Err (faults.Refused (refusals.Limit kind number))) sink keep quiet = quiet
quiet_other out (Err (faults.Refused (refusals.BadDigest cid))) sink keep quiet = quiet
quiet_other out (Err (faults.Refused (refusals.WrongBlock want got))) sink keep quiet = quiet
quiet_other out (Err (faults.Refused (refusals.BadBlock cid fault))) sink keep quiet = quiet
quiet_other out (Err (faults.Refused (refusals.BadSize declared actual))) sink keep quiet = quiet
quiet_other out (Err (faults.Refused (refusals.NotFolder segment))) sink keep quiet = quiet
quiet_other out (Err (faults.Refused (refusals.NotThere segment))) sink keep quiet = quiet
quiet_other out (Err (faults.Refused (refusals.Truncated want number))) sink keep quiet = quiet
quiet_other out (Err (faults.Refused refusals.OutOfMemory)) sink keep quiet = quiet
quiet_other out (Err (faults.Status number)) sink keep quiet = quiet
quiet_other out (Err faults.BadType) sink keep quiet = quiet
quiet_other out (Err faults.BadReplyHead) sink keep quiet = quiet
quiet_other out (Err faults.BadFraming) sink keep quiet = quiet
quiet_other out (Err (faults.BadCar car)) sink keep quiet = quiet
quiet_other out (Err faults.PeerFault) sink keep quiet = quiet
quiet_other out (Err faults.KeepFault) sink keep quiet = absurd (keep refl)
quiet_other out (Err faults.OutOfMemory) sink keep quiet = quiet

-- ---- the root's block

-- a verifier that starts says of no block that it doesn't come
before_block : (out : Output) (fault : Refusal) → HasPutCause (Err fault) out → IsBeforeBlock fault
before_block out (refusals.Truncated want number) cause = cause
before_block out _ cause = tt

module _ (q : QueryParts) (limits : LimitNumbers) (head : ReplyHead) (raw : RawBlock) (given : List ℕ) (h : IsTakingBlock q limits head raw given) where
  -- refused before the block, or at it
  block_refused : (state : VerifierState) → state.left.query ≡ raw.verifier.left.query → state.limits ≡ raw.verifier.limits
      → (sections : List Section) (text : List ℕ) (out : Output) → Put text out → (fault : Refusal)
      → ((sections ≡ []) × IsBeforeBlock fault) ⊎ (sections ≡ root_section q given ∷ [])
      → StandsFor state sections text → state.refused ≡ Some fault
      → ForEachSound state.left.query (λ d. IsItsFront state.left.query d sections text × SaysOfDag state.left.query d sections fault)
      → FailsTaking q limits head given [] out (fault_of_refusal fault)
  block_refused state query limits_are sections text out put fault are stands refused sound =
      let there : HasRefused state.left.query state.limits sections text fault = subst (λ (r : Option Refusal). StandsBy r state sections text) refused stands in
      let here : HasRefused q limits sections text fault =
      subst (λ (n : LimitNumbers). HasRefused q n sections text fault) (limits_are ∙ h.limits_are)
      (subst (λ (p : QueryParts). HasRefused p state.limits sections text fault) (query ∙ h.query) there) in
      let says : ForEachSound q (λ d. IsItsFront q d sections text × SaysOfDag q d sections fault) =
      subst (λ (p : QueryParts). ForEachSound p (λ d. IsItsFront p d sections text × SaysOfDag p d sections fault)) (query ∙ h.query) sound in
      record {
        text = text;
        put = put;
        sections = sections;
        fails = BodyFails.block (record {
          form = h.form;
          is_head = h.is_head;
          few = h.few;
          sections_are = are;
          cause = fault;
          fault_is = refl;
          refused = here;
        });
        sound = λ d is root. ((says d is root).0, says_of_refusal q d sections fault (says d is root).1);
      }

  pub refused_before : (state : VerifierState) → state.left.query ≡ raw.verifier.left.query → state.limits ≡ raw.verifier.limits → (out : Output) (fault : Refusal)
      → HasWritten state [] [] out (Err fault) → state.refused ≡ Some fault → HasPutCause (Err fault) out → FailsTaking q limits head given [] out (fault_of_refusal fault)
  refused_before state query limits_are out fault w refused cause =
      block_refused state query limits_are [] w.text out w.put fault (inl (refl, before_block out fault cause)) w.stands refused w.sound

  -- with the block
  root_here : (cid : CidParts) (block : List ℕ) → cid ≡ raw.root → block ≡ raw.bytes → section_with cid block ≡ root_section q given
  root_here cid block root bytes = ap₂ (λ (c : CidParts) (b : List ℕ). section_with c b) (root ∙ h.root) (bytes ∙ h.bytes_are)

  module _ {S : Type 0} (m : SinkMeaning S) (joins : SinkJoins S m) (a b c : S) (first : List ℕ) (put : Put first (into m a b)) where
    pub refused_there : (state : VerifierState) → state.left.query ≡ raw.verifier.left.query → state.limits ≡ raw.verifier.limits
        → (cid : CidParts) (block : List ℕ) → cid ≡ raw.root → block ≡ raw.bytes → (fault : Refusal)
        → HasWritten state (section_with cid block ∷ []) first (into m b c) (Err fault) → state.refused ≡ Some fault
        → FailsTaking q limits head given [] (into m a c) (fault_of_refusal fault)
    refused_there state query limits_are cid block root bytes fault w refused =
        block_refused state query limits_are (section_with cid block ∷ []) (first ++ w.text) (into m a c) (put_put S m a b c first w.text joins put w.put) fault
        (inr (ap (λ (s : Section). s ∷ []) (root_here cid block root bytes))) w.stands refused w.sound

    module _ (state : VerifierState) (query : state.left.query ≡ raw.verifier.left.query) (limits_are : state.limits ≡ raw.verifier.limits) (cid : CidParts) (block : List ℕ) (root : cid ≡ raw.root)
        (bytes : block ≡ raw.bytes) (progress : Progress) (w : HasWritten state (section_with cid block ∷ []) first (into m b c) (Ok progress)) where
      pub refused_end : (last : VerifierState) → last.left.query ≡ state.left.query → last.limits ≡ state.limits
          → ((sections : List Section) (written : List ℕ) → StandsFor state sections written → StandsFor last sections written)
          → (fault : Refusal) → last.refused ≡ Some fault
          → ((sections : List Section) (written : List ℕ) → StandsFor state sections written
          → ForEachSound last.left.query (λ d. EndsFor last.left.query d sections written (Err fault)))
          → FailsTaking q limits head given [] (into m a c) (fault_of_refusal fault)
      refused_end last same same_limits stands fault refused sound =
          block_refused last (same ∙ query) (same_limits ∙ limits_are) (section_with cid block ∷ []) (first ++ w.text) (into m a c)
          (put_put S m a b c first w.text joins put w.put) fault (inr (ap (λ (s : Section). s ∷ []) (root_here cid block root bytes))) (stands _ _ w.stands) refused (sound _ _ w.stands)

      pub block_taken : AnswerLaws → state.refused ≡ None → state.left.wanted ≡ None → TakesWhole q limits head given [] (into m a c)
      block_taken laws unrefused none =
          let text : List ℕ = first ++ w.text in
          let sections : List Section = section_with cid block ∷ [] in
          let going : IsGoing state sections text = subst (λ (r : Option Refusal). StandsBy r state sections text) unrefused w.stands in
          let through : IsThrough q limits sections text =
          subst (λ (l : LimitNumbers). IsThrough q l sections text) (limits_are ∙ h.limits_are)
          (subst (λ (p : QueryParts). IsThrough p state.limits sections text) (query ∙ h.query) (laws.going_through state sections text going none)) in
          record {
            text = text;
            put = put_put S m a b c first w.text joins put w.put;
            sections = sections;
            whole = record {
              is_head = h.is_head;
              carries = subst (λ (f : Form). BodyCarries f q given sections) (sym h.form) (ap (λ (s : Section). s ∷ []) (root_here cid block root bytes));
              through = through;
              sound = λ d is root. laws.sound_through q limits d sections text is root through;
            };
          }

says_of_block : (q : QueryParts) (limits : LimitNumbers) (d : Dag) (bytes : List ℕ) (fault : FetchFault) → IsBlockFault limits bytes fault → SaysOf q d [] fault
says_of_block q limits d bytes (faults.Refused (refusals.Limit kinds.Block number)) is = tt
says_of_block q limits d bytes (faults.Refused (refusals.Limit kinds.Depth number)) is = absurd is
says_of_block q limits d bytes (faults.Refused (refusals.Limit kinds.Entries number)) is = absurd is
says_of_block q limits d bytes (faults.Refused (refusals.Limit kinds.Names number)) is = absurd is
says_of_block q limits d bytes (faults.Refused (refusals.Limit kinds.Received number)) is = absurd is
says_of_block q limits d bytes (faults.Refused (refusals.Limit kinds.Output number)) is = absurd is
says_of_block q limits d bytes (faults.Refused (refusals.Limit kinds.SeenBlocks number)) is = absurd is
says_of_block q limits d bytes (faults.Refused (refusals.Limit kinds.SeenBytes number)) is = absurd is
says_of_block q limits d bytes (faults.Refused (refusals.Limit kinds.Reused number)) is = absurd is
says_of_block q limits d bytes (faults.Refused refusals.SinkFault) is = absurd is
says_of_block q limits d bytes (faults.Refused (refusals.Extra number)) is = absurd is
says_of_block q limits d bytes (faults.Refused (refusals.BadDigest cid)) is = absurd is
says_of_block q limits d bytes (faults.Refused (refusals.WrongBlock want got)) is = absurd is
says_of_block q limits d bytes (faults.Refused (refusals.BadBlock cid fault)) is = absurd is
says_of_block q limits d bytes (faults.Refused (refusals.BadSize declared actual)) is = absurd is
says_of_block q limits d bytes (faults.Refused (refusals.NotFolder segment)) is = absurd is
says_of_block q limits d bytes (faults.Refused (refusals.NotThere segment)) is = absurd is
says_of_block q limits d bytes (faults.Refused (refusals.Truncated want number)) is = absurd is
says_of_block q limits d bytes (faults.Refused refusals.OutOfMemory) is = absurd is
says_of_block q limits d bytes (faults.Status number) is = tt
says_of_block q limits d bytes faults.BadType is = tt
says_of_block q limits d bytes faults.BadReplyHead is = tt
says_of_block q limits d bytes faults.BadFraming is = tt
says_of_block q limits d bytes (faults.BadCar car) is = tt
says_of_block q limits d bytes faults.PeerFault is = tt
says_of_block q limits d bytes faults.KeepFault is = tt
says_of_block q limits d bytes faults.OutOfMemory is = tt

module _ (q : QueryParts) (limits : LimitNumbers) (head : ReplyHead) (raw : RawBlock) (given : List ℕ) (h : IsTakingBlock q limits head raw given) where
  pub block_takes : (written : List ℕ) → written ≡ [] → (out : Output) → Put [] out → (new : RawBlock) (bytes : List ℕ) (result : Result ⊤ FetchFault)
      → MatchResult result (λ _. IsTakingBlock q limits head new bytes) (IsBlockFault limits bytes)
      → MatchResult result (λ _. TakesOn q limits head (takings.Block new) bytes written out) (StopsTaking q limits head bytes written out)
  block_takes written none out put new bytes (Ok done) taking =
      subst (λ (t : List ℕ). TakesOn q limits head (takings.Block new) bytes t out) (sym none) (record { text = []; put = put; taking = (taking, refl) })
  block_takes written none out put new bytes (Err fault) is =
      subst (λ (t : List ℕ). StopsTaking q limits head bytes t out fault) (sym none)
      (record {
        text = [];
        put = put;
        sections = [];
        stops = BodyStops.block (record { form = h.form; is_head = h.is_head; no_section = refl; no_text = refl; cause = is });
        sound = λ d sound root. (nothing_front q d [], says_of_block q limits d bytes fault is);
      })

  pub block_quiet : (out : Output) → OutputQuiet out → (new : RawBlock) (bytes : List ℕ) (result : Result ⊤ FetchFault)
      → MatchResult result (λ _. IsTakingBlock q limits head new bytes) (IsBlockFault limits bytes) → QuietUnlessSink out result
  block_quiet out quiet new bytes (Ok done) taking = quiet
  block_quiet out quiet new bytes (Err fault) is = quiet_block out limits bytes quiet fault is
