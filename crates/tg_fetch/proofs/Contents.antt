-- The body of a reply goes on, is refused, or is the answer.
use Rattle.std.proofs.Common.{◌≡◌, ◌+◌, ◌≤◌, ℕ, Bool, true, false, List, [], ◌++◌, None, Ok, Err, refl, sym, ap, subst, ◌∙◌, inr, append-nil, length, arith}
use Rattle.std.specs.Prelude.{Result, ⊤, ◌≢◌}
use Rattle.tg_body.specs.Bodies.{BodyFront, BodyText}
use Rattle.tg_body.specs.History.{HasEndCause, HasFeedCause, History, with_body}
use Rattle.tg_body.specs.State.{StandsFor}
use Rattle.tg_body.specs.declared.body.Body.{Body}
use Rattle.tg_body.specs.declared.body.Body.TheVariants as bodies
use Rattle.tg_body.specs.declared.reader.BodyReader.{BodyReader}
use Rattle.tg_client.specs.Body.{BodyStands}
use Rattle.tg_fetch.specs.Bodies.{EndsTaking, FailsTaking, FrontAndSays, IsOpenBody, IsTaking, SaysOf, StopsTaking, TakesOn, TakesWhole}
use Rattle.tg_fetch.specs.Faults.{fault_of_http}
use Rattle.tg_fetch.specs.Replies.{ContentEnds, ContentGoesOn, HasAnswered, IsInContent, IsRefused, IsShortIn, RefusedBy, at_end, breaks, cut_body, in_body, memory}
use Rattle.tg_fetch.specs.declared.content.Content.{Content}
use Rattle.tg_fetch.specs.declared.fault.FetchFault.{FetchFault}
use Rattle.tg_fetch.specs.declared.fault.FetchFault.TheVariants as faults
use Rattle.tg_fetch.specs.declared.sections.Sections.{Sections}
use Rattle.tg_heard.specs.FinalHeads.{FinalHead}
use Rattle.tg_heard.specs.Laws.{OneFinalHead}
use Rattle.tg_heard.specs.FrontLaws.{HeadLaws}
use Rattle.tg_http.specs.declared.fault.HttpFault.{HttpFault}
use Rattle.tg_http.specs.declared.fault.HttpFault.TheVariants as https
use Rattle.tg_http.specs.declared.framing.Framing.{Framing}
use Rattle.tg_http.specs.declared.framing.Framing.TheVariants as framings
use Rattle.tg_http.specs.declared.reply.ReplyHead.{ReplyHead}
use Rattle.tg_model.specs.Dag.{Dag, Section}
use Rattle.tg_model.specs.LimitNumbers.{LimitNumbers}
use Rattle.tg_model.specs.Queries.{QueryParts}
use Rattle.tg_verify.specs.Sound.{ForEachSound}
use Rattle.tg_streams.specs.Joining.{put_nothing}
use Rattle.tg_streams.specs.Streams.{Output, SinkMeaning, into}
use Rattle.tg_fetch.proofs.Standing.{taking_is_open}

-- nothing was put
pub takes_nothing : (S : Type 0) (m : SinkMeaning S) (a : S) → m.wrote a a [] → (q : QueryParts) (limits : LimitNumbers) (head : ReplyHead) (sections : Sections) (given written : List ℕ)
    → IsTaking q limits head sections given written → TakesOn q limits head sections given written (into m a a)
takes_nothing S m a rests q limits head sections given written t = record {
  text = [];
  put = put_nothing S m a rests;
  taking = subst (λ (t : List ℕ). IsTaking q limits head sections given t) (sym (append-nil written)) t;
}

-- what a reader tells
abbrev said : Result (ℕ × Body) HttpFault → Body
said (Ok told) = told.1
said (Err fault) = bodies.Need

-- that more is wanted isn't the end
pub no_end : (taken : ℕ) (told : Body) → told ≡ bodies.Need → ◌≡◌ {A = Result (ℕ × Body) HttpFault} (Ok (taken, told)) (Ok (0, bodies.End)) → ⊥
no_end taken told need end = cc (need, ap said end)

-- where the body is whole and accepted the reply is the answer
abbrev pub answered : (q : QueryParts) (limits : LimitNumbers) (heard rest given written : List ℕ) (head : ReplyHead) (out : Output) (ended : Bool) → FinalHead heard head rest
    → BodyText head.framing given rest → (head.framing ≡ framings.UntilClose → ended ≡ true) → TakesWhole q limits head given written out → HasAnswered q limits heard ended written out
answered q limits heard rest given written head out ended final body_is closed t = record {
  text = t.text;
  put = t.put;
  sections = t.sections;
  carries = record {
    front = heard;
    more = [];
    heard_is = sym (append-nil heard);
    head = head;
    rest = rest;
    final = final;
    is_head = t.whole.is_head;
    body = given;
    body_is = body_is;
    closed = λ e. (closed e, refl);
    carries = t.whole.carries;
  };
  through = t.whole.through;
  sound = t.whole.sound;
}

-- where it is whole and isn't accepted
abbrev pub failed : (q : QueryParts) (limits : LimitNumbers) (heard front more piece rest given written : List ℕ) (head : ReplyHead) (out : Output) (ended : Bool) (fault : FetchFault)
    → piece ≡ front ++ more → length (heard ++ front) ≤ limits.received → FinalHead (heard ++ front) head rest → BodyText head.framing given rest → (head.framing ≡ framings.UntilClose → ended ≡ true)
    → FailsTaking q limits head given written out fault → IsRefused q limits heard piece ended written out fault
failed q limits heard front more piece rest given written head out ended fault whole within final body_is closed t = record {
  front = front;
  more = more;
  whole = whole;
  text = t.text;
  put = t.put;
  sections = t.sections;
  within = within;
  refused = at_end (record { head = head; rest = rest; final = final; given = given; body_is = body_is; closed = closed; fails = t.fails });
  sound = t.sound;
}

module _ (q : QueryParts) (limits : LimitNumbers) (old : Content) (heard written : List ℕ) (h : IsInContent q limits old heard written) where
  -- what the reader was told
  abbrev before : History
  before = record { fed = h.rest; given = h.given; ended = false; stop = None }

  pub told_as : (reader : BodyReader) (piece : List ℕ) (taken : ℕ) (told body : Body) → told ≡ body → StandsFor reader (with_body before piece taken told)
      → StandsFor reader (with_body before piece taken body)
  told_as reader piece taken told body is reads = subst (λ (b : Body). StandsFor reader (with_body before piece taken b)) is reads

  -- the framing of the reader
  pub front_by : (reader : BodyReader) (given rest : List ℕ) → reader.framing ≡ old.reader.framing
      → StandsFor reader (record { fed = rest; given = given; ended = false; stop = None }) → BodyFront h.head.framing given rest
  front_by reader given rest same reads = subst (λ (f : Framing). BodyFront f given rest) (same ∙ h.framing) reads.exact.so_far

  pub text_by : (reader : BodyReader) (given rest : List ℕ) → reader.framing ≡ old.reader.framing
      → StandsFor reader (record { fed = rest; given = given; ended = true; stop = None }) → BodyText h.head.framing given rest
  text_by reader given rest same reads = subst (λ (f : Framing). BodyText f given rest) (same ∙ h.framing) reads.exact.so_far.0

  pub closed_by : (reader : BodyReader) (given rest : List ℕ) (ended : Bool) → reader.framing ≡ old.reader.framing
      → StandsFor reader (record { fed = rest; given = given; ended = true; stop = None }) → h.head.framing ≡ framings.UntilClose → ended ≡ true
  closed_by reader given rest ended same reads e = absurd (reads.exact.so_far.1 (same ∙ h.framing ∙ e))

  -- more of it was taken
  pub goes_on : HeadLaws → (reader : BodyReader) (sections : Sections) (given front : List ℕ) (out : Output) → reader.framing ≡ old.reader.framing
      → StandsFor reader (record { fed = h.rest ++ front; given = given; ended = false; stop = None })
      → TakesOn q limits h.head sections given written out → ContentGoesOn q limits (record { reader = reader; sections = sections }) (heard ++ front) written out
  goes_on heads reader sections given front out same reads t = record {
    text = t.text;
    put = t.put;
    in_content = record {
      head = h.head;
      rest = h.rest ++ front;
      final = heads.final_stays heard front h.rest h.head h.final;
      framing = same ∙ h.framing;
      framed = h.framed;
      given = given;
      reads = reads;
      taking = t.taking;
    };
  }

  -- where more is wanted a body of stated length isn't whole: its bytes are given when they come, and its end with the last
  pub is_short : OneFinalHead → (reader : BodyReader) (sections : Sections) (piece : List ℕ) → reader.framing ≡ old.reader.framing
      → StandsFor reader (record { fed = h.rest ++ piece; given = h.given; ended = false; stop = None })
      → (BodyText old.reader.framing h.given h.rest → old.reader.framing ≢ framings.UntilClose → ⊥)
      → IsShortIn q limits (record { reader = reader; sections = sections }) (heard ++ piece)
  is_short one reader sections piece same reads not_whole other here number e =
      let stated : old.reader.framing ≡ framings.Length number = sym same ∙ e in
      let was : BodyFront (framings.Length number) h.given h.rest = subst (λ (f : Framing). BodyFront f h.given h.rest) stated h.reads.exact.so_far in
      let now : BodyFront (framings.Length number) h.given (h.rest ++ piece) = subst (λ (f : Framing). BodyFront f h.given (h.rest ++ piece)) e reads.exact.so_far in
      let rest_is : here.rest ≡ h.rest = (one heard piece h.rest here.rest h.head here.head h.final here.final).1 ∙ sym now.0 ∙ was.0 in
      let open_yet : length h.rest ≢ number = λ n. not_whole (subst (λ (f : Framing). BodyText f h.given h.rest) (sym stated) (was.0, n)) (λ u. cc (sym stated ∙ u)) in
      rw rest_is (omega (arith, was.1, open_yet))

  -- a part of it is refused
  abbrev pub part_refused : HeadLaws → (reader : BodyReader) (given front more piece : List ℕ) (out : Output) (fault : FetchFault) → piece ≡ front ++ more → length (heard ++ front) ≤ limits.received
      → reader.framing ≡ old.reader.framing → StandsFor reader (record { fed = h.rest ++ front; given = given; ended = false; stop = None })
      → StopsTaking q limits h.head given written out fault → IsRefused q limits heard piece false written out fault
  part_refused heads reader given front more piece out fault whole within same reads t = record {
    front = front;
    more = more;
    whole = whole;
    text = t.text;
    put = t.put;
    sections = t.sections;
    within = within;
    refused = in_body (record {
      head = h.head;
      rest = h.rest ++ front;
      final = heads.final_stays heard front h.rest h.head h.final;
      framed = h.framed;
      given = given;
      front = front_by reader given (h.rest ++ front) same reads;
      stops = t.stops;
    });
    sound = t.sound;
  }

  -- the link ended behind it
  abbrev pub has_ended : BodyText h.head.framing h.given h.rest → length heard ≤ limits.received → (out : Output) (result : Result ⊤ FetchFault) → EndsTaking q limits h.head h.given written out result
      → ContentEnds q limits heard written out result
  has_ended text within out (Ok done) t = answered q limits heard h.rest h.given written h.head out true h.final text (λ e. refl) t
  has_ended text within out (Err fault) t =
      failed q limits heard [] [] [] h.rest h.given written h.head out true fault refl (subst (λ (l : List ℕ). length l ≤ limits.received) (sym (append-nil heard)) within)
      (subst (λ (l : List ℕ). FinalHead l h.head h.rest) (sym (append-nil heard)) h.final) text (λ e. refl) t

  module _ (stands : BodyStands) (S : Type 0) (m : SinkMeaning S) (a : S) (rests : m.wrote a a []) where
    -- it is refused before its next byte
    abbrev pub here : (piece : List ℕ) (ended : Bool) (fault : FetchFault) → length heard ≤ limits.received
        → ((sections : List Section) → IsOpenBody q limits h.head h.given sections written → RefusedBy q limits heard piece ended sections written fault)
        → ((d : Dag) (sections : List Section) → SaysOf q d sections fault) → IsRefused q limits heard piece ended written (into m a a) fault
    here piece ended fault within refused says =
        let o = taking_is_open stands q limits h.head old.sections h.given written h.taking in
        record {
          front = [];
          more = piece;
          whole = refl;
          text = [];
          put = put_nothing S m a rests;
          sections = o.sections;
          within = subst (λ (l : List ℕ). length l ≤ limits.received) (sym (append-nil heard)) within;
          refused = subst (λ (l : List ℕ). RefusedBy q limits l piece ended o.sections (written ++ []) fault) (sym (append-nil heard))
              (subst (λ (t : List ℕ). RefusedBy q limits heard piece ended o.sections t fault) (sym (append-nil written)) (refused o.sections o.body));
          sound = subst (λ (t : List ℕ). ForEachSound q (FrontAndSays q o.sections t fault)) (sym (append-nil written)) (λ d sound root. (o.front d sound root, says d o.sections));
        }

    pub front : BodyFront h.head.framing h.given h.rest
    front = front_by old.reader h.given h.rest refl h.reads

    -- the framing is broken, or memory is wanted
    abbrev pub framing_refused : (piece : List ℕ) (fault : HttpFault) → length heard + length piece ≤ limits.received → HasFeedCause h.head.framing h.rest h.given piece fault
        → IsRefused q limits heard piece false written (into m a a) (fault_of_http fault)
    framing_refused piece https.BadHead few cause = absurd cause
    framing_refused piece https.HeadLimit few cause = absurd cause
    framing_refused piece https.BadFraming few cause =
        here piece false faults.BadFraming (omega (arith, few))
        (λ sections body. breaks refl
        (record {
          head = h.head;
          rest = h.rest;
          final = h.final;
          framed = h.framed;
          given = h.given;
          front = front;
          body = body;
          looked = piece;
          more = [];
          whole = sym (append-nil piece);
          few = few;
          breaks = cause;
        }))
        (λ d sections. tt)
    framing_refused piece https.OutOfMemory few cause =
        here piece false faults.OutOfMemory (omega (arith, few))
        (λ sections body. memory refl (inr (record { head = h.head; rest = h.rest; final = h.final; framed = h.framed; given = h.given; front = front; body = body }))) (λ d sections. tt)

    -- the link ended inside of it
    abbrev pub cut_refused : (fault : HttpFault) → length heard ≤ limits.received → HasEndCause h.head.framing h.rest h.given fault → IsRefused q limits heard [] true written (into m a a) (fault_of_http fault)
    cut_refused https.BadHead few cause = absurd cause
    cut_refused https.HeadLimit few cause = absurd cause
    cut_refused https.OutOfMemory few cause = absurd cause
    cut_refused https.BadFraming few cause =
        here [] true faults.BadFraming few
        (λ sections body. cut_body refl refl refl (record { head = h.head; rest = h.rest; final = h.final; framed = h.framed; given = h.given; inside = cause; body = body })) (λ d sections. tt)
