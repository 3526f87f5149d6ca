-- How a reply goes on and how it ends, by the bytes that came of it (RFC 9110, section 15; RFC 9112, sections 2 to 8).
use Rattle.std.specs.Prelude.{Bool, ◌+◌, Err, List, None, Ok, Result, [], false, length, true, ⊤, ℕ, ◌++◌, ◌<◌, ◌≡◌, ◌≢◌, ◌≤◌, ◌⊎◌}
use Rattle.tg_body.specs.Bodies.{BodyFront, BodyText}
use Rattle.tg_body.specs.History.{EndsInside, HasFeedCause}
use Rattle.tg_body.specs.State.{StandsFor}
use Rattle.tg_fetch.specs.Bodies.{BodyFails, BodyStops, FrontAndSays, IsOpenBody, IsTaking}
use Rattle.tg_fetch.specs.declared.content.Content.{Content}
use Rattle.tg_fetch.specs.declared.content.Move.{Move}
use Rattle.tg_fetch.specs.declared.content.Move.TheVariants as moves
use Rattle.tg_fetch.specs.declared.fault.FetchFault.{FetchFault}
use Rattle.tg_fetch.specs.declared.fault.FetchFault.TheVariants as faults
use Rattle.tg_heard.specs.Carried.{Carries, HasAskedType, IsAbsenceHead}
use Rattle.tg_heard.specs.FinalHeads.{FinalHead, HasBadHead, IsOpenHead}
use Rattle.tg_http.specs.declared.fault.HttpFault.TheVariants as https
use Rattle.tg_http.specs.declared.framing.Framing.TheVariants as framings
use Rattle.tg_http.specs.declared.reply.ReplyHead.{ReplyHead}
use Rattle.tg_model.specs.Dag.{Section}
use Rattle.tg_model.specs.LimitNumbers.{LimitNumbers}
use Rattle.tg_model.specs.Queries.{QueryParts}
use Rattle.tg_model.specs.declared.limits.LimitKind.TheVariants as kinds
use Rattle.tg_streams.specs.Streams.{Output, Put}
use Rattle.tg_verify.specs.Sound.{ForEachSound, IsItsAnswer}
use Rattle.tg_verify.specs.Taken.{IsThrough}
use Rattle.tg_verify.specs.declared.fault.Refusal.TheVariants as refusals

-- ---- a reply that goes on

-- these bytes of a reply are a front of one of which nothing is refused: the final head isn't whole, or the body isn't; these
-- sections stand whole in it, and this text is written for them
pub record IsOpenBehind (q : QueryParts) (limits : LimitNumbers) (heard : List ℕ) (sections : List Section) (text : List ℕ) : Type 0 where
  pub head : ReplyHead
  pub rest : List ℕ
  pub final : FinalHead heard head rest
  pub framed : head.framing ≢ framings.Broken
  pub given : List ℕ
  pub front : BodyFront head.framing given rest
  pub body : IsOpenBody q limits head given sections text

-- and a body of stated length isn't whole
pub record IsShortBehind (q : QueryParts) (limits : LimitNumbers) (heard : List ℕ) (sections : List Section) (text : List ℕ) : Type 0 where
  pub behind : IsOpenBehind q limits heard sections text
  pub short : (number : ℕ) → behind.head.framing ≡ framings.Length number → length behind.rest < number

pub record IsOpenBefore (heard : List ℕ) (sections : List Section) (text : List ℕ) : Type 0 where
  pub is_open : IsOpenHead heard
  pub no_section : sections ≡ []
  pub no_text : text ≡ []

abbrev pub IsOpenReply : QueryParts → LimitNumbers → List ℕ → List Section → List ℕ → Type 0
IsOpenReply q limits heard sections text = IsOpenBefore heard sections text ⊎ IsOpenBehind q limits heard sections text

-- ---- a reply that is the answer

-- the reply carries these sections, which are all of the query's, and their text is written; and it is no longer than may be
-- received
pub record IsAnswered (q : QueryParts) (limits : LimitNumbers) (heard : List ℕ) (ended : Bool) (sections : List Section) (text : List ℕ) : Type 0 where
  pub carries : Carries heard ended q sections
  pub through : IsThrough q limits sections text
  pub within : length heard ≤ limits.received

-- ---- a final head behind which no body is taken

-- the first of these that holds: a status that is neither 200 nor an absence's; no framing; another type, or a coding; and
-- want of memory is free
abbrev pub HeadStops : QueryParts → ReplyHead → FetchFault → Type 0
HeadStops q head (faults.Status status) = (status ≡ head.status) × (head.status ≢ 200) × (IsAbsenceHead q head → ⊥)
HeadStops q head faults.BadFraming = ((head.status ≡ 200) ⊎ IsAbsenceHead q head) × (head.framing ≡ framings.Broken)
HeadStops q head faults.BadType = (head.status ≡ 200) × (head.framing ≢ framings.Broken) × (HasAskedType q head → ⊥)
HeadStops q head faults.OutOfMemory = ⊤
HeadStops q head other = ⊥

-- ---- why a reply is refused

-- it is refused at its final head, which is whole in these bytes, with nothing behind it
pub record RefusedAtHead (q : QueryParts) (heard : List ℕ) (fault : FetchFault) : Type 0 where
  pub head : ReplyHead
  pub final : FinalHead heard head []
  pub stops : HeadStops q head fault

-- its body, of which this came, is refused
pub record RefusedInBody (q : QueryParts) (limits : LimitNumbers) (heard : List ℕ) (sections : List Section) (text : List ℕ) (fault : FetchFault) : Type 0 where
  pub head : ReplyHead
  pub rest : List ℕ
  pub final : FinalHead heard head rest
  pub framed : head.framing ≢ framings.Broken
  pub given : List ℕ
  pub front : BodyFront head.framing given rest
  pub stops : BodyStops q limits head given sections text fault

-- its body is whole, and isn't accepted; where it goes on until the link closes, the link ended
pub record RefusedAtEnd (q : QueryParts) (limits : LimitNumbers) (heard : List ℕ) (ended : Bool) (sections : List Section) (text : List ℕ) (fault : FetchFault) : Type 0 where
  pub head : ReplyHead
  pub rest : List ℕ
  pub final : FinalHead heard head rest
  pub given : List ℕ
  pub body_is : BodyText head.framing given rest
  pub closed : head.framing ≡ framings.UntilClose → ended ≡ true
  pub fails : BodyFails q limits head given sections text fault

-- a byte behind these, one of those that may be received, breaks the framing; or the link ended inside the body
pub record BreaksFraming (q : QueryParts) (limits : LimitNumbers) (heard unheard : List ℕ) (sections : List Section) (text : List ℕ) : Type 0 where
  pub head : ReplyHead
  pub rest : List ℕ
  pub final : FinalHead heard head rest
  pub framed : head.framing ≢ framings.Broken
  pub given : List ℕ
  pub front : BodyFront head.framing given rest
  pub body : IsOpenBody q limits head given sections text
  pub looked : List ℕ
  pub more : List ℕ
  pub whole : unheard ≡ looked ++ more
  pub few : length heard + length looked ≤ limits.received
  pub breaks : HasFeedCause head.framing rest given looked https.BadFraming

pub record EndsInBody (q : QueryParts) (limits : LimitNumbers) (heard : List ℕ) (sections : List Section) (text : List ℕ) : Type 0 where
  pub head : ReplyHead
  pub rest : List ℕ
  pub final : FinalHead heard head rest
  pub framed : head.framing ≢ framings.Broken
  pub given : List ℕ
  pub inside : EndsInside head.framing given rest
  pub body : IsOpenBody q limits head given sections text

-- as many bytes came as may be received, and a further one
pub record IsPastReceived (q : QueryParts) (limits : LimitNumbers) (heard unheard : List ℕ) (sections : List Section) (text : List ℕ) : Type 0 where
  pub heard_is : length heard ≡ limits.received
  pub some : 0 < length unheard
  pub is_open : IsOpenBefore heard sections text ⊎ IsShortBehind q limits heard sections text

-- The reply whose bytes these are is refused behind the first of them, and the others aren't looked at further than to see
-- why; or the link ended behind them. No bytes but those that may be received are in the first. Want of memory comes in
-- heads and for a line of chunks too.
pub data RefusedBy (q : QueryParts) (limits : LimitNumbers) (heard unheard : List ℕ) (ended : Bool) (sections : List Section) (text : List ℕ) (fault : FetchFault) : Type 0 where
  bad_head : fault ≡ faults.BadReplyHead → HasBadHead heard → sections ≡ [] → text ≡ []
      → RefusedBy q limits heard unheard ended sections text fault
  cut_head : fault ≡ faults.BadReplyHead → ended ≡ true → unheard ≡ [] → IsOpenHead heard → sections ≡ [] → text ≡ []
      → RefusedBy q limits heard unheard ended sections text fault
  at_head : RefusedAtHead q heard fault → sections ≡ [] → text ≡ [] → RefusedBy q limits heard unheard ended sections text fault
  in_body : RefusedInBody q limits heard sections text fault → RefusedBy q limits heard unheard ended sections text fault
  at_end : RefusedAtEnd q limits heard ended sections text fault → RefusedBy q limits heard unheard ended sections text fault
  breaks : fault ≡ faults.BadFraming → BreaksFraming q limits heard unheard sections text
      → RefusedBy q limits heard unheard ended sections text fault
  cut_body : fault ≡ faults.BadFraming → ended ≡ true → unheard ≡ [] → EndsInBody q limits heard sections text
      → RefusedBy q limits heard unheard ended sections text fault
  past : fault ≡ faults.Refused (refusals.Limit kinds.Received limits.received) → IsPastReceived q limits heard unheard sections text
      → RefusedBy q limits heard unheard ended sections text fault
  memory : fault ≡ faults.OutOfMemory → IsOpenReply q limits heard sections text
      → RefusedBy q limits heard unheard ended sections text fault

-- ---- the body behind a final head, by a value

-- these bytes of the reply came, up to somewhere in its body, and this is written for them
pub record IsInContent (q : QueryParts) (limits : LimitNumbers) (content : Content) (heard written : List ℕ) : Type 0 where
  pub head : ReplyHead
  pub rest : List ℕ
  pub final : FinalHead heard head rest
  pub framing : content.reader.framing ≡ head.framing
  pub framed : head.framing ≢ framings.Broken
  pub given : List ℕ
  pub reads : StandsFor content.reader (record { fed = rest; given = given; ended = false; stop = None })
  pub taking : IsTaking q limits head content.sections given written

-- a body of stated length isn't whole in it
abbrev pub IsShortIn : QueryParts → LimitNumbers → Content → List ℕ → Type 0
IsShortIn q limits content heard = (written : List ℕ) (here : IsInContent q limits content heard written) (number : ℕ)
    → content.reader.framing ≡ framings.Length number → length here.rest < number

-- a body of which nothing came
pub record MovesOn (q : QueryParts) (limits : LimitNumbers) (head : ReplyHead) (content : Content) : Type 0 where
  pub framing : content.reader.framing ≡ head.framing
  pub framed : head.framing ≢ framings.Broken
  pub reads : StandsFor content.reader (record { fed = []; given = []; ended = false; stop = None })
  pub taking : IsTaking q limits head content.sections [] []

-- a text was put, and it goes on behind these bytes
pub record ContentGoesOn (q : QueryParts) (limits : LimitNumbers) (content : Content) (heard written : List ℕ) (out : Output) : Type 0 where
  pub text : List ℕ
  pub put : Put text out
  pub in_content : IsInContent q limits content heard (written ++ text)

-- or the reply is the answer
pub record HasAnswered (q : QueryParts) (limits : LimitNumbers) (heard : List ℕ) (ended : Bool) (written : List ℕ) (out : Output) : Type 0 where
  pub text : List ℕ
  pub put : Put text out
  pub sections : List Section
  pub carries : Carries heard ended q sections
  pub through : IsThrough q limits sections (written ++ text)
  pub sound : ForEachSound q (λ d. IsItsAnswer q d sections (written ++ text))

abbrev pub ContentSteps : QueryParts → LimitNumbers → Content → List ℕ → List ℕ → Output → Move → Type 0
ContentSteps q limits content heard written out moves.On = ContentGoesOn q limits content heard written out
ContentSteps q limits content heard written out moves.Wait = ContentGoesOn q limits content heard written out
ContentSteps q limits content heard written out moves.Done = HasAnswered q limits heard false written out

-- a text was put, and the reply is refused in a piece behind what was heard, which is no more than may be received
pub record IsRefused (q : QueryParts) (limits : LimitNumbers) (heard piece : List ℕ) (ended : Bool) (written : List ℕ) (out : Output) (fault : FetchFault) : Type 0 where
  pub front : List ℕ
  pub more : List ℕ
  pub whole : piece ≡ front ++ more
  pub text : List ℕ
  pub put : Put text out
  pub sections : List Section
  pub within : length (heard ++ front) ≤ limits.received
  pub refused : RefusedBy q limits (heard ++ front) more ended sections (written ++ text) fault
  pub sound : ForEachSound q (FrontAndSays q sections (written ++ text) fault)

abbrev pub ContentStops : QueryParts → LimitNumbers → List ℕ → List ℕ → List ℕ → Output → FetchFault → Type 0
ContentStops q limits heard piece written out fault = IsRefused q limits heard piece false written out fault

abbrev pub ContentEnds : QueryParts → LimitNumbers → List ℕ → List ℕ → Output → Result ⊤ FetchFault → Type 0
ContentEnds q limits heard written out (Ok done) = HasAnswered q limits heard true written out
ContentEnds q limits heard written out (Err fault) = IsRefused q limits heard [] true written out fault
