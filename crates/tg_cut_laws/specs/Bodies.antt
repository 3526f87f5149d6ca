-- The body of a reply has one answer for a query and limits, however it is cut, behind one final head (Trustless Gateway
-- specification, response types and CAR responses).
use Rattle.std.specs.Prelude.{List, length, ⊤, ℕ, ◌++◌, ◌≡◌, ◌≤◌}
use Rattle.tg_cut_laws.specs.Sections.{BeginOne}
use Rattle.tg_fetch.specs.Bodies.{BodyFails, BodyStops, IsOpenBody}
use Rattle.tg_fetch.specs.declared.fault.FetchFault.{FetchFault}
use Rattle.tg_fetch.specs.declared.fault.FetchFault.TheVariants as faults
use Rattle.tg_heard.specs.Carried.{BodyCarries, IsAnswerHead}
use Rattle.tg_http.specs.declared.reply.ReplyHead.{ReplyHead}
use Rattle.tg_model.specs.Dag.{Section}
use Rattle.tg_model.specs.LimitNumbers.{LimitNumbers}
use Rattle.tg_model.specs.Queries.{QueryParts}
use Rattle.tg_verify.specs.Taken.{IsThrough}
use Rattle.tg_verify.specs.declared.fault.Refusal.TheVariants as refusals

-- a refusal of what the reply is: no fault of out, of the peer or of a keeper, and no want of memory
abbrev pub IsDueFault : FetchFault → Type 0
IsDueFault (faults.Refused refusals.SinkFault) = ⊥
IsDueFault (faults.Refused refusals.OutOfMemory) = ⊥
IsDueFault faults.PeerFault = ⊥
IsDueFault faults.KeepFault = ⊥
IsDueFault faults.OutOfMemory = ⊥
IsDueFault other = ⊤

-- behind the head this is a whole body that is the answer, with this text
pub record IsAnswerBody (q : QueryParts) (limits : LimitNumbers) (head : ReplyHead) (body : List ℕ) (sections : List Section) (text : List ℕ) : Type 0 where
  pub is_head : IsAnswerHead q head
  pub carries : BodyCarries q.form q body sections
  pub through : IsThrough q limits sections text

-- two refusals while it comes are one
abbrev pub StopsOnce : Type 0
StopsOnce = (q : QueryParts) (limits : LimitNumbers) (head : ReplyHead) (given came : List ℕ) (a b : List Section) (x y : List ℕ) (f g : FetchFault) → BeginOne given came
    → length given ≤ limits.received → length came ≤ limits.received → IsDueFault f → IsDueFault g
    → BodyStops q limits head given a x f → BodyStops q limits head came b y g → (x ≡ y) × (f ≡ g)

-- of bytes of which nothing is refused no front is
abbrev pub StopsIsNotOpen : Type 0
StopsIsNotOpen = (q : QueryParts) (limits : LimitNumbers) (head : ReplyHead) (given rest : List ℕ) (a b : List Section) (x y : List ℕ) (f : FetchFault)
    → length (given ++ rest) ≤ limits.received → IsDueFault f → BodyStops q limits head given a x f → IsOpenBody q limits head (given ++ rest) b y → ⊥

-- one while it comes and one at its end are one
abbrev pub StopsAsItFails : Type 0
StopsAsItFails = (q : QueryParts) (limits : LimitNumbers) (head : ReplyHead) (given rest : List ℕ) (a b : List Section) (x y : List ℕ) (f g : FetchFault)
    → length (given ++ rest) ≤ limits.received → IsDueFault f → IsDueFault g → BodyStops q limits head given a x f
    → BodyFails q limits head (given ++ rest) b y g → (x ≡ y) × (f ≡ g)

abbrev pub FailsOnce : Type 0
FailsOnce = (q : QueryParts) (limits : LimitNumbers) (head : ReplyHead) (body : List ℕ) (a b : List Section) (x y : List ℕ) (f g : FetchFault) → length body ≤ limits.received
    → IsDueFault f → IsDueFault g → BodyFails q limits head body a x f → BodyFails q limits head body b y g → (x ≡ y) × (f ≡ g)

-- of the answer none is refused, while it comes and at its end
abbrev pub StopsIsNoAnswer : Type 0
StopsIsNoAnswer = (q : QueryParts) (limits : LimitNumbers) (head : ReplyHead) (given rest : List ℕ) (a b : List Section) (x y : List ℕ) (f : FetchFault)
    → length (given ++ rest) ≤ limits.received → IsDueFault f → BodyStops q limits head given a x f → IsAnswerBody q limits head (given ++ rest) b y → ⊥

abbrev pub FailsIsNoAnswer : Type 0
FailsIsNoAnswer = (q : QueryParts) (limits : LimitNumbers) (head : ReplyHead) (body : List ℕ) (a b : List Section) (x y : List ℕ) (f : FetchFault) → length body ≤ limits.received
    → IsDueFault f → BodyFails q limits head body a x f → IsAnswerBody q limits head body b y → ⊥

-- what is written for bytes of which nothing is refused
abbrev pub OpenOnce : Type 0
OpenOnce = (q : QueryParts) (limits : LimitNumbers) (head : ReplyHead) (given : List ℕ) (a b : List Section) (x y : List ℕ) → IsOpenBody q limits head given a x
    → IsOpenBody q limits head given b y → x ≡ y

-- and for the answer
abbrev pub AnswerOnce : Type 0
AnswerOnce = (q : QueryParts) (limits : LimitNumbers) (head : ReplyHead) (body : List ℕ) (a b : List Section) (x y : List ℕ) → IsAnswerBody q limits head body a x
    → IsAnswerBody q limits head body b y → x ≡ y

pub record BodyCutLaws : Type 0 where
  pub stops : StopsOnce
  pub stops_open : StopsIsNotOpen
  pub stops_fails : StopsAsItFails
  pub fails : FailsOnce
  pub stops_answer : StopsIsNoAnswer
  pub fails_answer : FailsIsNoAnswer
  pub is_open : OpenOnce
  pub answer : AnswerOnce
