-- Which sections of a reply are kept while it comes: those of the answer's CAR whose CID names their block, in order, each
-- directly before it is verified (Trustless Gateway specification, CAR responses).
use Rattle.std.specs.Prelude.{Bool, Err, List, None, Ok, Result, [], false, true, ⊤, ℕ, ◌++◌, ◌≡◌, ◌⊎◌}
use Rattle.tg_body.specs.Bodies.{BodyFront}
use Rattle.tg_client.specs.Keeping.{AreKept, AreKeptButLast, AreKeptUntilFault}
use Rattle.tg_client.specs.Received.{HasReceived}
use Rattle.tg_dials.specs.Dials.{Dialling}
use Rattle.tg_fetch.specs.Calls.{HeardAnswer, HeardOpen, HeardRefused}
use Rattle.tg_fetch.specs.Clients.{EndedWhole, FedAll, FedMore}
use Rattle.tg_fetch.specs.Received.{HeardIn}
use Rattle.tg_fetch.specs.Replies.{IsRefused}
use Rattle.tg_fetch.specs.declared.client.Client.{Client}
use Rattle.tg_fetch.specs.declared.fault.FetchFault.{FetchFault}
use Rattle.tg_fetch.specs.declared.fault.FetchFault.TheVariants as faults
use Rattle.tg_heard.specs.Carried.{IsAnswerHead}
use Rattle.tg_heard.specs.FinalHeads.{FinalHead}
use Rattle.tg_http.specs.declared.reply.ReplyHead.{ReplyHead}
use Rattle.tg_model.specs.Dag.{Section}
use Rattle.tg_model.specs.LimitNumbers.{LimitNumbers}
use Rattle.tg_model.specs.Queries.{QueryParts}
use Rattle.tg_model.specs.Stores.{Keeping, KeepingQuiet, KeepingRose}
use Rattle.tg_model.specs.declared.queries.Form.{Form}
use Rattle.tg_model.specs.declared.queries.Form.TheVariants as forms
use Rattle.tg_streams.specs.Streams.{Output, OutputQuiet, OutputRose, Put}
use Rattle.tg_verify.specs.declared.fault.Refusal.TheVariants as refusals
use Rattle.tg_verify.specs.declared.verifier.Progress.{Progress}
use Rattle.tg_verify.specs.declared.verifier.Progress.TheVariants as progresses

-- the final head is whole in these bytes of a reply, and its body is the answer's CAR
pub record IsAnswerCar (q : QueryParts) (heard : List ℕ) : Type 0 where
  pub form : q.form ≡ forms.Car
  pub head : ReplyHead
  pub rest : List ℕ
  pub final : FinalHead heard head rest
  pub is_head : IsAnswerHead q head

-- these sections of an answer's CAR stand whole in the bytes of a reply that is still open; of one that is no such CAR none
-- are kept, so that it counts as having none
pub data StandIn (q : QueryParts) (limits : LimitNumbers) (heard : List ℕ) (sections : List Section) : Type 0 where
  outside : (IsAnswerCar q heard → ⊥) → sections ≡ [] → StandIn q limits heard sections
  inside : (car : IsAnswerCar q heard) (given : List ℕ) → BodyFront car.head.framing given car.rest → HasReceived limits.block given sections
      → StandIn q limits heard sections

-- which of the sections that came were kept at a refusal: all; or all but the one that its CID doesn't name; or all up to the
-- one at which the keeper failed
abbrev pub AreKeptBy : FetchFault → List Section → Keeping → Type 0
AreKeptBy faults.KeepFault came keeping = AreKeptUntilFault came keeping
AreKeptBy (faults.Refused (refusals.BadDigest cid)) came keeping = AreKeptButLast came cid keeping
AreKeptBy fault came keeping = AreKept came keeping

-- Of these sections of a reply those before them were kept before, and the others were kept now: so it is of an answer's CAR;
-- of no other reply, and of none in which no section stands whole, any is kept.
pub data KeepsBehind (q : QueryParts) (heard : List ℕ) (before all : List Section) (AreKeptNow : List Section → Keeping → Type 0) (keeping : Keeping) : Type 0 where
  none : all ≡ [] → before ≡ [] → AreKept [] keeping → KeepsBehind q heard before all AreKeptNow keeping
  outside : (IsAnswerCar q heard → ⊥) → AreKept [] keeping → KeepsBehind q heard before all AreKeptNow keeping
  inside : IsAnswerCar q heard → (came : List Section) → all ≡ before ++ came → AreKeptNow came keeping → KeepsBehind q heard before all AreKeptNow keeping

-- a fault of out or of the keeper comes where one was counted, and nowhere else
abbrev pub HasFaultCause : {A : Type 0} → Output → Keeping → Result A FetchFault → Type 0
HasFaultCause out keeping (Err (faults.Refused refusals.SinkFault)) = OutputRose out × KeepingQuiet keeping
HasFaultCause out keeping (Err faults.KeepFault) = OutputQuiet out × KeepingRose keeping
HasFaultCause out keeping result = OutputQuiet out × KeepingQuiet keeping

-- ---- a piece is fed, behind bytes in which these sections stand whole

-- more is wanted: those that came with the piece were kept
pub record KeptMore (client : Client) (heard : List ℕ) (before : List Section) (written : List ℕ) (out : Output) (keeping : Keeping) : Type 0 where
  pub fed : FedMore client heard written out
  pub came : List Section
  pub stand : StandIn client.query client.limits heard (before ++ came)
  pub kept : AreKept came keeping

-- the reply is the answer: so were they, up to its last section
pub record KeptAll (q : QueryParts) (limits : LimitNumbers) (heard piece : List ℕ) (before : List Section) (written : List ℕ) (out : Output) (keeping : Keeping) : Type 0 where
  pub fed : FedAll q limits heard piece written out
  pub kept : KeepsBehind q (heard ++ fed.front) before fed.sections AreKept keeping

-- or it is refused
pub record KeptRefused (q : QueryParts) (limits : LimitNumbers) (heard piece : List ℕ) (before : List Section) (written : List ℕ) (out : Output) (keeping : Keeping) (fault : FetchFault) : Type 0 where
  pub refused : IsRefused q limits heard piece false written out fault
  pub kept : KeepsBehind q (heard ++ refused.front) before refused.sections (AreKeptBy fault) keeping

abbrev pub FeedKeeps : Client → List ℕ → List ℕ → List Section → List ℕ → Output → Keeping → Result Progress FetchFault → Type 0
FeedKeeps client heard piece before written out keeping (Ok progresses.More) = KeptMore client (heard ++ piece) before written out keeping
FeedKeeps client heard piece before written out keeping (Ok progresses.Done) =
    KeptAll client.query client.limits heard piece before written out keeping
FeedKeeps client heard piece before written out keeping (Err fault) =
    KeptRefused client.query client.limits heard piece before written out keeping fault

-- ---- the link has ended

-- where no keeper has a part nothing is kept
abbrev pub unkept : Keeping
unkept = record { kept = λ sections. sections ≡ []; stored_old = None; stored_new = None; faults_old = 0; faults_new = 0 }

-- the reply is the answer: its sections were kept
pub record KeptEnded (q : QueryParts) (limits : LimitNumbers) (heard : List ℕ) (before : List Section) (written : List ℕ) (out : Output) (keeping : Keeping) : Type 0 where
  pub ended : EndedWhole q limits heard written out
  pub kept : KeepsBehind q heard before ended.sections AreKept keeping

-- or it is refused
pub record KeptCut (q : QueryParts) (limits : LimitNumbers) (heard : List ℕ) (before : List Section) (written : List ℕ) (out : Output) (keeping : Keeping) (fault : FetchFault) : Type 0 where
  pub refused : IsRefused q limits heard [] true written out fault
  pub kept : KeepsBehind q (heard ++ refused.front) before refused.sections (AreKeptBy fault) keeping

abbrev pub EndKeeps : QueryParts → LimitNumbers → List ℕ → List Section → List ℕ → Output → Keeping → Result ⊤ FetchFault → Type 0
EndKeeps q limits heard before written out keeping (Ok done) = KeptEnded q limits heard before written out keeping
EndKeeps q limits heard before written out keeping (Err fault) = KeptCut q limits heard before written out keeping fault

-- ---- a call

-- the reply is the answer, and of a CAR its sections were kept; of a raw block none is
abbrev pub AreKeptOf : Form → List Section → Keeping → Type 0
AreKeptOf forms.Car sections keeping = AreKept sections keeping
AreKeptOf forms.Raw sections keeping = AreKept [] keeping

pub record KeptAnswer (q : QueryParts) (limits : LimitNumbers) (heard : List ℕ) (over : Bool) (out : Output) (keeping : Keeping) : Type 0 where
  pub answer : HeardAnswer q limits heard over out
  pub kept : AreKeptOf q.form answer.sections keeping

-- it is refused, or the link failed before its end: of an answer's CAR those sections were kept that came until then
pub record KeptUntil (q : QueryParts) (limits : LimitNumbers) (heard : List ℕ) (over : Bool) (out : Output) (keeping : Keeping) (fault : FetchFault) : Type 0 where
  pub refused : HeardRefused q limits heard over out fault
  pub kept : KeepsBehind q refused.front [] refused.sections (AreKeptBy fault) keeping

pub record KeptOpen (q : QueryParts) (limits : LimitNumbers) (heard : List ℕ) (out : Output) (keeping : Keeping) : Type 0 where
  pub is_open : HeardOpen q limits heard out
  pub kept : KeepsBehind q heard [] is_open.sections AreKept keeping

abbrev pub HeardKeeping : QueryParts → LimitNumbers → List ℕ → Bool → Output → Keeping → Result ⊤ FetchFault → Type 0
HeardKeeping q limits heard over out keeping (Ok done) = KeptAnswer q limits heard over out keeping
HeardKeeping q limits heard over out keeping (Err faults.PeerFault) = KeptOpen q limits heard out keeping
HeardKeeping q limits heard over out keeping (Err fault) = KeptUntil q limits heard over out keeping fault

-- no reply was heard: the peer wasn't reached, or the link failed in the request, or memory was wanted; nothing was put or kept
abbrev pub IsUnasked : Result ⊤ FetchFault → Type 0
IsUnasked (Err faults.PeerFault) = ⊤
IsUnasked (Err faults.OutOfMemory) = ⊤
IsUnasked result = ⊥

pub record KeptNone (out : Output) (keeping : Keeping) (result : Result ⊤ FetchFault) : Type 0 where
  pub unput : Put [] out
  pub kept : AreKept [] keeping
  pub why : IsUnasked result

-- this was heard, as far as the dial tells the call, and of it these sections were kept
pub record KeptHeard (q : QueryParts) (limits : LimitNumbers) (dial : Dialling) (out : Output) (keeping : Keeping) (result : Result ⊤ FetchFault) : Type 0 where
  pub heard : List ℕ
  pub heard_in : HeardIn dial heard
  pub over : Bool
  pub keeps : HeardKeeping q limits heard over out keeping result

abbrev pub FetchKeeps : QueryParts → LimitNumbers → Dialling → Output → Keeping → Result ⊤ FetchFault → Type 0
FetchKeeps q limits dial out keeping result = KeptHeard q limits dial out keeping result ⊎ KeptNone out keeping result
