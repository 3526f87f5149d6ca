-- What the body of an answer stands for: the bytes that it heard, the sections that it took, and what is written for
-- them.
use Rattle.std.specs.Prelude.{Err, List, None, Ok, Option, Result, [], length, ⊤, ℕ, ◌++◌, ◌∷◌, ◌≡◌, ◌≢◌, ◌≤◌, ◌⊎◌}
use Rattle.tg_car.specs.History.{History}
use Rattle.tg_car.specs.State.{StandsFor}
use Rattle.tg_car.specs.declared.event.Event.{Event}
use Rattle.tg_client.specs.Ends.{EndsBy, IsAccepted, IsEndedShort, IsHeldExactly, IsWaiting, IsWithinReceived, SaysFor, Verifies}
use Rattle.tg_client.specs.Received.{HasHeader, HasReceived, IsCarOf, sections_given}
use Rattle.tg_client.specs.declared.body.CarBody.{CarBody}
use Rattle.tg_client.specs.declared.fault.ClientFault.{ClientFault}
use Rattle.tg_client.specs.declared.fault.ClientFault.TheVariants as faults
use Rattle.tg_traversal.specs.Left.{WantedAt}
use Rattle.tg_model.specs.Dag.{Section}
use Rattle.tg_model.specs.LimitNumbers.{LimitNumbers}
use Rattle.tg_model.specs.Queries.{QueryParts}
use Rattle.tg_model.specs.declared.limits.LimitKind.TheVariants as kinds
use Rattle.tg_streams.specs.Streams.{Input, Output, OutputQuiet, OutputRose, Put}
use Rattle.tg_verify.specs.Sound.{ForEachSound, IsItsFront}
use Rattle.tg_verify.specs.State.{count_of}
use Rattle.tg_verify.specs.Taken.{IsFresh, IsGoing, IsThrough, IsUpTo}
use Rattle.tg_verify.specs.declared.fault.Refusal.TheVariants as refusals

-- a reader's history before a refusal
abbrev pub going_on : List ℕ → List Event → History
going_on bytes given = record { fed = bytes; given = given; stop = None }

-- the verifier isn't started before the header is whole
abbrev pub IsBodyAt : CarBody → List Event → List Section → List ℕ → Type 0
IsBodyAt body [] sections written = IsFresh body.verifier × (written ≡ [])
IsBodyAt body (event ∷ given) sections written = IsGoing body.verifier sections written

-- nothing was refused: these bytes were heard, these sections stand whole in them and were taken, and this is written
-- for them
pub record IsBody (body : CarBody) (heard : List ℕ) (sections : List Section) (written : List ℕ) : Type 0 where
  pub given : List Event
  pub reads : StandsFor body.reader (going_on heard given)
  pub sections_are : sections_given given ≡ sections
  pub limit : body.reader.limit ≡ body.verifier.limits.block
  pub most : body.most ≡ body.verifier.limits.received
  pub fresh : body.verifier.refused ≡ None
  pub unrefused : body.refused ≡ None
  pub at : IsBodyAt body given sections written
  -- no byte is heard behind the header and the last wanted section
  pub behind : body.verifier.left.wanted ≡ None → body.reader.came ≡ []
  pub count : body.heard ≡ length heard
  pub within : length heard ≤ body.most

-- a text was put, and nothing was refused
pub record WentOn (body : CarBody) (heard written : List ℕ) (out : Output) : Type 0 where
  pub sections : List Section
  pub text : List ℕ
  pub put : Put text out
  pub is_body : IsBody body heard sections (written ++ text)

-- the last of them was wanted
pub record IsLastWanted (q : QueryParts) (limits : LimitNumbers) (sections : List Section) : Type 0 where
  pub taken : List Section
  pub section : Section
  pub sections_are : sections ≡ taken ++ section ∷ []
  pub text : List ℕ
  pub at : WantedAt
  pub up_to : IsUpTo q limits taken text at

-- the header is whole, and no section was taken, or the last of them was wanted
pub record IsBehindHeader (q : QueryParts) (limits : LimitNumbers) (heard : List ℕ) (sections : List Section) : Type 0 where
  pub header : HasHeader limits.block heard
  pub last : (sections ≡ []) ⊎ IsLastWanted q limits sections

-- nothing is taken before the header is whole, nor behind the last wanted section; and where it isn't whole the root is
-- wanted
abbrev pub IsAfterWanted : QueryParts → LimitNumbers → List ℕ → List Section → ClientFault → Type 0
IsAfterWanted q limits heard sections (faults.Refused (refusals.Extra number)) = ⊤
IsAfterWanted q limits heard sections (faults.Refused (refusals.Limit kinds.Block number)) = ⊤
IsAfterWanted q limits heard sections (faults.Refused (refusals.Limit kinds.Received number)) = ⊤
IsAfterWanted q limits heard sections (faults.Refused (refusals.Truncated want number)) =
    ((want ≡ q.root) × (number ≡ 0)) ⊎ HasHeader limits.block heard
IsAfterWanted q limits heard sections (faults.Refused fault) = IsBehindHeader q limits heard sections
IsAfterWanted q limits heard sections other = ⊤

-- an input of which nothing is known
abbrev pub unknown : Input
unknown = record { took = λ _. ⊥; ended = ⊥; left_old = None; left_new = None; faults_old = 0; faults_new = 0 }

-- one of these sections fewer was taken
pub record IsOneLess (sections : List Section) (taken : ℕ) : Type 0 where
  pub before : List Section
  pub last : Section
  pub sections_are : sections ≡ before ++ last ∷ []
  pub number_is : taken ≡ count_of before

-- how many of these sections are told as taken at a refusal: all; all but the last, which isn't the wanted one; or either,
-- as the refusal comes at the last one's place or behind it
abbrev pub IsTakenBy : ClientFault → List Section → ℕ → Type 0
IsTakenBy (faults.Refused (refusals.Extra number)) sections taken = taken ≡ count_of sections
IsTakenBy (faults.Refused (refusals.Limit kinds.Block number)) sections taken = taken ≡ count_of sections
IsTakenBy (faults.Refused (refusals.Limit kinds.Received number)) sections taken = taken ≡ count_of sections
IsTakenBy (faults.Refused (refusals.Truncated want number)) sections taken = taken ≡ count_of sections
IsTakenBy (faults.Refused (refusals.BadDigest cid)) sections taken = IsOneLess sections taken
IsTakenBy (faults.Refused (refusals.WrongBlock want got)) sections taken = IsOneLess sections taken
IsTakenBy (faults.Refused fault) sections taken = (taken ≡ count_of sections) ⊎ IsOneLess sections taken
IsTakenBy (faults.BadCar fault) sections taken = taken ≡ count_of sections
IsTakenBy faults.InputFault sections taken = taken ≡ count_of sections
IsTakenBy faults.KeepFault sections taken = taken ≡ count_of sections
IsTakenBy faults.OutOfMemory sections taken = (taken ≡ count_of sections) ⊎ IsOneLess sections taken

-- these bytes were heard and those came behind them when there was a refusal; these sections stand whole in what was
-- heard, so many of them are told as taken, and a text was put before
pub record IsStoppedAt (q : QueryParts) (limits : LimitNumbers) (taken : ℕ) (heard unheard : List ℕ) (sections : List Section) (written : List ℕ) (out : Output) (fault : ClientFault) : Type 0 where
  pub within : IsWithinReceived limits heard
  pub received : HasReceived limits.block heard sections
  pub text : List ℕ
  pub put : Put text out
  pub ends : EndsBy q limits unknown heard unheard sections (written ++ text) (Err fault)
  pub sound : ForEachSound q (λ d. SaysFor q d sections (written ++ text) (Err fault))
  pub wanted : IsAfterWanted q limits heard sections fault
  pub counted : IsTakenBy fault sections taken

-- in these bytes there was a refusal, with so many sections told as taken, and a text was put before
pub record IsStopped (q : QueryParts) (limits : LimitNumbers) (taken : ℕ) (bytes written : List ℕ) (out : Output) (fault : ClientFault) : Type 0 where
  pub heard : List ℕ
  pub unheard : List ℕ
  pub whole : bytes ≡ heard ++ unheard
  pub within : IsWithinReceived limits heard
  pub sections : List Section
  pub received : HasReceived limits.block heard sections
  pub text : List ℕ
  pub put : Put text out
  pub ends : EndsBy q limits unknown heard unheard sections (written ++ text) (Err fault)
  pub sound : ForEachSound q (λ d. SaysFor q d sections (written ++ text) (Err fault))
  pub wanted : IsAfterWanted q limits heard sections fault
  pub counted : IsTakenBy fault sections taken

-- how the verification of a CAR ends, and nothing was taken behind the last wanted section
pub record IsVerified (q : QueryParts) (limits : LimitNumbers) (input : Input) (out : Output) (result : Result ⊤ ClientFault) : Type 0 where
  pub verifies : Verifies q limits input out result
  pub wanted : (fault : ClientFault) → result ≡ Err fault → IsAfterWanted q limits verifies.heard verifies.sections fault

-- how it ends where no more bytes come
abbrev pub EndsAt : QueryParts → LimitNumbers → List ℕ → List Section → List ℕ → Result ⊤ ClientFault → Type 0
EndsAt q limits heard sections text (Ok done) = IsAccepted q limits heard sections text
EndsAt q limits heard sections text (Err (faults.Refused (refusals.Truncated want number))) =
    IsEndedShort q limits heard sections text want number
EndsAt q limits heard sections text (Err other) = ⊥

pub record HasEnded (q : QueryParts) (limits : LimitNumbers) (heard : List ℕ) (sections : List Section) (text : List ℕ) (result : Result ⊤ ClientFault) : Type 0 where
  pub received : HasReceived limits.block heard sections
  pub ends : EndsAt q limits heard sections text result
  pub sound : ForEachSound q (λ d. SaysFor q d sections text result)
  pub wanted : (fault : ClientFault) → result ≡ Err fault → IsAfterWanted q limits heard sections fault

-- a fault of out comes where one was counted, and nowhere else; and none is of the input
abbrev pub HasOutCause : Output → ClientFault → Type 0
HasOutCause out faults.InputFault = ⊥
HasOutCause out (faults.Refused refusals.SinkFault) = OutputRose out
HasOutCause out other = OutputQuiet out

-- a refusal where no more bytes come
abbrev pub IsEndFault : ClientFault → Type 0
IsEndFault (faults.Refused (refusals.Truncated want number)) = ⊤
IsEndFault other = ⊥

-- ---- what stands of a CAR of which nothing was refused

-- the sections are whole in what was heard, a block is wanted or all came, with no byte behind; and what is written is a
-- front of each sound DAG's answer
pub record StandsSo (q : QueryParts) (limits : LimitNumbers) (wanted : Option WantedAt) (heard : List ℕ) (sections : List Section) (written : List ℕ) : Type 0 where
  pub received : HasReceived limits.block heard sections
  pub held : IsHeldExactly q limits heard sections written
  pub waits : wanted ≢ None → IsWaiting q limits heard sections written
  pub through : wanted ≡ None → IsThrough q limits sections written × IsCarOf heard sections
  pub front : ForEachSound q (λ d. IsItsFront q d sections written)

abbrev pub BodyStands : Type 0
BodyStands = (body : CarBody) (heard : List ℕ) (sections : List Section) (written : List ℕ) → IsBody body heard sections written
    → StandsSo body.verifier.left.query body.verifier.limits body.verifier.left.wanted heard sections written
