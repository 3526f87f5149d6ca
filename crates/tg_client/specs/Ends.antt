-- How the verification of a CAR on an input ends.
use Rattle.std.specs.Prelude.{Err, List, Ok, Result, [], length, ⊤, ℕ, ◌++◌, ◌<◌, ◌∷◌, ◌≡◌, ◌≤◌, ◌⊎◌}
use Rattle.tg_car.specs.Faults.{Brings, PassesLimit}
use Rattle.tg_car.specs.History.{GoesOn}
use Rattle.tg_cid.specs.Cid.{CidParts}
use Rattle.tg_car.specs.declared.fault.CarFault.{CarFault}
use Rattle.tg_car.specs.declared.fault.CarFault.TheVariants as cars
use Rattle.tg_client.specs.Received.{HasHeader, HasReceived, IsCarOf}
use Rattle.tg_client.specs.ReceivedLaws.{IsNoCar}
use Rattle.tg_client.specs.declared.fault.ClientFault.{ClientFault}
use Rattle.tg_client.specs.declared.fault.ClientFault.TheVariants as faults
use Rattle.tg_traversal.specs.Left.{WantedAt}
use Rattle.tg_model.specs.Dag.{Dag, Section}
use Rattle.tg_model.specs.LimitNumbers.{LimitNumbers}
use Rattle.tg_model.specs.Queries.{QueryParts}
use Rattle.tg_model.specs.declared.limits.LimitKind.TheVariants as kinds
use Rattle.tg_streams.specs.Streams.{Ended, Input, InputQuiet, InputRose, Output, OutputQuiet, OutputRose, Put, Took}
use Rattle.tg_verify.specs.Refusals.{HasRefused, IsCutShort, IsNamedBlock}
use Rattle.tg_verify.specs.Sound.{ForEachSound, IsItsAnswer, IsItsFront, SaysOfDag}
use Rattle.tg_verify.specs.State.{count_of}
use Rattle.tg_verify.specs.Taken.{IsThrough, IsUpTo}
use Rattle.tg_verify.specs.declared.fault.Refusal.{Refusal}
use Rattle.tg_model.specs.declared.stores.KeepFault.{KeepFault}
use Rattle.tg_model.specs.declared.stores.KeepFault.TheVariants as keeps
use Rattle.tg_verify.specs.declared.fault.Refusal.TheVariants as refusals

-- ---- what was heard

-- the header isn't whole, and nothing was opened
pub record IsBeforeHeader (limits : LimitNumbers) (heard : List ℕ) (sections : List Section) (text : List ℕ) : Type 0 where
  pub goes_on : GoesOn limits.block heard []
  pub no_section : sections ≡ []
  pub no_text : text ≡ []

-- the header is whole, the sections were taken, nothing was refused, and a block is wanted; or the header isn't whole
abbrev pub IsWaiting : QueryParts → LimitNumbers → List ℕ → List Section → List ℕ → Type 0
IsWaiting q limits heard sections text =
    IsBeforeHeader limits heard sections text ⊎ ((at : WantedAt) × IsUpTo q limits sections text at × HasHeader limits.block heard)

-- or all came
abbrev pub IsHeld : QueryParts → LimitNumbers → List ℕ → List Section → List ℕ → Type 0
IsHeld q limits heard sections text = IsWaiting q limits heard sections text ⊎ IsThrough q limits sections text

-- or all came, and what was heard is the CAR of these sections, with no byte behind the last of them
abbrev pub IsHeldExactly : QueryParts → LimitNumbers → List ℕ → List Section → List ℕ → Type 0
IsHeldExactly q limits heard sections text =
    IsWaiting q limits heard sections text ⊎ (IsThrough q limits sections text × IsCarOf heard sections)

-- no more bytes come: a block is wanted, or the header isn't whole, where the root is
abbrev pub IsEndedShort : QueryParts → LimitNumbers → List ℕ → List Section → List ℕ → CidParts → ℕ → Type 0
IsEndedShort q limits heard sections text want number =
    (IsBeforeHeader limits heard sections text × (want ≡ q.root) × (number ≡ 0))
    ⊎ ((at : WantedAt) × (want ≡ at.cid) × IsCutShort q limits sections text at number × HasHeader limits.block heard)

-- all sections came, and bytes behind them, of which the first may be received
pub record HasSurplus (q : QueryParts) (limits : LimitNumbers) (bytes : List ℕ) (sections : List Section) (text : List ℕ) (number : ℕ) : Type 0 where
  pub through : IsThrough q limits sections text
  pub number_is : number ≡ count_of sections
  pub car : List ℕ
  pub more : List ℕ
  pub whole : bytes ≡ car ++ more
  pub some : 0 < length more
  pub is_car : IsCarOf car sections
  pub within : length car < limits.received

-- so many bytes were heard as may be, none of them behind the last wanted section, and a further one came
pub record IsPastReceived (q : QueryParts) (limits : LimitNumbers) (heard unheard : List ℕ) (sections : List Section) (text : List ℕ) (number : ℕ) : Type 0 where
  pub number_is : number ≡ limits.received
  pub heard_is : length heard ≡ number
  pub some : 0 < length unheard
  pub held : IsHeldExactly q limits heard sections text

-- a block is wanted, or the header isn't whole, and with the next byte, which may be received, this holds of what was
-- heard
pub record IsBrokenBy (q : QueryParts) (limits : LimitNumbers) (heard unheard : List ℕ) (sections : List Section) (text : List ℕ) (why : List ℕ → Type 0) : Type 0 where
  pub waits : IsWaiting q limits heard sections text
  pub last : ℕ
  pub more : List ℕ
  pub unheard_is : unheard ≡ last ∷ more
  pub brings : why (heard ++ last ∷ [])
  pub within : length heard < limits.received

-- a block is wanted, and with the next bytes, which may be received, a section stands whole whose CID names its block; it
-- isn't kept
pub record IsUnkept (q : QueryParts) (limits : LimitNumbers) (heard unheard : List ℕ) (sections : List Section) (text : List ℕ) : Type 0 where
  pub at : WantedAt
  pub up_to : IsUpTo q limits sections text at
  pub header : HasHeader limits.block heard
  pub front : List ℕ
  pub more : List ℕ
  pub unheard_is : unheard ≡ front ++ more
  pub section : Section
  pub received : HasReceived limits.block (heard ++ front) (sections ++ section ∷ [])
  pub named : IsNamedBlock limits section
  pub within : length (heard ++ front) ≤ limits.received

-- the input has ended, and all of it was heard
pub record IsAllHeard (unheard : List ℕ) (input : Input) : Type 0 where
  pub all : unheard ≡ []
  pub ended : Ended input

-- ---- how each answer comes

-- accepted: the input is a CAR of all sections that the query asks for, and their text is what was put
pub record IsAccepted (q : QueryParts) (limits : LimitNumbers) (heard : List ℕ) (sections : List Section) (text : List ℕ) : Type 0 where
  pub is_car : IsCarOf heard sections
  pub through : IsThrough q limits sections text
  pub within : length heard ≤ limits.received

abbrev pub EndsBy : QueryParts → LimitNumbers → Input → List ℕ → List ℕ → List Section → List ℕ → Result ⊤ ClientFault
    → Type 0
EndsBy q limits input heard unheard sections text (Ok done) =
    IsAllHeard unheard input × IsAccepted q limits heard sections text
EndsBy q limits input heard unheard sections text (Err (faults.Refused (refusals.Extra number))) =
    (HasSurplus q limits (heard ++ unheard) sections text number)
EndsBy q limits input heard unheard sections text (Err (faults.Refused (refusals.Limit kinds.Received number))) =
    (IsPastReceived q limits heard unheard sections text number)
EndsBy q limits input heard unheard sections text (Err (faults.Refused (refusals.Limit kinds.Block number))) =
    ((number ≡ limits.block) × IsBrokenBy q limits heard unheard sections text (λ bytes. (place : ℕ) × PassesLimit limits.block bytes place))
EndsBy q limits input heard unheard sections text (Err (faults.Refused (refusals.Truncated want number))) =
    IsAllHeard unheard input × IsEndedShort q limits heard sections text want number
EndsBy q limits input heard unheard sections text (Err (faults.Refused refusals.OutOfMemory)) = ⊥
EndsBy q limits input heard unheard sections text (Err (faults.Refused fault)) =
    (HasRefused q limits sections text fault)
EndsBy q limits input heard unheard sections text (Err (faults.BadCar fault)) =
    (IsNoCar fault × IsBrokenBy q limits heard unheard sections text (λ bytes. Brings limits.block bytes fault))
EndsBy q limits input heard unheard sections text (Err faults.InputFault) =
    ((unheard ≡ []) × IsHeld q limits heard sections text)
EndsBy q limits input heard unheard sections text (Err faults.KeepFault) = IsUnkept q limits heard unheard sections text
EndsBy q limits input heard unheard sections text (Err faults.OutOfMemory) =
    (HasRefused q limits sections text refusals.OutOfMemory ⊎ IsHeld q limits heard sections text)

-- no more was heard than may be received
abbrev pub IsWithinReceived : LimitNumbers → List ℕ → Type 0
IsWithinReceived limits heard = length heard ≤ limits.received

-- what an answer says of a sound DAG: its answer, or a front of it; and what a refusal says of it
abbrev pub SaysFor : QueryParts → Dag → List Section → List ℕ → Result ⊤ ClientFault → Type 0
SaysFor q d sections text (Ok done) = IsItsAnswer q d sections text
SaysFor q d sections text (Err (faults.Refused fault)) = IsItsFront q d sections text × SaysOfDag q d sections fault
SaysFor q d sections text (Err other) = IsItsFront q d sections text

-- the bytes that were heard, and those of the last piece behind them; the sections that stand whole in what was heard;
-- the text that was put; how it ended; and what that says of each sound DAG with the query's root
pub record Verifies (q : QueryParts) (limits : LimitNumbers) (input : Input) (out : Output) (result : Result ⊤ ClientFault) : Type 0 where
  pub heard : List ℕ
  pub unheard : List ℕ
  pub took : Took (heard ++ unheard) input
  pub within : IsWithinReceived limits heard
  pub sections : List Section
  pub received : HasReceived limits.block heard sections
  pub text : List ℕ
  pub put : Put text out
  pub ends : EndsBy q limits input heard unheard sections text result
  pub sound : ForEachSound q (λ d. SaysFor q d sections text result)

-- faults of the input and of out come where one was counted, and nowhere else; and none is of a keeper
abbrev pub HasStreamCause : Input → Output → Result ⊤ ClientFault → Type 0
HasStreamCause input out (Err faults.InputFault) = InputRose input × OutputQuiet out
HasStreamCause input out (Err faults.KeepFault) = ⊥
HasStreamCause input out (Err (faults.Refused refusals.SinkFault)) = InputQuiet input × OutputRose out
HasStreamCause input out result = InputQuiet input × OutputQuiet out

-- ---- of an input that tells its bytes

-- a counted fault, or want of memory
abbrev pub IsOwnEnd : ClientFault → Type 0
IsOwnEnd faults.InputFault = ⊤
IsOwnEnd faults.KeepFault = ⊤
IsOwnEnd faults.OutOfMemory = ⊤
IsOwnEnd (faults.Refused refusals.SinkFault) = ⊤
IsOwnEnd other = ⊥

-- accepted, but for those
abbrev pub IsAcceptedElse : Result ⊤ ClientFault → Type 0
IsAcceptedElse (Ok done) = ⊤
IsAcceptedElse (Err fault) = IsOwnEnd fault

-- refused for this, but for those
abbrev pub IsRefusedElse : Refusal → Result ⊤ ClientFault → Type 0
IsRefusedElse refusal (Ok done) = ⊥
IsRefusedElse refusal (Err fault) = (fault ≡ faults.Refused refusal) ⊎ IsOwnEnd fault

-- ---- faults from below

-- a refusal of the verifier; its want of memory is the client's own
abbrev pub fault_of_refusal : Refusal → ClientFault
fault_of_refusal refusals.OutOfMemory = faults.OutOfMemory
fault_of_refusal refusal = faults.Refused refusal

-- a fault of the CAR; a section that declares too large a block is a limit's refusal, and want of memory is the
-- client's own
abbrev pub fault_of_car : CarFault → ClientFault
fault_of_car (cars.BlockLimit at number) = faults.Refused (refusals.Limit kinds.Block number)
fault_of_car cars.OutOfMemory = faults.OutOfMemory
fault_of_car car = faults.BadCar car

-- a fault of a keeper; its want of memory is the client's own
abbrev pub fault_of_keep : KeepFault → ClientFault
fault_of_keep keeps.Failed = faults.KeepFault
fault_of_keep keeps.OutOfMemory = faults.OutOfMemory
