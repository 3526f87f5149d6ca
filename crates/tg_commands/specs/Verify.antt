-- `verify`: a CAR on input is verified, and what it says goes to out.
use Rattle.std.specs.Prelude.{◌≡◌, ◌⊎◌, ◌<◌, ◌≤◌, ℕ, ⊤, List, Option, Some, None, Ok, Err, length, ◌++◌}
use Rattle.tg_commands.specs.Blocks.{IsTextOf}
use Rattle.tg_commands.specs.Exports.{ShowsCid}
use Rattle.tg_commands.specs.Lines.{Says, exit_status}
use Rattle.tg_commands.specs.declared.fault.CommandFault.{CommandFault}
use Rattle.tg_commands.specs.declared.fault.CommandFault.TheVariants as refusals
use Rattle.tg_cid.specs.Cid.{CidParts}
use Rattle.tg_client.specs.Ends.{HasStreamCause, IsOwnEnd, Verifies}
use Rattle.tg_client.specs.Received.{HasReceived, IsCarOf}
use Rattle.tg_client.specs.declared.fault.ClientFault.{ClientFault}
use Rattle.tg_client.specs.declared.fault.ClientFault.TheVariants as clients
use Rattle.tg_model.specs.Answer.{answer}
use Rattle.tg_model.specs.Counts.{counts}
use Rattle.tg_model.specs.Dag.{Dag, Section, root_cid}
use Rattle.tg_model.specs.Fits.{CollisionPair, Fits, HasOneBlockEach, IfOnce}
use Rattle.tg_model.specs.LimitNumbers.{number_of, standard}
use Rattle.tg_model.specs.Lookup.{lookup_path}
use Rattle.tg_model.specs.Lookup as lookups
use Rattle.tg_model.specs.Queries.{QueryParts}
use Rattle.tg_model.specs.Sound.{IsSound}
use Rattle.tg_model.specs.Traversal.{block_list, opened_list}
use Rattle.tg_model.specs.declared.limits.LimitKind.TheVariants as kinds
use Rattle.tg_streams.specs.Streams.{Input, InputQuiet, Output, OutputQuiet, Put, Took, TookAll}
use Rattle.tg_verify.specs.Laws.{IsFitOf, IsWithinLimits}
use Rattle.tg_verify.specs.Sound.{ForEachSound, IsItsAnswer, IsItsFront}
use Rattle.tg_verify.specs.declared.fault.Refusal.TheVariants as verifiers

-- a refusal that shows two CIDs, by their texts in version 1
abbrev pub ShowsCids : (List ℕ → List ℕ → CommandFault) → CidParts → CidParts → CommandFault → Type 0
ShowsCids of first second refusal =
    (a : List ℕ) × (b : List ℕ) × IsTextOf first a × IsTextOf second b × (refusal ≡ of a b)

-- the refusal that tells why a CAR isn't accepted: by its kind alone, with its CIDs, numbers or segment
abbrev pub TellsVerify : ClientFault → CommandFault → Type 0
TellsVerify (clients.Refused (verifiers.Extra sections)) refusal = refusal ≡ refusals.Extra sections
TellsVerify (clients.Refused (verifiers.Limit kind number)) refusal = refusal ≡ refusals.Limit kind number
TellsVerify (clients.Refused (verifiers.BadDigest cid)) refusal = ShowsCid refusals.BadDigest cid refusal
TellsVerify (clients.Refused (verifiers.WrongBlock want got)) refusal = ShowsCids refusals.WrongBlock want got refusal
TellsVerify (clients.Refused (verifiers.BadBlock cid fault)) refusal =
    ShowsCid (λ text. refusals.BadReceived text fault) cid refusal
TellsVerify (clients.Refused (verifiers.BadSize declared actual)) refusal = refusal ≡ refusals.BadSize declared actual
TellsVerify (clients.Refused (verifiers.NotFolder segment)) refusal = refusal ≡ refusals.NotFolder segment
TellsVerify (clients.Refused (verifiers.NotThere segment)) refusal = refusal ≡ refusals.NotThere segment
TellsVerify (clients.Refused verifiers.SinkFault) refusal = refusal ≡ refusals.SinkFault
TellsVerify (clients.Refused (verifiers.Truncated want sections)) refusal =
    ShowsCid (λ text. refusals.Truncated text sections) want refusal
TellsVerify (clients.Refused verifiers.OutOfMemory) refusal = refusal ≡ refusals.OutOfMemory
TellsVerify (clients.BadCar fault) refusal = refusal ≡ refusals.BadCar
TellsVerify clients.InputFault refusal = refusal ≡ refusals.InputFault
TellsVerify clients.KeepFault refusal = refusal ≡ refusals.PackFault
TellsVerify clients.OutOfMemory refusal = refusal ≡ refusals.OutOfMemory

-- where the text of a CID has to be shown, memory may be wanted for it
abbrev pub ShowsSome : ClientFault → Type 0
ShowsSome (clients.Refused (verifiers.BadDigest cid)) = ⊤
ShowsSome (clients.Refused (verifiers.WrongBlock want got)) = ⊤
ShowsSome (clients.Refused (verifiers.BadBlock cid fault)) = ⊤
ShowsSome (clients.Refused (verifiers.Truncated want sections)) = ⊤
ShowsSome other = ⊥

-- the refusal of a CAR with this fault
abbrev pub IsVerifyRefusal : ClientFault → CommandFault → Type 0
IsVerifyRefusal fault refusal = TellsVerify fault refusal ⊎ (ShowsSome fault × (refusal ≡ refusals.OutOfMemory))

-- the CAR was accepted
pub record Accepted (q : QueryParts) (input : Input) (out : Output) : Type 0 where
  pub done : ⊤
  pub verifies : Verifies q standard input out (Ok done)
  pub cause : HasStreamCause input out (Ok done)

-- a CAR of the sections of a sound DAG's own traversal, whose answer is this text, with one block under each CID where
-- each is sent once; or of sections that fit; none of its limits passed
pub record IsItsCar (q : QueryParts) (d : Dag) (text bytes : List ℕ) : Type 0 where
  pub sound : IsSound d
  pub root : root_cid d ≡ q.root
  pub answers : answer q d ≡ Some text
  pub one_each : IfOnce q.dups (HasOneBlockEach (opened_list q d))
  pub is_car : IsCarOf bytes (block_list q d)
  pub within : IsWithinLimits q standard d

abbrev pub IsOwnCar : QueryParts → List ℕ → Type 0
IsOwnCar q bytes = (d : Dag) × (text : List ℕ) × IsItsCar q d text bytes

pub record IsFittingCar (q : QueryParts) (bytes : List ℕ) : Type 0 where
  pub d : Dag
  pub sections : List Section
  pub text : List ℕ
  pub fits : Fits d q sections text
  pub is_car : IsCarOf bytes sections
  pub within : IsWithinLimits q standard d

abbrev pub IsGoodCar : QueryParts → List ℕ → Type 0
IsGoodCar q bytes = (IsOwnCar q bytes ⊎ IsFittingCar q bytes) × (length bytes ≤ standard.received)

-- or refused, and not so where the input is a good CAR
pub record NotAccepted (q : QueryParts) (input : Input) (out : Output) (refusal : CommandFault) : Type 0 where
  pub fault : ClientFault
  pub tells : IsVerifyRefusal fault refusal
  pub verifies : Verifies q standard input out (Err fault)
  pub cause : HasStreamCause input out (Err fault)
  pub else : (bytes : List ℕ) → input.left_old ≡ Some bytes → IsGoodCar q bytes → IsOwnEnd fault

-- how `verify` ends
abbrev pub VerifyEnds : QueryParts → Input → Output → Option CommandFault → Type 0
VerifyEnds q input out None = Accepted q input out
VerifyEnds q input out (Some refusal) = NotAccepted q input out refusal

-- ---- what the statuses say

-- `verify` at status 0: the whole input is a CAR of sections that fit the query, whose text was put; beside each sound
-- DAG with the query's root that text is its answer, or a received block and one of the DAG are a collision pair
pub record VerifiedInput (q : QueryParts) (input : Input) (out : Output) : Type 0 where
  pub bytes : List ℕ
  pub took : TookAll bytes input
  pub quiet : InputQuiet input
  pub sections : List Section
  pub is_car : IsCarOf bytes sections
  pub text : List ℕ
  pub fits : IsFitOf q sections text
  pub put : Put text out
  pub no_fault : OutputQuiet out
  pub sound : ForEachSound q (λ d. IsItsAnswer q d sections text)

-- the path leads nowhere in the DAG
abbrev pub IsNoAnswer : QueryParts → Dag → Type 0
IsNoAnswer q d =
    ((i : ℕ) × (lookup_path q.path d ≡ lookups.not_there i)) ⊎ ((i : ℕ) × (lookup_path q.path d ≡ lookups.not_folder i))

-- what the line on err says of the DAG: its path leads nowhere at this segment; it counts more than this limit, but for
-- limits of what was received; a block of it is never bad, nor is a size of it, but for a pair
abbrev pub SaysLine : QueryParts → Dag → List Section → Option CommandFault → Type 0
SaysLine q d sections (Some (refusals.NotThere segment)) =
    (lookup_path q.path d ≡ lookups.not_there segment) ⊎ CollisionPair sections d
SaysLine q d sections (Some (refusals.NotFolder segment)) =
    (lookup_path q.path d ≡ lookups.not_folder segment) ⊎ CollisionPair sections d
SaysLine q d sections (Some (refusals.Limit kinds.Block number)) = ⊤
SaysLine q d sections (Some (refusals.Limit kinds.Received number)) = ⊤
SaysLine q d sections (Some (refusals.Limit kind number)) =
    (number < number_of kind (counts q d)) ⊎ CollisionPair sections d
SaysLine q d sections (Some (refusals.BadReceived cid fault)) = CollisionPair sections d
SaysLine q d sections (Some (refusals.BadSize declared actual)) = CollisionPair sections d
SaysLine q d sections other = ⊤

-- `verify` at any status, beside a sound DAG with the query's root: of the bytes that were heard these sections stand
-- whole; what was put is the DAG's answer at status 0, and else a front of it; at status 9 its path leads nowhere; what
-- the line on err says of it holds; or there is a pair
pub record Vouched (q : QueryParts) (d : Dag) (input : Input) (out err : Output) (status : ℕ) : Type 0 where
  pub heard : List ℕ
  pub unheard : List ℕ
  pub took : Took (heard ++ unheard) input
  pub sections : List Section
  pub received : HasReceived standard.block heard sections
  pub text : List ℕ
  pub put : Put text out
  pub accepted : status ≡ 0 → IsItsAnswer q d sections text
  pub front : IsItsFront q d sections text
  pub nowhere : status ≡ 9 → IsNoAnswer q d ⊎ CollisionPair sections d
  pub end : Option CommandFault
  pub status_is : status ≡ exit_status end
  pub line : Says end err
  pub says : SaysLine q d sections end
