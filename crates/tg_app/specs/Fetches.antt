-- `fetch`: a reply is fetched from a gateway, and what it says goes to out.
use Rattle.std.specs.Prelude.{Err, List, None, Ok, Option, Result, Some, ⊤, ℕ, ◌≡◌, ◌⊎◌}
use Rattle.tg_commands.specs.Lines.{Says, exit_status}
use Rattle.tg_commands.specs.Verify.{IsNoAnswer, IsVerifyRefusal}
use Rattle.tg_commands.specs.declared.fault.CommandFault.{CommandFault}
use Rattle.tg_commands.specs.declared.fault.CommandFault.TheVariants as refusals
use Rattle.tg_client.specs.declared.fault.ClientFault.TheVariants as clients
use Rattle.tg_dials.specs.Dials.{Dialling}
use Rattle.tg_heard.specs.Exchanges.{HasOneBlockEach}
use Rattle.tg_fetch.specs.Bodies.{SaysOf}
use Rattle.tg_fetch.specs.Calls.{FetchEnds}
use Rattle.tg_fetch.specs.Faults.{QuietUnlessSink}
use Rattle.tg_fetch.specs.Laws.{IsAcceptedElse, IsNowhereElse, IsNowhereIn, IsOwnNowhere, TellsAbsence, TellsCarried}
use Rattle.tg_fetch.specs.Received.{AreReceived, HeardIn, SoundCall}
use Rattle.tg_fetch.specs.declared.fault.FetchFault.{FetchFault}
use Rattle.tg_fetch.specs.declared.fault.FetchFault.TheVariants as faults
use Rattle.tg_model.specs.Answer.{answer}
use Rattle.tg_model.specs.Dag.{Dag, Section, root_cid}
use Rattle.tg_model.specs.Fits.{CollisionPair, Fits}
use Rattle.tg_model.specs.LimitNumbers.{standard}
use Rattle.tg_model.specs.Queries.{QueryParts}
use Rattle.tg_model.specs.Sound.{IsSound}
use Rattle.tg_model.specs.Traversal.{block_list}
use Rattle.tg_model_laws.specs.Tasks.{Miss, no_directory, no_entry}
use Rattle.tg_streams.specs.Streams.{Output, OutputQuiet, Put}
use Rattle.tg_verify.specs.Absences.{path_query}
use Rattle.tg_verify.specs.Laws.{IsWithinLimits}
use Rattle.tg_verify.specs.Sound.{IsItsAnswer, IsItsFront}
use Rattle.tg_words.specs.FetchLines.{FetchParts}

-- the refusal that tells why a reply isn't accepted: by its kind alone, with its CIDs, numbers or segment
abbrev pub IsFetchRefusal : FetchFault → CommandFault → Type 0
IsFetchRefusal (faults.Refused fault) refusal = IsVerifyRefusal (clients.Refused fault) refusal
IsFetchRefusal (faults.Status status) refusal = refusal ≡ refusals.Status status
IsFetchRefusal faults.BadType refusal = refusal ≡ refusals.BadType
IsFetchRefusal faults.BadReplyHead refusal = refusal ≡ refusals.BadReplyHead
IsFetchRefusal faults.BadFraming refusal = refusal ≡ refusals.BadFraming
IsFetchRefusal (faults.BadCar fault) refusal = refusal ≡ refusals.BadCar
IsFetchRefusal faults.PeerFault refusal = refusal ≡ refusals.PeerFault
IsFetchRefusal faults.KeepFault refusal = refusal ≡ refusals.PackFault
IsFetchRefusal faults.OutOfMemory refusal = refusal ≡ refusals.OutOfMemory

abbrev pub IsFetchEnd : Result ⊤ FetchFault → Option CommandFault → Type 0
IsFetchEnd (Ok done) end = end ≡ None
IsFetchEnd (Err fault) end = (refusal : CommandFault) × (end ≡ Some refusal) × IsFetchRefusal fault refusal

-- ---- a good reply

-- what was heard carries the sections of a sound DAG's own traversal, whose answer is this text, no two different blocks of it
-- under one CID; or sections that fit, of this text; none of the limits passed
pub record IsOwnReply (q : QueryParts) (dial : Dialling) (text : List ℕ) : Type 0 where
  pub d : Dag
  pub sound : IsSound d
  pub root : root_cid d ≡ q.root
  pub answers : answer q d ≡ Some text
  pub one_each : HasOneBlockEach d
  pub within : IsWithinLimits q standard d
  pub tells : TellsCarried q standard dial (block_list q d)

pub record IsFittingReply (q : QueryParts) (dial : Dialling) (text : List ℕ) : Type 0 where
  pub d : Dag
  pub sections : List Section
  pub fits : Fits d q sections text
  pub within : IsWithinLimits q standard d
  pub tells : TellsCarried q standard dial sections

abbrev pub IsGoodReply : QueryParts → Dialling → List ℕ → Type 0
IsGoodReply q dial text = IsOwnReply q dial text ⊎ IsFittingReply q dial text

-- what was heard carries the blocks of a sound DAG's own path, of which this segment leads nowhere, no two different blocks of
-- it under one CID; or the blocks of such a path of a DAG that is opened for it alone; none of the limits passed
pub record IsOwnAbsence (q : QueryParts) (dial : Dialling) (miss : Miss) : Type 0 where
  pub d : Dag
  pub nowhere : IsOwnNowhere q standard d miss
  pub tells : TellsAbsence q standard dial (block_list q d)

pub record IsShownAbsence (q : QueryParts) (dial : Dialling) (miss : Miss) : Type 0 where
  pub d : Dag
  pub nowhere : IsNowhereIn q standard d miss
  pub tells : TellsAbsence q standard dial (block_list (path_query q) d)

abbrev pub IsAbsentReply : QueryParts → Dialling → Miss → Type 0
IsAbsentReply q dial miss = IsOwnAbsence q dial miss ⊎ IsShownAbsence q dial miss

-- the refusal of a path at a segment that leads nowhere
abbrev pub miss_refusal : Miss → CommandFault
miss_refusal (no_entry segment) = refusals.NotThere segment
miss_refusal (no_directory segment) = refusals.NotFolder segment

-- ---- how it ends

-- one call, how it ended, and that a good reply is accepted, and one that shows an absence refused for it, but for counted
-- faults and want of memory
pub record FetchAnswers (parts : FetchParts) (dial : Dialling) (out : Output) (end : Option CommandFault) : Type 0 where
  pub result : Result ⊤ FetchFault
  pub end_is : IsFetchEnd result end
  pub ends : FetchEnds parts.query standard parts.addr dial out result
  pub cause : QuietUnlessSink out result
  pub sound : SoundCall parts.query standard dial out result
  pub accepts : (text : List ℕ) → IsGoodReply parts.query dial text → IsAcceptedElse text out result
  pub absent : (miss : Miss) → IsAbsentReply parts.query dial miss → IsNowhereElse miss out result

-- ---- what the statuses say

-- at 0: the call, whose reply is the answer
pub record Fetched (parts : FetchParts) (dial : Dialling) (out : Output) : Type 0 where
  pub ends : FetchEnds parts.query standard parts.addr dial out (Ok tt)
  pub quiet : OutputQuiet out

-- at 4: the call, whose reply has another status
pub record FetchedStatus (parts : FetchParts) (dial : Dialling) (out : Output) : Type 0 where
  pub status : ℕ
  pub ends : FetchEnds parts.query standard parts.addr dial out (Err (faults.Status status))

-- what the line on err says of a DAG: of blocks that were received, as for `verify`
abbrev pub SaysFetchLine : QueryParts → Dag → List Section → Result ⊤ FetchFault → Type 0
SaysFetchLine q d sections (Ok done) = ⊤
SaysFetchLine q d sections (Err fault) = SaysOf q d sections fault

-- at any status, beside a sound DAG with the query's root: these sections stand whole in what was heard in the call; what was put
-- is the DAG's answer at status 0, and else a front of it; at status 9 its path leads nowhere; what the line on err says of it
-- holds; or a received block and one of the DAG are a collision pair
pub record VouchedFetch (parts : FetchParts) (d : Dag) (dial : Dialling) (out err : Output) (status : ℕ) : Type 0 where
  pub result : Result ⊤ FetchFault
  pub ends : FetchEnds parts.query standard parts.addr dial out result
  pub sections : List Section
  pub heard : List ℕ
  pub heard_in : HeardIn dial heard
  pub received : AreReceived standard.block heard parts.query sections
  pub text : List ℕ
  pub put : Put text out
  pub accepted : status ≡ 0 → IsItsAnswer parts.query d sections text
  pub front : IsItsFront parts.query d sections text
  pub nowhere : status ≡ 9 → IsNoAnswer parts.query d ⊎ CollisionPair sections d
  pub says : SaysFetchLine parts.query d sections result
  pub end : Option CommandFault
  pub end_is : IsFetchEnd result end
  pub status_is : status ≡ exit_status end
  pub line : Says end err
