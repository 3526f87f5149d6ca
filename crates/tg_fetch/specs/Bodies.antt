-- The body of a reply while it comes: what is taken of it, and why it isn't (Trustless Gateway specification, response
-- types and CAR responses).
use Rattle.std.specs.Prelude.{Err, List, None, Ok, Result, [], length, ⊤, ℕ, ◌++◌, ◌<◌, ◌∷◌, ◌≡◌, ◌≢◌, ◌≤◌, ◌⊎◌}
use Rattle.tg_client.specs.Body.{IsAfterWanted, IsBody, unknown}
use Rattle.tg_client.specs.Ends.{EndsBy, IsEndedShort, IsHeldExactly, IsWaiting}
use Rattle.tg_client.specs.Received.{HasReceived, IsCarOf}
use Rattle.tg_client.specs.declared.body.CarBody.{CarBody}
use Rattle.tg_client.specs.declared.fault.ClientFault.{ClientFault}
use Rattle.tg_client.specs.declared.fault.ClientFault.TheVariants as clients
use Rattle.tg_cid.specs.Cid.{CidParts}
use Rattle.tg_fetch.specs.Faults.{absence_fault, fault_of_client, fault_of_refusal}
use Rattle.tg_fetch.specs.declared.fault.FetchFault.{FetchFault}
use Rattle.tg_fetch.specs.declared.fault.FetchFault.TheVariants as faults
use Rattle.tg_fetch.specs.declared.sections.RawBlock.{RawBlock}
use Rattle.tg_fetch.specs.declared.sections.Sections.{Sections}
use Rattle.tg_fetch.specs.declared.sections.Sections.TheVariants as takings
use Rattle.tg_heard.specs.Carried.{BodyCarries, IsAbsenceHead, IsAnswerHead}
use Rattle.tg_http.specs.declared.reply.ReplyHead.{ReplyHead}
use Rattle.tg_model.specs.Dag.{Dag, Section}
use Rattle.tg_model.specs.LimitNumbers.{LimitNumbers, standard}
use Rattle.tg_model.specs.Queries.{QueryParts}
use Rattle.tg_model.specs.declared.limits.LimitKind.TheVariants as kinds
use Rattle.tg_model.specs.declared.queries.Form.TheVariants as forms
use Rattle.tg_streams.specs.Streams.{Output, Put}
use Rattle.tg_verify.specs.Absences.{path_limits, path_query}
use Rattle.tg_verify.specs.Refusals.{HasRefused}
use Rattle.tg_verify.specs.Sound.{ForEachSound, IsItsAnswer, IsItsFront, SaysOfDag}
use Rattle.tg_verify.specs.Taken.{IsFresh, IsThrough}
use Rattle.tg_verify.specs.declared.fault.Refusal.{Refusal}
use Rattle.tg_verify.specs.declared.fault.Refusal.TheVariants as refusals

-- ---- what is taken

-- these bytes of the answer's CAR came, and this is written for them
pub record IsTakingAnswer (q : QueryParts) (limits : LimitNumbers) (head : ReplyHead) (body : CarBody) (given written : List ℕ) : Type 0 where
  pub form : q.form ≡ forms.Car
  pub is_head : IsAnswerHead q head
  pub query : body.verifier.left.query ≡ q
  pub limits_are : body.verifier.limits ≡ limits
  pub sections : List Section
  pub is_body : IsBody body given sections written

-- these bytes came of the CAR that shows that the path leads nowhere, and the terminal isn't among its blocks
pub record IsTakingAbsence (q : QueryParts) (limits : LimitNumbers) (head : ReplyHead) (body : CarBody) (given : List ℕ) : Type 0 where
  pub is_head : IsAbsenceHead q head
  pub query : body.verifier.left.query ≡ path_query q
  pub limits_are : body.verifier.limits ≡ path_limits limits
  pub sections : List Section
  pub said : List ℕ
  pub is_body : IsBody body given sections said
  pub wanted : body.verifier.left.wanted ≢ None

-- these bytes of the root's block came
pub record IsTakingBlock (q : QueryParts) (limits : LimitNumbers) (head : ReplyHead) (raw : RawBlock) (given : List ℕ) : Type 0 where
  pub form : q.form ≡ forms.Raw
  pub is_head : IsAnswerHead q head
  pub root : raw.root ≡ q.root
  pub query : raw.verifier.left.query ≡ q
  pub limits_are : raw.verifier.limits ≡ limits
  pub fresh : IsFresh raw.verifier
  pub most : raw.most ≡ limits.block
  pub bytes_are : raw.bytes ≡ given
  pub few : length given ≤ limits.block

abbrev pub IsTaking : QueryParts → LimitNumbers → ReplyHead → Sections → List ℕ → List ℕ → Type 0
IsTaking q limits head (takings.Answer body) given written = IsTakingAnswer q limits head body given written
IsTaking q limits head (takings.Absence body) given written = IsTakingAbsence q limits head body given × (written ≡ [])
IsTaking q limits head (takings.Block raw) given written = IsTakingBlock q limits head raw given × (written ≡ [])

-- the same by the bytes alone: nothing of the body is refused, these sections stand whole in it, and this is written
pub record IsOpenAnswer (q : QueryParts) (limits : LimitNumbers) (head : ReplyHead) (given : List ℕ) (sections : List Section) (text : List ℕ) : Type 0 where
  pub form : q.form ≡ forms.Car
  pub is_head : IsAnswerHead q head
  pub received : HasReceived limits.block given sections
  pub held : IsHeldExactly q limits given sections text

pub record IsOpenAbsence (q : QueryParts) (limits : LimitNumbers) (head : ReplyHead) (given : List ℕ) (sections : List Section) (text : List ℕ) : Type 0 where
  pub is_head : IsAbsenceHead q head
  pub received : HasReceived limits.block given sections
  pub said : List ℕ
  pub waits : IsWaiting (path_query q) (path_limits limits) given sections said
  pub no_text : text ≡ []

pub record IsOpenBlock (q : QueryParts) (limits : LimitNumbers) (head : ReplyHead) (given : List ℕ) (sections : List Section) (text : List ℕ) : Type 0 where
  pub form : q.form ≡ forms.Raw
  pub is_head : IsAnswerHead q head
  pub few : length given ≤ limits.block
  pub no_section : sections ≡ []
  pub no_text : text ≡ []

pub data IsOpenBody (q : QueryParts) (limits : LimitNumbers) (head : ReplyHead) (given : List ℕ) (sections : List Section) (text : List ℕ) : Type 0 where
  answer : IsOpenAnswer q limits head given sections text → IsOpenBody q limits head given sections text
  absence : IsOpenAbsence q limits head given sections text → IsOpenBody q limits head given sections text
  block : IsOpenBlock q limits head given sections text → IsOpenBody q limits head given sections text

-- ---- why no more is taken while it comes

-- these bytes were heard, in which the sections stand whole, and those behind them weren't
pub record AreHeard (limits : LimitNumbers) (bytes : List ℕ) (sections : List Section) : Type 0 where
  pub heard : List ℕ
  pub unheard : List ℕ
  pub whole : bytes ≡ heard ++ unheard
  pub received : HasReceived limits.block heard sections

-- the answer's CAR is refused, with this text written for its sections
pub record AnswerStops (q : QueryParts) (limits : LimitNumbers) (head : ReplyHead) (bytes : List ℕ) (sections : List Section) (text : List ℕ) (fault : FetchFault) : Type 0 where
  pub form : q.form ≡ forms.Car
  pub is_head : IsAnswerHead q head
  pub are_heard : AreHeard limits bytes sections
  pub cause : ClientFault
  pub not_input : cause ≢ clients.InputFault
  pub fault_is : fault ≡ fault_of_client cause
  pub ends : EndsBy q limits unknown are_heard.heard are_heard.unheard sections text (Err cause)
  pub wanted : IsAfterWanted q limits are_heard.heard sections cause

-- the CAR that would show an absence is refused, or shows that a segment of the path leads nowhere; out and a keeper have no
-- part in it
pub record AbsenceStops (q : QueryParts) (limits : LimitNumbers) (head : ReplyHead) (bytes : List ℕ) (sections : List Section) (text : List ℕ) (fault : FetchFault) : Type 0 where
  pub is_head : IsAbsenceHead q head
  pub are_heard : AreHeard limits bytes sections
  pub said : List ℕ
  pub cause : ClientFault
  pub not_input : cause ≢ clients.InputFault
  pub not_keep : cause ≢ clients.KeepFault
  pub fault_is : fault ≡ absence_fault cause
  pub not_sink : fault ≢ faults.Refused refusals.SinkFault
  pub ends : EndsBy (path_query q) (path_limits limits) unknown are_heard.heard are_heard.unheard sections said (Err cause)
  pub wanted : IsAfterWanted (path_query q) (path_limits limits) are_heard.heard sections cause
  pub no_text : text ≡ []

-- it shows the terminal: a front of it is the CAR of all that is asked on the path
pub record AbsenceReaches (q : QueryParts) (limits : LimitNumbers) (head : ReplyHead) (bytes : List ℕ) (sections : List Section) (text : List ℕ) (fault : FetchFault) : Type 0 where
  pub is_head : IsAbsenceHead q head
  pub are_heard : AreHeard limits bytes sections
  pub said : List ℕ
  pub is_car : IsCarOf are_heard.heard sections
  pub through : IsThrough (path_query q) (path_limits limits) sections said
  pub fault_is : fault ≡ faults.Status 404
  pub no_text : text ≡ []

-- the block is too large, of which nothing is verified; or no memory is found for its bytes
abbrev pub IsBlockFault : LimitNumbers → List ℕ → FetchFault → Type 0
IsBlockFault limits bytes (faults.Refused (refusals.Limit kinds.Block number)) = (number ≡ limits.block) × (limits.block < length bytes)
IsBlockFault limits bytes faults.OutOfMemory = ⊤
IsBlockFault limits bytes other = ⊥

pub record BlockStops (q : QueryParts) (limits : LimitNumbers) (head : ReplyHead) (bytes : List ℕ) (sections : List Section) (text : List ℕ) (fault : FetchFault) : Type 0 where
  pub form : q.form ≡ forms.Raw
  pub is_head : IsAnswerHead q head
  pub no_section : sections ≡ []
  pub no_text : text ≡ []
  pub cause : IsBlockFault limits bytes fault

pub data BodyStops (q : QueryParts) (limits : LimitNumbers) (head : ReplyHead) (bytes : List ℕ) (sections : List Section) (text : List ℕ) (fault : FetchFault) : Type 0 where
  answer : AnswerStops q limits head bytes sections text fault → BodyStops q limits head bytes sections text fault
  absence : AbsenceStops q limits head bytes sections text fault → BodyStops q limits head bytes sections text fault
  reaches : AbsenceReaches q limits head bytes sections text fault → BodyStops q limits head bytes sections text fault
  block : BlockStops q limits head bytes sections text fault → BodyStops q limits head bytes sections text fault

-- ---- why it isn't accepted at its end

pub record AnswerShort (q : QueryParts) (limits : LimitNumbers) (head : ReplyHead) (body : List ℕ) (sections : List Section) (text : List ℕ) (fault : FetchFault) : Type 0 where
  pub form : q.form ≡ forms.Car
  pub is_head : IsAnswerHead q head
  pub received : HasReceived limits.block body sections
  pub want : CidParts
  pub number : ℕ
  pub fault_is : fault ≡ faults.Refused (refusals.Truncated want number)
  pub short : IsEndedShort q limits body sections text want number

pub record AbsenceShort (q : QueryParts) (limits : LimitNumbers) (head : ReplyHead) (body : List ℕ) (sections : List Section) (text : List ℕ) (fault : FetchFault) : Type 0 where
  pub is_head : IsAbsenceHead q head
  pub received : HasReceived limits.block body sections
  pub said : List ℕ
  pub want : CidParts
  pub number : ℕ
  pub fault_is : fault ≡ faults.Refused (refusals.Truncated want number)
  pub short : IsEndedShort (path_query q) (path_limits limits) body sections said want number
  pub no_text : text ≡ []

-- the block, or the place before it where none is wanted, is refused
abbrev pub root_section : QueryParts → List ℕ → Section
root_section q body = record { cid = q.root; block = body }

-- that no more come is said behind the block alone
abbrev pub IsBeforeBlock : Refusal → Type 0
IsBeforeBlock (refusals.Truncated want number) = ⊥
IsBeforeBlock other = ⊤

pub record BlockRefused (q : QueryParts) (limits : LimitNumbers) (head : ReplyHead) (body : List ℕ) (sections : List Section) (text : List ℕ) (fault : FetchFault) : Type 0 where
  pub form : q.form ≡ forms.Raw
  pub is_head : IsAnswerHead q head
  pub few : length body ≤ limits.block
  pub cause : Refusal
  pub sections_are : ((sections ≡ []) × IsBeforeBlock cause) ⊎ (sections ≡ root_section q body ∷ [])
  pub fault_is : fault ≡ fault_of_refusal cause
  pub refused : HasRefused q limits sections text cause

pub data BodyFails (q : QueryParts) (limits : LimitNumbers) (head : ReplyHead) (body : List ℕ) (sections : List Section) (text : List ℕ) (fault : FetchFault) : Type 0 where
  answer : AnswerShort q limits head body sections text fault → BodyFails q limits head body sections text fault
  absence : AbsenceShort q limits head body sections text fault → BodyFails q limits head body sections text fault
  reaches : AbsenceReaches q limits head body sections text fault → BodyFails q limits head body sections text fault
  block : BlockRefused q limits head body sections text fault → BodyFails q limits head body sections text fault

-- ---- what each says of each sound DAG with the query's root

-- what a refusal of a block says of the DAG; where that comes on the path alone, whose blocks have no text before the terminal's,
-- a text that is too large is more than 2^40 bytes of the terminal's block
abbrev pub SaysOf : QueryParts → Dag → List Section → FetchFault → Type 0
SaysOf q d sections (faults.Refused (refusals.Limit kinds.Output number)) =
    SaysOfDag q d sections (refusals.Limit kinds.Output number)
    ⊎ ((number ≡ standard.output) × SaysOfDag (path_query q) d sections (refusals.Limit kinds.Output number))
SaysOf q d sections (faults.Refused fault) = SaysOfDag q d sections fault
SaysOf q d sections other = ⊤

-- what is written is a front of its answer, and what the refusal says of it holds; or there is a collision pair
abbrev pub FrontAndSays : QueryParts → List Section → List ℕ → FetchFault → Dag → Type 0
FrontAndSays q sections text fault d = IsItsFront q d sections text × SaysOf q d sections fault

-- ---- the calls

-- a text was put, and it goes on
pub record TakesOn (q : QueryParts) (limits : LimitNumbers) (head : ReplyHead) (sections : Sections) (given written : List ℕ) (out : Output) : Type 0 where
  pub text : List ℕ
  pub put : Put text out
  pub taking : IsTaking q limits head sections given (written ++ text)

-- a text was put, and the body was refused
pub record StopsTaking (q : QueryParts) (limits : LimitNumbers) (head : ReplyHead) (given written : List ℕ) (out : Output) (fault : FetchFault) : Type 0 where
  pub text : List ℕ
  pub put : Put text out
  pub sections : List Section
  pub stops : BodyStops q limits head given sections (written ++ text) fault
  pub sound : ForEachSound q (FrontAndSays q sections (written ++ text) fault)

-- the body is whole: its sections are the answer's, and their text is written
pub record IsWholeAnswer (q : QueryParts) (limits : LimitNumbers) (head : ReplyHead) (given : List ℕ) (sections : List Section) (text : List ℕ) : Type 0 where
  pub is_head : IsAnswerHead q head
  pub carries : BodyCarries q.form q given sections
  pub through : IsThrough q limits sections text
  pub sound : ForEachSound q (λ d. IsItsAnswer q d sections text)

pub record TakesWhole (q : QueryParts) (limits : LimitNumbers) (head : ReplyHead) (given written : List ℕ) (out : Output) : Type 0 where
  pub text : List ℕ
  pub put : Put text out
  pub sections : List Section
  pub whole : IsWholeAnswer q limits head given sections (written ++ text)

pub record FailsTaking (q : QueryParts) (limits : LimitNumbers) (head : ReplyHead) (given written : List ℕ) (out : Output) (fault : FetchFault) : Type 0 where
  pub text : List ℕ
  pub put : Put text out
  pub sections : List Section
  pub fails : BodyFails q limits head given sections (written ++ text) fault
  pub sound : ForEachSound q (FrontAndSays q sections (written ++ text) fault)

abbrev pub EndsTaking : QueryParts → LimitNumbers → ReplyHead → List ℕ → List ℕ → Output → Result ⊤ FetchFault → Type 0
EndsTaking q limits head given written out (Ok done) = TakesWhole q limits head given written out
EndsTaking q limits head given written out (Err fault) = FailsTaking q limits head given written out fault
