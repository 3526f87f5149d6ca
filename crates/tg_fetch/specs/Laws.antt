-- What follows from how a reply is heard: one that carries sections which fit is accepted, and one that shows that the path
-- leads nowhere is refused for that.
use Rattle.std.specs.Prelude.{Bool, Err, List, Ok, Result, Some, [], length, true, ⊤, ℕ, ◌++◌, ◌∷◌, ◌≡◌, ◌≤◌}
use Rattle.tg_dials.specs.Dials.{Dialling}
use Rattle.tg_fetch.specs.Replies.{IsAnswered, RefusedBy}
use Rattle.tg_fetch.specs.declared.fault.FetchFault.{FetchFault}
use Rattle.tg_fetch.specs.declared.fault.FetchFault.TheVariants as faults
use Rattle.tg_heard.specs.Carried.{CarriesBehind, IsAbsenceHead, IsAnswerHead}
use Rattle.tg_heard.specs.Exchanges.{HasOneBlockEach}
use Rattle.tg_http.specs.declared.reply.ReplyHead.{ReplyHead}
use Rattle.tg_links.specs.declared.call.Call.{Call}
use Rattle.tg_model.specs.Dag.{Dag, Section, root_cid}
use Rattle.tg_model.specs.Fits.{Fits, IsOpenedFor}
use Rattle.tg_model.specs.LimitNumbers.{LimitNumbers}
use Rattle.tg_model.specs.PathWalk.{stopped}
use Rattle.tg_model.specs.Queries.{QueryParts}
use Rattle.tg_model.specs.Sound.{IsSound}
use Rattle.tg_model.specs.Traversal.{block_list, traversal}
use Rattle.tg_model.specs.declared.queries.Form.TheVariants as forms
use Rattle.tg_model_laws.specs.Tasks.{Miss, stop_of}
use Rattle.tg_streams.specs.Streams.{Output, Put}
use Rattle.tg_verify.specs.Absences.{path_limits, path_query}
use Rattle.tg_verify.specs.Laws.{IsMissOf, IsWithinLimits}
use Rattle.tg_verify.specs.declared.fault.Refusal.TheVariants as refusals

-- ---- a reply that carries sections

-- a front of these bytes, of no more than may be received, carries the sections behind such a head: all of them, with the link
-- ended, where the body goes on until it closes
pub record CarriesWithinBy (IsHead : ReplyHead → Type 0) (q : QueryParts) (limits : LimitNumbers) (bytes : List ℕ) (over : Bool) (sections : List Section) : Type 0 where
  pub front : List ℕ
  pub more : List ℕ
  pub whole : bytes ≡ front ++ more
  pub few : length front ≤ limits.received
  pub ended : Bool
  pub is_over : ended ≡ true → (over ≡ true) × (more ≡ [])
  pub carries : CarriesBehind IsHead front ended q sections

-- the answer, and the blocks that show that there is none
abbrev pub CarriesWithin : QueryParts → LimitNumbers → List ℕ → Bool → List Section → Type 0
CarriesWithin q = CarriesWithinBy (IsAnswerHead q) q

abbrev pub CarriesAbsenceWithin : QueryParts → LimitNumbers → List ℕ → Bool → List Section → Type 0
CarriesAbsenceWithin q = CarriesWithinBy (IsAbsenceHead q) q

-- a fault of out, of the peer or of a keeper, or want of memory
abbrev pub IsOwnFault : FetchFault → Type 0
IsOwnFault (faults.Refused refusals.SinkFault) = ⊤
IsOwnFault faults.PeerFault = ⊤
IsOwnFault faults.KeepFault = ⊤
IsOwnFault faults.OutOfMemory = ⊤
IsOwnFault other = ⊥

-- where they fit, and pass no limit, no front of it is refused but for those, whatever may follow
abbrev pub CarriedIsTaken : Type 0
CarriedIsTaken = (q : QueryParts) (limits : LimitNumbers) (d : Dag) (all : List Section) (answer heard unheard more : List ℕ) (ended over : Bool) (sections : List Section)
    (text : List ℕ) (fault : FetchFault) → Fits d q all answer → IsWithinLimits q limits d
    → CarriesWithin q limits (heard ++ (unheard ++ more)) over all → (ended ≡ true → (over ≡ true) × (unheard ≡ []) × (more ≡ []))
    → RefusedBy q limits heard unheard ended sections text fault → IsOwnFault fault

-- and what is put is their text
abbrev pub CarriedIsAnswer : Type 0
CarriedIsAnswer = (q : QueryParts) (limits : LimitNumbers) (d : Dag) (all : List Section) (answer heard more : List ℕ) (ended over : Bool) (sections : List Section) (text : List ℕ)
    → Fits d q all answer → CarriesWithin q limits (heard ++ more) over all → (ended ≡ true → more ≡ [])
    → IsAnswered q limits heard ended sections text
    → (sections ≡ all) × (text ≡ answer)

-- ---- a reply that is refused

-- it isn't for a fault of the peer, which is one of its link
abbrev pub NoPeerFault : Type 0
NoPeerFault = (q : QueryParts) (limits : LimitNumbers) (heard unheard : List ℕ) (ended : Bool) (sections : List Section) (text : List ℕ)
    → RefusedBy q limits heard unheard ended sections text faults.PeerFault → ⊥

-- ---- a reply that shows that the path leads nowhere

-- in a DAG, opened for the query's path alone, this segment leads nowhere, and its blocks pass no limit
pub record IsNowhereIn (q : QueryParts) (limits : LimitNumbers) (d : Dag) (miss : Miss) : Type 0 where
  pub opened : IsOpenedFor d (path_query q)
  pub ends : (traversal (path_query q) d).end ≡ stopped (stop_of miss)
  pub within : IsWithinLimits (path_query q) (path_limits limits) d

-- in a sound DAG with the query's root, of which no two different blocks stand under one CID, this segment leads nowhere, and
-- what is asked of it passes no limit
pub record IsOwnNowhere (q : QueryParts) (limits : LimitNumbers) (d : Dag) (miss : Miss) : Type 0 where
  pub sound : IsSound d
  pub root : root_cid d ≡ q.root
  pub car : q.form ≡ forms.Car
  pub ends : (traversal q d).end ≡ stopped (stop_of miss)
  pub one_each : HasOneBlockEach d
  pub within : IsWithinLimits q limits d

-- the refusal of a path at the segment that leads nowhere, or want of memory
abbrev pub IsMissOrMemory : Miss → FetchFault → Type 0
IsMissOrMemory miss (faults.Refused fault) = IsMissOf miss fault
IsMissOrMemory miss faults.OutOfMemory = ⊤
IsMissOrMemory miss other = ⊥

-- where a reply carries the blocks of such a path, a front of it is refused for that segment alone, with nothing put, but for
-- want of memory, whatever may follow
abbrev pub AbsenceIsTold : Type 0
AbsenceIsTold = (q : QueryParts) (limits : LimitNumbers) (d : Dag) (miss : Miss) (heard unheard more : List ℕ) (ended over : Bool) (sections : List Section)
    (text : List ℕ) (fault : FetchFault) → IsNowhereIn q limits d miss
    → CarriesAbsenceWithin q limits (heard ++ (unheard ++ more)) over (block_list (path_query q) d)
    → (ended ≡ true → (over ≡ true) × (unheard ≡ []) × (more ≡ []))
    → RefusedBy q limits heard unheard ended sections text fault → IsMissOrMemory miss fault × (text ≡ [])

-- and none is the answer
abbrev pub AbsenceIsNoAnswer : Type 0
AbsenceIsNoAnswer = (q : QueryParts) (limits : LimitNumbers) (d : Dag) (miss : Miss) (heard more : List ℕ) (ended over : Bool) (sections : List Section)
    (text : List ℕ) → IsNowhereIn q limits d miss
    → CarriesAbsenceWithin q limits (heard ++ more) over (block_list (path_query q) d) → (ended ≡ true → more ≡ [])
    → IsAnswered q limits heard ended sections text → ⊥

-- ---- a call

-- the dial tells the call, and what was heard carries these sections behind such a head
pub record TellsCarriedBy (IsHead : ReplyHead → Type 0) (q : QueryParts) (limits : LimitNumbers) (dial : Dialling) (sections : List Section) : Type 0 where
  pub before : List Call
  pub old : dial.calls_old ≡ Some before
  pub call : Call
  pub new : dial.calls_new ≡ Some (before ++ call ∷ [])
  pub carries : CarriesWithinBy IsHead q limits call.heard call.over sections

-- the answer, and the blocks that show that there is none
abbrev pub TellsCarried : QueryParts → LimitNumbers → Dialling → List Section → Type 0
TellsCarried q = TellsCarriedBy (IsAnswerHead q) q

abbrev pub TellsAbsence : QueryParts → LimitNumbers → Dialling → List Section → Type 0
TellsAbsence q = TellsCarriedBy (IsAbsenceHead q) q

-- accepted with this text put, but for those faults
abbrev pub IsAcceptedElse : List ℕ → Output → Result ⊤ FetchFault → Type 0
IsAcceptedElse text out (Ok done) = Put text out
IsAcceptedElse text out (Err fault) = IsOwnFault fault

-- refused for that segment, with nothing put, but for a fault of the peer and want of memory
abbrev pub IsNowhereElse : Miss → Output → Result ⊤ FetchFault → Type 0
IsNowhereElse miss out (Ok done) = ⊥
IsNowhereElse miss out (Err (faults.Refused fault)) = IsMissOf miss fault × Put [] out
IsNowhereElse miss out (Err faults.PeerFault) = ⊤
IsNowhereElse miss out (Err faults.OutOfMemory) = ⊤
IsNowhereElse miss out (Err other) = ⊥
