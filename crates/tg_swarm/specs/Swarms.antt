-- What a swarm stands for, and what its calls say (Trustless Gateway specification, entity-bytes).
use Rattle.std.specs.List.{slice_get}
use Rattle.std.specs.Prelude.{Bool, Err, List, None, Ok, Option, Result, Some, [], false, length, map, min, sum, true, ⊤, ℕ, ◌*◌, ◌+◌, ◌++◌, ◌-◌, ◌^◌, ◌<◌, ◌∷◌, ◌≡◌, ◌⊎◌}
use Rattle.tg_cid.specs.Cid.{CidParts}
use Rattle.tg_fetch.specs.Clients as clients
use Rattle.tg_fetch.specs.Replies.{IsAnswered, RefusedBy}
use Rattle.tg_fetch.specs.declared.client.Client.{Client}
use Rattle.tg_fetch.specs.declared.fault.FetchFault.{FetchFault}
use Rattle.tg_fetch.specs.declared.fault.FetchFault.TheVariants as fetches
use Rattle.tg_model.specs.Computed.{read}
use Rattle.tg_model.specs.Dag.{Section}
use Rattle.tg_model.specs.LimitNumbers.{LimitNumbers, standard, with_number}
use Rattle.tg_model.specs.Queries.{QueryParts}
use Rattle.tg_model.specs.Sound.{IsFileKind}
use Rattle.tg_model.specs.declared.kinds.Kind.{Kind}
use Rattle.tg_model.specs.declared.kinds.Kind.TheVariants.{Raw}
use Rattle.tg_model.specs.declared.limits.LimitKind.TheVariants as limit_kinds
use Rattle.tg_parts.specs.Connections.{AreAnswers, Connection, IsRootBlock, IsRootOfFile, WasAccepted}
use Rattle.tg_parts.specs.Parts.{part_count, part_query, root_query}
use Rattle.tg_streams.specs.Streams.{Output, OutputQuiet, Put, Unput}
use Rattle.tg_swarm.specs.Jobs.{AreNone, HasFailed, IsJobs, IsLowest, IsOpen, IsProgress, IsWaiting, JobsState, finished_count}
use Rattle.tg_swarm.specs.Peers.{AreRefused, busy_count, slice_with}
use Rattle.tg_swarm.specs.declared.fault.SwarmFault.{SwarmFault}
use Rattle.tg_swarm.specs.declared.fault.SwarmFault.TheVariants as faults
use Rattle.tg_swarm.specs.declared.peers.Call.{Call}
use Rattle.tg_swarm.specs.declared.peers.Peer.{Peer}
use Rattle.tg_swarm.specs.declared.peers.Peer.TheVariants as kinds
use Rattle.tg_swarm.specs.declared.swarm.PeerEvent.{PeerEvent}
use Rattle.tg_swarm.specs.declared.swarm.PeerEvent.TheVariants as events
use Rattle.tg_swarm.specs.declared.swarm.Plan.{Plan}
use Rattle.tg_swarm.specs.declared.swarm.SwarmTold.{SwarmTold}
use Rattle.tg_swarm.specs.declared.swarm.Plan.TheVariants as plans
use Rattle.tg_verify.specs.declared.fault.Refusal.TheVariants as refusals
use Rattle.tg_verify.specs.declared.verifier.Progress.{Progress}

pub record SwarmState : Type 0 where
  pub root : CidParts
  pub part : ℕ  -- how many bytes a part has at most
  pub limits : LimitNumbers
  pub plan : Plan
  pub jobs : JobsState Client
  pub ended : Option SwarmFault

-- ---- jobs

-- the query for a job: the root's block, or a part of the file
abbrev pub query_for : CidParts → ℕ → Plan → ℕ → QueryParts
query_for root part plans.Root job = root_query root
query_for root part (plans.Parts total) job = part_query root part total job

abbrev pub query_of : SwarmState → ℕ → QueryParts
query_of s job = query_for s.root s.part s.plan job

-- the limits of its client: the total of the root's block is compared by the swarm, so that its client counts no output
abbrev pub limits_for : LimitNumbers → Plan → LimitNumbers
limits_for limits plans.Root = with_number limit_kinds.Output standard.output limits
limits_for limits (plans.Parts total) = limits

abbrev pub limits_of : SwarmState → LimitNumbers
limits_of s = limits_for s.limits s.plan

-- what the jobs are for, and what came in the connections that are over
pub record Asked : Type 0 where
  pub root : CidParts
  pub part : ℕ
  pub plan : Plan
  pub connections : List Connection

-- this text is the answer for a job
abbrev pub AnswersFor : CidParts → ℕ → Plan → List Connection → ℕ → List ℕ → Type 0
AnswersFor root part plans.Root connections job text = IsRootBlock root connections text
AnswersFor root part (plans.Parts total) connections job text = WasAccepted connections (part_query root part total job) text

abbrev pub AnswersJob : Asked → ℕ → List ℕ → Type 0
AnswersJob a job text = AnswersFor a.root a.part a.plan a.connections job text

abbrev pub asked_of : SwarmState → List Connection → Asked
asked_of s connections = record { root = s.root; part = s.part; plan = s.plan; connections = connections }

-- ---- what a swarm stands for

-- The root's block is the one job, and is written where it is a raw block; or there is a file with so many bytes, and as many
-- jobs as it has parts.
abbrev pub IsPlanned : CidParts → ℕ → Plan → JobsState Client → List Connection → List ℕ → Type 0
IsPlanned root part plans.Root jobs connections written =
    (jobs.count ≡ 1) × AreNone jobs.parts × (jobs.written ≡ 1 → read root written ≡ Ok Raw)
IsPlanned root part (plans.Parts total) jobs connections written =
    IsRootOfFile root connections total × (jobs.count ≡ part_count part total)

-- it goes on, and this was written of what came in these connections
pub record StandsFor (s : SwarmState) (connections : List Connection) (written : List ℕ) : Type 0 where
  pub going : s.ended ≡ None
  pub planned : IsPlanned s.root s.part s.plan s.jobs connections written
  pub jobs : IsJobs (AnswersJob (asked_of s connections)) s.jobs
  pub answers : AreAnswers (AnswersJob (asked_of s connections)) s.jobs.written written

-- a busy peer's client stands for what was heard in its connection
pub record CallStands (s : SwarmState) (call : Call Client) (heard : List ℕ) : Type 0 where
  pub query : call.client.query ≡ query_of s call.job
  pub limits : call.client.limits ≡ limits_of s
  pub stands : clients.StandsFor call.client heard call.text.content

-- ---- a job is asked

-- the peer is busy or was refused, none waits, or the swarm has ended
pub record NothingAsked (old new : SwarmState) (at : ℕ) : Type 0 where
  pub same : new ≡ old
  pub why : slice_get old.jobs.peers at ≡ Some kinds.Idle → old.ended ≡ None → (job : ℕ) → IsWaiting old.jobs job → ⊥

-- the lowest job that waits is this peer's now
pub record HasAsked (old new : SwarmState) (at : ℕ) (q : QueryParts) : Type 0 where
  pub call : Call Client
  pub query_is : q ≡ query_of old call.job
  pub stands : CallStands new call []
  pub idle : slice_get old.jobs.peers at ≡ Some kinds.Idle
  pub going : old.ended ≡ None
  pub lowest : IsLowest old.jobs call.job
  pub new_is : new ≡ record old { jobs = record old.jobs { peers = slice_with old.jobs.peers at (kinds.Busy call) } }

-- ---- a peer is heard

-- what an event adds to what was heard, and whether the peer says no more
abbrev pub bytes_of : PeerEvent → List ℕ
bytes_of (events.Piece piece) = piece.now
bytes_of events.Ended = []
bytes_of events.Failed = []

-- a reply to a query isn't its answer: the fault is one of its bytes behind what was heard, or of its end, and no want of
-- memory; or the link failed
pub record IsRefusedReply (q : QueryParts) (limits : LimitNumbers) (heard piece : List ℕ) (ended : Bool) (fault : FetchFault) : Type 0 where
  pub front : List ℕ
  pub more : List ℕ
  pub whole : piece ≡ front ++ more
  pub sections : List Section
  pub text : List ℕ
  pub refused : RefusedBy q limits (heard ++ front) more ended sections text fault

abbrev pub IsPeersOwn : FetchFault → Type 0
IsPeersOwn fetches.OutOfMemory = ⊥
IsPeersOwn fetches.KeepFault = ⊥
IsPeersOwn (fetches.Refused refusals.SinkFault) = ⊥
IsPeersOwn other = ⊤

abbrev pub IsBlamed : QueryParts → LimitNumbers → List ℕ → PeerEvent → FetchFault → Type 0
IsBlamed q limits heard (events.Piece piece) fault = IsRefusedReply q limits heard piece.now false fault × IsPeersOwn fault
IsBlamed q limits heard events.Ended fault = IsRefusedReply q limits heard [] true fault × IsPeersOwn fault
IsBlamed q limits heard events.Failed fault = fault ≡ fetches.PeerFault

-- what a peer is that had this call: it has it still, and its client stands for what was heard; it has none, and its job is
-- finished; or it was refused, with a cause
abbrev pub HasStill : SwarmState → ℕ → Call Client → List ℕ → Type 0
HasStill new at call heard =
    (later : Call Client) × (slice_get new.jobs.peers at ≡ Some (kinds.Busy later)) × (later.job ≡ call.job) × CallStands new later heard

abbrev pub HasFinished : SwarmState → SwarmState → ℕ → Call Client → Type 0
HasFinished old new at call = (slice_get new.jobs.peers at ≡ Some kinds.Idle) × (new.plan ≡ old.plan → IsOpen new.jobs call.job → ⊥)

abbrev pub WasRefused : SwarmState → ℕ → Call Client → List ℕ → PeerEvent → Type 0
WasRefused new at call heard event =
    (fault : FetchFault) × (slice_get new.jobs.peers at ≡ Some (kinds.Refused fault)) × IsBlamed call.client.query call.client.limits heard event fault

abbrev pub PeerAfter : SwarmState → SwarmState → ℕ → Call Client → List ℕ → PeerEvent → Type 0
PeerAfter old new at call heard event =
    HasStill new at call (heard ++ bytes_of event) ⊎ (HasFinished old new at call ⊎ WasRefused new at call heard event)

-- where it goes on, and where no peer is left
abbrev pub AfterEvent : SwarmState → SwarmState → ℕ → Call Client → List ℕ → PeerEvent → Result Progress SwarmFault → Type 0
AfterEvent old new at call heard event (Ok progress) = PeerAfter old new at call heard event
AfterEvent old new at call heard event (Err faults.NoPeerLeft) = WasRefused new at call heard event
AfterEvent old new at call heard event (Err other) = ⊤

-- ---- how an event ends

-- what was heard is the answer to a query, which these sections carry, and what follows it isn't looked at
pub record IsHeardAnswer (q : QueryParts) (limits : LimitNumbers) (heard : List ℕ) (sections : List Section) : Type 0 where
  pub front : List ℕ
  pub more : List ℕ
  pub whole : heard ≡ front ++ more
  pub ended : Bool
  pub last : ended ≡ true → more ≡ []
  pub text : List ℕ
  pub answered : IsAnswered q limits front ended sections text

-- what came is told of its connection where that is over: no more connections than before, or one more, with what was heard in it
abbrev pub IsTold : LimitNumbers → QueryParts → List ℕ → List Connection → List Connection → Type 0
IsTold limits q heard before later =
    (later ≡ before) ⊎ ((sections : List Section) × IsHeardAnswer q limits heard sections
    × (later ≡ before ++ record { query = q; heard = heard; sections = sections } ∷ []))

-- it goes on: a text was put, all that could be, and some peer is left
pub record GoesOn (old new : SwarmState) (connections : List Connection) (written : List ℕ) (call : Call Client) (heard : List ℕ) (out : Output) (progress : Progress) : Type 0 where
  pub later : List Connection
  pub told : IsTold call.client.limits call.client.query heard connections later
  pub text : List ℕ
  pub put : Put text out
  pub quiet : OutputQuiet out
  pub stands : StandsFor new later (written ++ text)
  pub progress_is : IsProgress new.jobs progress
  pub left : AreRefused new.jobs.peers → ⊥

-- no peer is left, and a job isn't done with
pub record NoneLeft (new : SwarmState) (out : Output) : Type 0 where
  pub refused : AreRefused new.jobs.peers
  pub unwritten : new.jobs.written < new.jobs.count
  pub unput : Unput out
  pub quiet : OutputQuiet out

-- the root's block was accepted
pub record RootAccepted (old : SwarmState) (connections : List Connection) (call : Call Client) (heard : List ℕ) (says : List Connection → List ℕ → Type 0) (out : Output) : Type 0 where
  pub plan : old.plan ≡ plans.Root
  pub later : List Connection
  pub told : IsTold call.client.limits call.client.query heard connections later
  pub block : List ℕ
  pub block_is : IsRootBlock old.root later block
  pub says_so : says later block
  pub unput : Unput out
  pub quiet : OutputQuiet out

-- out failed in a text, of which a front was put
pub record OutFailed (old new : SwarmState) (connections : List Connection) (written : List ℕ) (call : Call Client) (heard : List ℕ) (out : Output) : Type 0 where
  pub later : List Connection
  pub told : IsTold call.client.limits call.client.query heard connections later
  pub failed : HasFailed (AnswersJob (asked_of old later)) new.jobs written out
  pub raw : old.plan ≡ plans.Root → read old.root failed.text ≡ Ok Raw

abbrev pub IsNotFile : CidParts → List Connection → List ℕ → Type 0
IsNotFile root later block = (kind : Kind) × (read root block ≡ Ok kind) × (IsFileKind kind → ⊥)

-- why it ends: of want of memory nothing is said but that nothing was put
abbrev pub EndsBy : SwarmState → SwarmState → List Connection → List ℕ → Call Client → List ℕ → Output → SwarmFault → Type 0
EndsBy old new connections written call heard out faults.NoPeerLeft = NoneLeft new out
EndsBy old new connections written call heard out faults.NotFile = RootAccepted old connections call heard (λ later block. IsNotFile old.root later block) out
EndsBy old new connections written call heard out (faults.BadRoot fault) = RootAccepted old connections call heard (λ later block. read old.root block ≡ Err fault) out
EndsBy old new connections written call heard out (faults.Limit kind number) =
    (kind ≡ limit_kinds.Output) × (number ≡ old.limits.output)
    × RootAccepted old connections call heard (λ later block. (total : ℕ) × IsRootOfFile old.root later total × (number < total)) out
EndsBy old new connections written call heard out faults.SinkFault = OutFailed old new connections written call heard out
EndsBy old new connections written call heard out faults.OutOfMemory = Unput out × OutputQuiet out

abbrev pub EventEnds : SwarmState → SwarmState → List Connection → List ℕ → Call Client → List ℕ → Output → Result Progress SwarmFault → Type 0
EventEnds old new connections written call heard out (Ok progress) = GoesOn old new connections written call heard out progress
EventEnds old new connections written call heard out (Err fault) = EndsBy old new connections written call heard out fault

-- ---- how far it is

-- how many bytes the file has, once the root's block told it, and how many of them were put
abbrev pub total_in : Plan → Option ℕ
total_in plans.Root = None
total_in (plans.Parts total) = Some total

abbrev pub put_in : ℕ → Plan → ℕ → ℕ
put_in part plans.Root written = 0
put_in part (plans.Parts total) written = min (written * part) total

abbrev pub told_of : SwarmState → SwarmTold
told_of s = record { bytes = put_in s.part s.plan s.jobs.written; total = total_in s.plan; busy = busy_count s.jobs.peers }

-- ---- how much is left to do

-- how many more jobs can be finished at most, of a file of any size: as many as there are numbers of jobs and places for texts, less
-- those that are finished; and one more while the root's block is asked for
abbrev pub one_if_root : Plan → ℕ
one_if_root plans.Root = 1
one_if_root (plans.Parts total) = 0

abbrev pub jobs_left : SwarmState → ℕ
jobs_left s = one_if_root s.plan + (2 ^ 64 + length s.jobs.parts) - finished_count s.jobs

-- how many more steps a peer can take at most until its job is finished or it is refused: it is asked, says its bytes one by one, no
-- more than the limit of what is received, and says no more
abbrev pub steps_left : ℕ → Peer Client → ℕ
steps_left received kinds.Idle = received + 2
steps_left received (kinds.Busy call) = received + 1 - call.client.heard
steps_left received (kinds.Refused fault) = 0

-- how many more steps all peers can take at most, where each job that is finished may cost as many as a peer has, and one besides
abbrev pub left_to_do : SwarmState → ℕ
left_to_do s = jobs_left s * (s.limits.received + 3) + sum (map (steps_left s.limits.received) s.jobs.peers)

-- an event that tells something: a byte at least, an end, or a failure
abbrev pub TellsSome : PeerEvent → Type 0
TellsSome (events.Piece piece) = 0 < length piece.now
TellsSome events.Ended = ⊤
TellsSome events.Failed = ⊤

-- ---- what stays

pub record SettingsStay (old new : SwarmState) : Type 0 where
  pub root : new.root ≡ old.root
  pub part : new.part ≡ old.part
  pub limits : new.limits ≡ old.limits
  pub window : length new.jobs.parts ≡ length old.jobs.parts
  pub peers : length new.jobs.peers ≡ length old.jobs.peers

-- what came before stands, and nothing was put
pub record IsAsBefore (old new : SwarmState) (connections : List Connection) (written : List ℕ) (out : Output) : Type 0 where
  pub plan : new.plan ≡ old.plan
  pub stands : StandsFor new connections written
  pub unput : Unput out
  pub quiet : OutputQuiet out
