-- What the steps of a swarm's calls say.
use Rattle.std.specs.Prelude.{Err, List, None, Ok, Result, [], length, min, ℕ, ◌++◌, ◌+◌, ◌-◌, ◌<◌, ◌^◌, ◌≡◌, ◌≤◌}
use Rattle.tg_fetch.specs.Clients as clients
use Rattle.tg_fetch.specs.declared.client.Client.{Client}
use Rattle.tg_fetch.specs.declared.fault.FetchFault.{FetchFault}
use Rattle.tg_model.specs.Computed.{read}
use Rattle.tg_model.specs.Dag.{Section}
use Rattle.tg_model.specs.LimitNumbers.{LimitNumbers}
use Rattle.tg_model.specs.Queries.{QueryParts}
use Rattle.tg_model.specs.declared.fault.BlockFault.{BlockFault}
use Rattle.tg_model.specs.declared.fault.BlockFault.TheVariants as block_faults
use Rattle.tg_model.specs.declared.kinds.Kind.TheVariants.{Raw}
use Rattle.tg_model.specs.declared.limits.LimitKind.TheVariants as limit_kinds
use Rattle.tg_parts.specs.Connections.{Connection, IsRootBlock, IsRootOfFile, WasAccepted}
use Rattle.tg_parts.specs.Parts.{part_count, root_query}
use Rattle.tg_streams.specs.Streams.{Output, OutputQuiet, Put, PutFront, Unput}
use Rattle.tg_swarm.specs.Jobs.{AreNone, HasFailed, IsJobs, IsOpen, IsProgress}
use Rattle.tg_swarm.specs.Peers.{AreRefused, HasJob, slice_with}
use Rattle.tg_swarm.specs.Swarms.{AnswersJob, IsBlamed, IsHeardAnswer, IsNotFile, IsPeersOwn, StandsFor, SwarmState, asked_of, bytes_of, jobs_left, query_of}
use Rattle.tg_swarm.specs.declared.fault.SwarmFault.{SwarmFault}
use Rattle.tg_swarm.specs.declared.fault.SwarmFault.TheVariants as faults
use Rattle.tg_swarm.specs.declared.peers.Call.{Call}
use Rattle.tg_swarm.specs.declared.peers.Peer.TheVariants as kinds
use Rattle.tg_swarm.specs.declared.swarm.PeerEvent.{PeerEvent}
use Rattle.tg_swarm.specs.declared.swarm.Plan.{Plan}
use Rattle.tg_swarm.specs.declared.swarm.Plan.TheVariants as plans
use Rattle.tg_verify.specs.Sound.{ForEachSound, IsItsAnswer}
use Rattle.tg_verify.specs.declared.verifier.Progress.{Progress}
use Rattle.tg_verify.specs.declared.verifier.Progress.TheVariants as progresses

-- ---- what is true of each swarm

abbrev IsPlanInRange : ℕ → Plan → ℕ → Type 0
IsPlanInRange part plans.Root count = count ≡ 1
IsPlanInRange part (plans.Parts total) count = (total < 2 ^ 63) × (count ≡ part_count part total)

abbrev pub IsInRange : ℕ → Plan → ℕ → Type 0
IsInRange part plan count = (0 < part) × (part ≤ 2 ^ 24) × IsPlanInRange part plan count

-- ---- a busy peer's client is told of an event

-- the text is the answer, by the sections that what was heard carries
pub record IsText (q : QueryParts) (limits : LimitNumbers) (heard text : List ℕ) : Type 0 where
  pub sections : List Section
  pub answered : IsHeardAnswer q limits heard sections
  pub sound : ForEachSound q (λ d. IsItsAnswer q d sections text)

abbrev pub HeardSo : Call Client → List ℕ → PeerEvent → Result Progress FetchFault → Type 0
HeardSo call heard event (Ok progresses.More) = clients.StandsFor call.client (heard ++ bytes_of event) call.text.content
HeardSo call heard event (Ok progresses.Done) = IsText call.client.query call.client.limits (heard ++ bytes_of event) call.text.content
HeardSo call heard event (Err fault) = IsPeersOwn fault → IsBlamed call.client.query call.client.limits heard event fault

-- the client's query and limits stay
pub record CallHeard (old new : Call Client) (heard : List ℕ) (event : PeerEvent) (result : Result Progress FetchFault) : Type 0 where
  pub query : new.client.query ≡ old.client.query
  pub limits : new.client.limits ≡ old.client.limits
  pub says : clients.StandsFor old.client heard old.text.content → HeardSo new heard event result

-- ---- a peer is blamed

abbrev pub IsBlaming : SwarmState → SwarmState → ℕ → FetchFault → Result Progress SwarmFault → Type 0
IsBlaming old new peer fault (Ok progress) =
    (progress ≡ progresses.More) × IsPeersOwn fault × (new ≡ record old { jobs = record old.jobs { peers = slice_with old.jobs.peers peer (kinds.Refused fault) } })
    × (AreRefused new.jobs.peers → ⊥)
IsBlaming old new peer fault (Err faults.NoPeerLeft) =
    IsPeersOwn fault × (new ≡ record old { jobs = record old.jobs { peers = slice_with old.jobs.peers peer (kinds.Refused fault) } })
    × AreRefused new.jobs.peers
IsBlaming old new peer fault (Err faults.OutOfMemory) = (IsPeersOwn fault → ⊥) × (new ≡ old)
IsBlaming old new peer fault (Err other) = ⊥

-- ---- a job is finished

-- no peer has it any more, and its text is the answer
pub record IsAccepting (old : SwarmState) (call : Call Client) (connections : List Connection) (written : List ℕ) : Type 0 where
  pub stands : StandsFor old connections written
  pub is_open : IsOpen old.jobs call.job
  pub nobody : (i : ℕ) → HasJob old.jobs.peers i call.job → ⊥
  pub accepted : WasAccepted connections (query_of old call.job) call.text.content

-- a text was put, all that could be, and the job isn't open any more
pub record HasAccepted (old new : SwarmState) (connections : List Connection) (written : List ℕ) (job : ℕ) (out : Output) (progress : Progress) : Type 0 where
  pub text : List ℕ
  pub put : Put text out
  pub quiet : OutputQuiet out
  pub stands : StandsFor new connections (written ++ text)
  pub progress_is : IsProgress new.jobs progress
  pub closed : new.plan ≡ old.plan → IsOpen new.jobs job → ⊥
  pub fewer : jobs_left new < jobs_left old

-- what the root's block says that was accepted
pub record RootSays (old : SwarmState) (connections : List Connection) (says : List ℕ → Type 0) (out : Output) : Type 0 where
  pub plan : old.plan ≡ plans.Root
  pub block : List ℕ
  pub block_is : IsRootBlock old.root connections block
  pub says_so : says block
  pub unput : Unput out
  pub quiet : OutputQuiet out

-- out failed in a text
pub record FailedIn (old new : SwarmState) (connections : List Connection) (written : List ℕ) (out : Output) : Type 0 where
  pub failed : HasFailed (AnswersJob (asked_of old connections)) new.jobs written out
  pub raw : old.plan ≡ plans.Root → read old.root failed.text ≡ Ok Raw

abbrev pub StopsBy : SwarmState → SwarmState → List Connection → List ℕ → Output → SwarmFault → Type 0
StopsBy old new connections written out faults.NoPeerLeft = ⊥
StopsBy old new connections written out faults.NotFile = RootSays old connections (λ block. IsNotFile old.root connections block) out
StopsBy old new connections written out (faults.BadRoot fault) = RootSays old connections (λ block. read old.root block ≡ Err fault) out
StopsBy old new connections written out (faults.Limit kind number) =
    (kind ≡ limit_kinds.Output) × (number ≡ old.limits.output)
    × RootSays old connections (λ block. (total : ℕ) × IsRootOfFile old.root connections total × (number < total)) out
StopsBy old new connections written out faults.SinkFault = FailedIn old new connections written out
StopsBy old new connections written out faults.OutOfMemory = Unput out × OutputQuiet out

abbrev pub AcceptedEnds : SwarmState → SwarmState → List Connection → List ℕ → Call Client → Output → Result Progress SwarmFault → Type 0
AcceptedEnds old new connections written call out (Ok progress) = HasAccepted old new connections written call.job out progress
AcceptedEnds old new connections written call out (Err fault) = StopsBy old new connections written out fault

-- ---- the root's block

-- it was accepted, it is the one job, and no peer has it any more
pub record IsRooting (old : SwarmState) (block : List ℕ) (connections : List Connection) : Type 0 where
  pub plan : old.plan ≡ plans.Root
  pub going : old.ended ≡ None
  pub accepted : WasAccepted connections (root_query old.root) block
  pub count : old.jobs.count ≡ 1
  pub written : old.jobs.written ≡ 0
  pub none : AreNone old.jobs.parts
  pub jobs : IsJobs (AnswersJob (asked_of old connections)) old.jobs
  pub nobody : (i job : ℕ) → HasJob old.jobs.peers i job → ⊥

pub record HasRooted (old new : SwarmState) (connections : List Connection) (out : Output) (progress : Progress) : Type 0 where
  pub text : List ℕ
  pub put : Put text out
  pub quiet : OutputQuiet out
  pub stands : StandsFor new connections text
  pub progress_is : IsProgress new.jobs progress
  pub closed : new.plan ≡ plans.Root → new.jobs.written ≡ 1
  pub fewer : jobs_left new < jobs_left old

abbrev pub RootedEnds : SwarmState → SwarmState → List Connection → List ℕ → Output → Result Progress SwarmFault → Type 0
RootedEnds old new connections block out (Ok progress) = HasRooted old new connections out progress
RootedEnds old new connections block out (Err fault) = StopsBy old new connections [] out fault

-- it has no kind, or no memory was found
abbrev pub fault_of_block : BlockFault → SwarmFault
fault_of_block block_faults.OutOfMemory = faults.OutOfMemory
fault_of_block fault = faults.BadRoot fault

-- it begins with the parts, where the limit admits so many bytes
abbrev pub IsBeginning : SwarmState → SwarmState → ℕ → Result Progress SwarmFault → Type 0
IsBeginning old new total (Ok progress) =
    (new ≡ record old { plan = plans.Parts total; jobs = record old.jobs { count = part_count old.part total; written = 0 } })
    × (new.jobs.count < 2 ^ 64) × (new.jobs.written ≤ new.jobs.count → IsProgress new.jobs progress)
IsBeginning old new total (Err fault) = (new ≡ old) × (fault ≡ faults.Limit limit_kinds.Output old.limits.output) × (old.limits.output < total)

-- a raw block is put, with which one more job is done with
abbrev pub IsPuttingRoot : SwarmState → SwarmState → List ℕ → Output → Result Progress SwarmFault → Type 0
IsPuttingRoot old new block out (Ok progress) =
    (new ≡ record old { jobs = record old.jobs { written = min (old.jobs.written + 1) (2 ^ 64 - 1) } }) × Put block out × OutputQuiet out
    × (new.jobs.written ≤ new.jobs.count → IsProgress new.jobs progress)
IsPuttingRoot old new block out (Err faults.SinkFault) = (new ≡ old) × PutFront block out
IsPuttingRoot old new block out (Err (faults.Limit kind number)) =
    (new ≡ old) × (kind ≡ limit_kinds.Output) × (number ≡ old.limits.output) × (number < length block) × Unput out × OutputQuiet out
IsPuttingRoot old new block out (Err other) = ⊥
