-- What is said of each sound DAG with the root of a swarm that has ended, and of one whose peers serve it rightly (Trustless Gateway
-- specification, entity-bytes; UnixFS specification, File).
use Rattle.std.specs.List.{slice_get}
use Rattle.std.specs.Prelude.{All, Contains, Err, List, Ok, Result, Some, false, ⊤, ℕ, ◌++◌, ◌<◌, ◌≡◌, ◌≤◌, ◌⊎◌}
use Rattle.tg_dials.specs.Dials.{Dialling}
use Rattle.tg_fetch.specs.Laws.{CarriesWithin}
use Rattle.tg_fetch.specs.Received.{AreReceived}
use Rattle.tg_fetch.specs.declared.fault.FetchFault.{FetchFault}
use Rattle.tg_heard.specs.Exchanges.{HasOneBlockEach}
use Rattle.tg_links.specs.declared.call.Call.{Call}
use Rattle.tg_model.specs.Answer.{answer}
use Rattle.tg_model.specs.Content.{content}
use Rattle.tg_model.specs.Dag.{Dag, root_cid}
use Rattle.tg_model.specs.Fits.{CollisionPair}
use Rattle.tg_model.specs.LimitNumbers.{LimitNumbers}
use Rattle.tg_model.specs.Queries.{QueryParts}
use Rattle.tg_model.specs.Sound.{IsSound}
use Rattle.tg_model.specs.Traversal.{block_list}
use Rattle.tg_model_laws.specs.FileSizes.{HasFileRoot, root_total}
use Rattle.tg_parts.specs.Connections.{Connection, all_sections}
use Rattle.tg_query.specs.Requests.{request_text}
use Rattle.tg_streams.specs.Streams.{Output, OutputRose, Put}
use Rattle.tg_swarm.specs.Laws.{IsFrontOfFile}
use Rattle.tg_swarm.specs.Swarms.{SwarmState}
use Rattle.tg_swarm.specs.declared.fault.SwarmFault.{SwarmFault}
use Rattle.tg_swarm.specs.declared.fault.SwarmFault.TheVariants as faults
use Rattle.tg_swarm.specs.declared.peers.Peer.TheVariants.{Refused}
use Rattle.tg_swarming.specs.Rounds.{IsAskedFor, Setup}
use Rattle.tg_verify.specs.Laws.{IsWithinLimits}

-- ---- each sound DAG

-- all of the file at Ok; and what a fault says of the root
abbrev pub SaysOfEnd : Result ⊤ SwarmFault → List ℕ → Dag → Type 0
SaysOfEnd (Ok done) written d = HasFileRoot d × (written ≡ content d)
SaysOfEnd (Err faults.NotFile) written d = HasFileRoot d → ⊥
SaysOfEnd (Err (faults.BadRoot fault)) written d = ⊥
SaysOfEnd (Err (faults.Limit kind number)) written d = HasFileRoot d × (number < root_total d)
SaysOfEnd (Err other) written d = ⊤

-- where the dial tells the calls, it was heard in one of them, in which its request was said to one of the peers unless that failed
abbrev pub IsToldIn : Setup → Dialling → Connection → Type 0
IsToldIn setup dial c = (before calls : List Call) → dial.calls_old ≡ Some before → dial.calls_new ≡ Some (before ++ calls)
    → (call : Call) × Contains calls call × (call.heard ≡ c.heard)
    × (call.failed ≡ false → (addr : List ℕ) × Contains setup.addrs addr × (call.said ≡ request_text c.query addr))

-- what was put is a front of the file, nothing where there is none, and what the end says holds; or a block that was received in one of
-- the connections and one of the DAG are different bytes with one SHA-256
pub record SoundRun (setup : Setup) (dial : Dialling) (out : Output) (result : Result ⊤ SwarmFault) (d : Dag) : Type 0 where
  pub connections : List Connection
  pub told : All (IsToldIn setup dial) connections
  pub received : All (λ c. AreReceived setup.limits.block c.heard c.query c.sections) connections
  pub written : List ℕ
  pub put : Put written out
  pub says : (IsFrontOfFile written d × SaysOfEnd result written d) ⊎ CollisionPair (all_sections connections) d

-- ---- peers that serve rightly

-- what was heard in a call carries the sections of the DAG's own traversal, with nothing above a limit
pub record IsOwnReplyTo (q : QueryParts) (limits : LimitNumbers) (d : Dag) (call : Call) : Type 0 where
  pub text : List ℕ
  pub answers : answer q d ≡ Some text
  pub within : IsWithinLimits q limits d
  pub carries : CarriesWithin q limits call.heard call.over (block_list q d)

abbrev pub IsOwnCall : Setup → Dag → Call → Type 0
IsOwnCall setup d call = (q : QueryParts) (limits : LimitNumbers) (addr : List ℕ) → IsAskedFor setup q limits → Contains setup.addrs addr
    → call.said ≡ request_text q addr → IsOwnReplyTo q limits d call

-- or each in which a request was said to the peer at this address, whatever came of the others
abbrev pub IsOwnCallTo : Setup → Dag → List ℕ → Call → Type 0
IsOwnCallTo setup d addr call = (q : QueryParts) (limits : LimitNumbers) → IsAskedFor setup q limits → call.said ≡ request_text q addr
    → IsOwnReplyTo q limits d call

-- the DAG has the root, no two different blocks of it stand under one CID, and each call is so
pub record IsServedBy (setup : Setup) (d : Dag) (dial : Dialling) (Own : Call → Type 0) : Type 0 where
  pub sound : IsSound d
  pub root : root_cid d ≡ setup.root
  pub one_each : HasOneBlockEach d
  pub before : List Call
  pub calls : List Call
  pub old : dial.calls_old ≡ Some before
  pub new : dial.calls_new ≡ Some (before ++ calls)
  pub own : All Own calls

-- by all peers, and it is that of a file of no more bytes than the limit; and by the one at this address
pub record IsServed (setup : Setup) (d : Dag) (dial : Dialling) : Type 0 where
  pub file : HasFileRoot d
  pub few : root_total d ≤ setup.limits.output
  pub by : IsServedBy setup d dial (IsOwnCall setup d)

pub record IsServedAt (setup : Setup) (d : Dag) (addr : List ℕ) (dial : Dialling) : Type 0 where
  pub peer : Contains setup.addrs addr
  pub by : IsServedBy setup d dial (IsOwnCallTo setup d addr)

-- a peer at this address wasn't refused, at Ok; and some peer is left at each other end
abbrev pub IsntRefused : Setup → SwarmState → List ℕ → Result ⊤ SwarmFault → Type 0
IsntRefused setup now addr (Ok done) =
    (peer : ℕ) (fault : FetchFault) → slice_get setup.addrs peer ≡ Some addr → slice_get now.jobs.peers peer ≡ Some (Refused fault) → ⊥
IsntRefused setup now addr (Err faults.NoPeerLeft) = ⊥
IsntRefused setup now addr (Err other) = ⊤

-- all of the file was put, but for a fault of out and want of memory
abbrev pub IsDoneFor : Dag → Output → Result ⊤ SwarmFault → Type 0
IsDoneFor d out (Ok done) = Put (content d) out
IsDoneFor d out (Err faults.SinkFault) = OutputRose out
IsDoneFor d out (Err faults.OutOfMemory) = ⊤
IsDoneFor d out (Err other) = ⊥
