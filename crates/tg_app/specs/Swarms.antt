-- `swarm`: a file goes by parts from several gateways to out, none of which is trusted (Trustless Gateway specification, entity-bytes).
use Rattle.std.specs.List.{flat_map}
use Rattle.std.specs.Prelude.{All, Err, List, Ok, Option, Result, Some, None, [], codes, ⊤, ℕ, ◌<◌, ◌∷◌, ◌≡◌, ◌⊎◌}
use Rattle.tg_app.specs.Objects.{DialUse}
use Rattle.tg_bytes.specs.Ascii.{space}
use Rattle.tg_commands.specs.Blocks.{OutputUntouched}
use Rattle.tg_commands.specs.Lines.{Says, exit_status}
use Rattle.tg_commands.specs.declared.fault.CommandFault.{CommandFault}
use Rattle.tg_commands.specs.declared.fault.CommandFault.TheVariants as refusals
use Rattle.tg_dials.specs.Dials.{DialRose, Dialling}
use Rattle.tg_fetch.specs.Received.{AreReceived}
use Rattle.tg_fetch.specs.declared.fault.FetchFault.{FetchFault}
use Rattle.tg_fetch.specs.declared.fault.FetchFault.TheVariants as fetches
use Rattle.tg_model.specs.Content.{content}
use Rattle.tg_model.specs.Dag.{Dag, root_cid}
use Rattle.tg_model.specs.Fits.{CollisionPair}
use Rattle.tg_model.specs.LimitNumbers.{standard}
use Rattle.tg_model.specs.Sound.{IsSound}
use Rattle.tg_model.specs.declared.fault.BlockFault.{BlockFault}
use Rattle.tg_model.specs.declared.limits.LimitKind.{LimitKind}
use Rattle.tg_model_laws.specs.FileSizes.{HasFileRoot, root_total}
use Rattle.tg_parts.specs.Connections.{Connection, all_sections}
use Rattle.tg_streams.specs.Streams.{Output, Put}
use Rattle.tg_swarm.specs.Laws.{IsFrontOfFile}
use Rattle.tg_swarm.specs.Peers.{refusals_of}
use Rattle.tg_swarm.specs.Swarms.{SwarmState}
use Rattle.tg_swarm.specs.declared.fault.SwarmFault.{SwarmFault}
use Rattle.tg_swarm.specs.declared.fault.SwarmFault.TheVariants as faults
use Rattle.tg_swarming.specs.Counts.{AllBack}
use Rattle.tg_swarming.specs.Rounds.{Setup, SwarmEnds}
use Rattle.tg_swarming.specs.Sound.{IsDoneFor, IsServed, IsServedAt, IsToldIn, IsntRefused, SoundRun}
use Rattle.tg_verify.specs.declared.fault.Refusal.{Refusal}
use Rattle.tg_verify.specs.declared.fault.Refusal.TheVariants as verifiers
use Rattle.tg_words.specs.SwarmLines.{SwarmParts}

-- ---- why each peer was refused

-- the word of a refusal
abbrev pub verifier_word : Refusal → List ℕ
verifier_word (verifiers.Extra sections) = codes "Extra"
verifier_word (verifiers.Limit kind number) = codes "Limit"
verifier_word (verifiers.BadDigest cid) = codes "BadDigest"
verifier_word (verifiers.WrongBlock want got) = codes "WrongBlock"
verifier_word (verifiers.BadBlock cid fault) = codes "BadBlock"
verifier_word (verifiers.BadSize declared actual) = codes "BadSize"
verifier_word (verifiers.NotFolder segment) = codes "NotFolder"
verifier_word (verifiers.NotThere segment) = codes "NotThere"
verifier_word verifiers.SinkFault = codes "SinkFault"
verifier_word (verifiers.Truncated want sections) = codes "Truncated"
verifier_word verifiers.OutOfMemory = codes "OutOfMemory"

abbrev pub fetch_word : FetchFault → List ℕ
fetch_word (fetches.Refused fault) = verifier_word fault
fetch_word (fetches.Status status) = codes "Status"
fetch_word fetches.BadType = codes "BadType"
fetch_word fetches.BadReplyHead = codes "BadReplyHead"
fetch_word fetches.BadFraming = codes "BadFraming"
fetch_word (fetches.BadCar fault) = codes "BadCar"
fetch_word fetches.PeerFault = codes "PeerFault"
fetch_word fetches.KeepFault = codes "PackFault"
fetch_word fetches.OutOfMemory = codes "OutOfMemory"

-- the words of several, each behind a space
abbrev pub words_of : List FetchFault → List ℕ
words_of faults = flat_map (λ fault. space ∷ fetch_word fault) faults

-- the exit status of `fetch` for a refusal, and for the first of several
abbrev pub verifier_status : Refusal → ℕ
verifier_status (verifiers.Limit kind number) = 7
verifier_status (verifiers.NotFolder segment) = 9
verifier_status (verifiers.NotThere segment) = 9
verifier_status verifiers.SinkFault = 6
verifier_status verifiers.OutOfMemory = 8
verifier_status other = 3

abbrev pub peer_status : FetchFault → ℕ
peer_status (fetches.Refused fault) = verifier_status fault
peer_status (fetches.Status status) = 4
peer_status fetches.PeerFault = 5
peer_status fetches.KeepFault = 6
peer_status fetches.OutOfMemory = 8
peer_status other = 3

abbrev pub first_status : List FetchFault → ℕ
first_status [] = 3
first_status (fault ∷ faults) = peer_status fault

-- ---- how it ends

-- the refusal that tells why the file isn't there, where these peers were refused: for want of memory for their words it is that
abbrev pub IsSwarmRefusal : List FetchFault → SwarmFault → CommandFault → Type 0
IsSwarmRefusal peers faults.NoPeerLeft refusal = (refusal ≡ refusals.NoPeerLeft (words_of peers) (first_status peers)) ⊎ (refusal ≡ refusals.OutOfMemory)
IsSwarmRefusal peers faults.NotFile refusal = refusal ≡ refusals.NotFile
IsSwarmRefusal peers (faults.BadRoot fault) refusal = refusal ≡ refusals.BadRoot fault
IsSwarmRefusal peers (faults.Limit kind number) refusal = refusal ≡ refusals.Limit kind number
IsSwarmRefusal peers faults.SinkFault refusal = refusal ≡ refusals.SinkFault
IsSwarmRefusal peers faults.OutOfMemory refusal = refusal ≡ refusals.OutOfMemory

abbrev pub IsSwarmEnd : List FetchFault → Result ⊤ SwarmFault → Option CommandFault → Type 0
IsSwarmEnd peers (Ok done) end = end ≡ None
IsSwarmEnd peers (Err fault) end = (refusal : CommandFault) × (end ≡ Some refusal) × IsSwarmRefusal peers fault refusal

abbrev pub swarm_setup : SwarmParts → Setup
swarm_setup parts = record { root = parts.root; part = parts.part; limits = standard; addrs = parts.addrs }

-- nothing was done for want of memory
pub record SwarmUnbegun (dial : DialUse) (out : Output) (end : Option CommandFault) : Type 0 where
  pub undialled : dial.same_dial
  pub unput : OutputUntouched out
  pub is : end ≡ Some refusals.OutOfMemory

-- it ran, and what that says of each sound DAG with the root, and of one that all peers serve rightly, or one of them
pub record SwarmRan (parts : SwarmParts) (dial : Dialling) (out : Output) (end : Option CommandFault) : Type 0 where
  pub now : SwarmState
  pub result : Result ⊤ SwarmFault
  pub ends : SwarmEnds (swarm_setup parts) now dial out result
  pub end_is : IsSwarmEnd (refusals_of now.jobs.peers) result end
  pub sound : (d : Dag) → IsSound d → root_cid d ≡ parts.root → SoundRun (swarm_setup parts) dial out result d
  pub own : (d : Dag) → IsServed (swarm_setup parts) d dial → (DialRose dial → ⊥) → IsDoneFor d out result
  pub right : (d : Dag) (addr : List ℕ) → IsServedAt (swarm_setup parts) d addr dial → (DialRose dial → ⊥) → IsntRefused (swarm_setup parts) now addr result
  pub back : AllBack dial

abbrev pub SwarmAnswers : SwarmParts → DialUse → Output → Option CommandFault → Type 0
SwarmAnswers parts dial out end = SwarmUnbegun dial out end ⊎ SwarmRan parts dial.dialling out end

-- ---- what the statuses say

-- at 0: the run, in which all of the file was put
abbrev pub IsWholeSwarm : SwarmParts → Dialling → Output → Type 0
IsWholeSwarm parts dial out = (now : SwarmState) × SwarmEnds (swarm_setup parts) now dial out (Ok tt)

-- what was put is a front of the file of a sound DAG with the root, and nothing where there is none; all of it at status 0; at 9 the
-- root is no file; it has a kind; and where the line says so it declares more bytes than the limit
pub record SwarmSays (d : Dag) (written : List ℕ) (status : ℕ) (end : Option CommandFault) : Type 0 where
  pub front : IsFrontOfFile written d
  pub whole : status ≡ 0 → HasFileRoot d × (written ≡ content d)
  pub no_file : status ≡ 9 → HasFileRoot d → ⊥
  pub reads : (fault : BlockFault) → end ≡ Some (refusals.BadRoot fault) → ⊥
  pub large : (kind : LimitKind) (number : ℕ) → end ≡ Some (refusals.Limit kind number) → HasFileRoot d × (number < root_total d)

-- a block that was received in one of the calls, as far as these are told, and one of the DAG are different bytes with one SHA-256
pub record HasSwarmPair (parts : SwarmParts) (d : Dag) (dial : Dialling) : Type 0 where
  pub connections : List Connection
  pub told : All (IsToldIn (swarm_setup parts) dial) connections
  pub received : All (λ c. AreReceived standard.block c.heard c.query c.sections) connections
  pub pair : CollisionPair (all_sections connections) d

-- at any status, beside a sound DAG with the root: these connections came, each heard in one of the calls of the dial, as far as these
-- are told, and these sections stand whole in them; what was put is so; or a received block and one of the DAG are different bytes
-- with one SHA-256
pub record VouchedSwarm (parts : SwarmParts) (d : Dag) (dial : Dialling) (out err : Output) (status : ℕ) : Type 0 where
  pub connections : List Connection
  pub told : All (IsToldIn (swarm_setup parts) dial) connections
  pub received : All (λ c. AreReceived standard.block c.heard c.query c.sections) connections
  pub written : List ℕ
  pub put : Put written out
  pub end : Option CommandFault
  pub status_is : status ≡ exit_status end
  pub line : Says end err
  pub says : SwarmSays d written status end ⊎ CollisionPair (all_sections connections) d
