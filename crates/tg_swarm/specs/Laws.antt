-- Laws of a swarm (Trustless Gateway specification, entity-bytes; UnixFS specification, File).
use Rattle.std.specs.Prelude.{List, None, Ok, [], length, ℕ, ◌++◌, ◌<◌, ◌≡◌, ◌≤◌, ◌⊎◌}
use Rattle.tg_cid.specs.Cid.{CidParts}
use Rattle.tg_fetch.specs.declared.client.Client.{Client}
use Rattle.tg_model.specs.Computed.{read}
use Rattle.tg_model.specs.Content.{content}
use Rattle.tg_model.specs.Dag.{Dag, root_cid}
use Rattle.tg_model.specs.Fits.{CollisionPair}
use Rattle.tg_model.specs.LimitNumbers.{LimitNumbers}
use Rattle.tg_model.specs.Sound.{IsSound}
use Rattle.tg_model.specs.declared.kinds.Kind.TheVariants.{Raw}
use Rattle.tg_model_laws.specs.FileSizes.{HasFileRoot}
use Rattle.tg_parts.specs.Connections.{AreAnswers, Connection, IsRootOfFile, all_sections}
use Rattle.tg_swarm.specs.Jobs.{AreIdle, AreNone, IsJobs, IsWaiting, JobIs, JobsState, NoneBusy}
use Rattle.tg_swarm.specs.Swarms.{AnswersJob, Asked, StandsFor, SwarmState}
use Rattle.tg_swarm.specs.declared.swarm.Plan.{Plan}
use Rattle.tg_swarm.specs.declared.swarm.Plan.TheVariants as plans

-- ---- jobs

abbrev pub EachJob : Type 0
EachJob = (a : Asked) (s : JobsState Client) (job : ℕ) → IsJobs (AnswersJob a) s → job < s.count → JobIs (AnswersJob a) s job

abbrev pub FirstWaits : Type 0
FirstWaits = (a : Asked) (s : JobsState Client) → IsJobs (AnswersJob a) s → s.written < s.count → NoneBusy s → IsWaiting s s.written

-- ---- the beginning

-- a swarm whose one job is the root's block, and of whose peers nothing is asked, stands for no connection
abbrev pub NewStand : Type 0
NewStand = (root : CidParts) (part : ℕ) (limits : LimitNumbers) (jobs : JobsState Client) → jobs.count ≡ 1 → jobs.written ≡ 0
    → AreNone jobs.parts → 0 < length jobs.parts → AreIdle jobs.peers
    → StandsFor (record { root = root; part = part; limits = limits; plan = plans.Root; jobs = jobs; ended = None }) [] []

-- ---- what is written

-- it is a front of the file, and nothing where there is none
pub record IsFrontOfFile (written : List ℕ) (d : Dag) : Type 0 where
  pub front : HasFileRoot d → (rest : List ℕ) × (content d ≡ written ++ rest)
  pub none : (HasFileRoot d → ⊥) → written ≡ []

-- the first jobs are those of the root's block, which is raw where it is written; or of the parts of a file
abbrev pub IsPlannedFor : Asked → ℕ → List ℕ → Plan → Type 0
IsPlannedFor a n written plans.Root = (n ≤ 1) × (n ≡ 1 → read a.root written ≡ Ok Raw)
IsPlannedFor a n written (plans.Parts total) = IsRootOfFile a.root a.connections total

-- texts that were accepted for the first jobs are a front of the file; or there is a pair
abbrev pub FrontsAreSound : Type 0
FrontsAreSound = (a : Asked) (n : ℕ) (written : List ℕ) (d : Dag) → 0 < a.part → IsPlannedFor a n written a.plan
    → AreAnswers (AnswersJob a) n written → IsSound d → root_cid d ≡ a.root → IsFrontOfFile written d ⊎ CollisionPair (all_sections a.connections) d

-- and all of it once all jobs are done with
pub record SaysOfSwarm (s : SwarmState) (written : List ℕ) (d : Dag) : Type 0 where
  pub front : IsFrontOfFile written d
  pub whole : s.jobs.written ≡ s.jobs.count → HasFileRoot d × (written ≡ content d)

abbrev pub SwarmsAreSound : Type 0
SwarmsAreSound = (s : SwarmState) (connections : List Connection) (written : List ℕ) (d : Dag) → 0 < s.part → StandsFor s connections written
    → IsSound d → root_cid d ≡ s.root → SaysOfSwarm s written d ⊎ CollisionPair (all_sections connections) d
