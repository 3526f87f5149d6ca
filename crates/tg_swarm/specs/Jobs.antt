-- Jobs that are asked of peers one by one, and whose texts are put in order.
use Rattle.std.specs.List.{slice_get}
use Rattle.std.specs.Prelude.{List, None, Option, Some, [], drop, length, slice_set, ℕ, ◌++◌, ◌+◌, ◌<◌, ◌^◌, ◌∷◌, ◌≡◌, ◌≢◌, ◌≤◌}
use Rattle.tg_parts.specs.Connections.{AreAnswers}
use Rattle.tg_streams.specs.Streams.{Output, OutputQuiet, Put, PutFront}
use Rattle.tg_swarm.specs.Peers.{HasJob, IsAsked}
use Rattle.tg_swarm.specs.declared.peers.Peer.{Peer}
use Rattle.tg_swarm.specs.declared.peers.Peer.TheVariants as kinds
use Rattle.tg_verify.specs.declared.verifier.Progress.{Progress}
use Rattle.tg_verify.specs.declared.verifier.Progress.TheVariants as progresses

pub record JobsState (C : Type 0) : Type 0 where
  pub count : ℕ  -- how many jobs there are
  pub written : ℕ  -- how many of them are done with: the first ones
  pub parts : List (Option (List ℕ))  -- of those behind them the text, where it is finished
  pub peers : List (Peer C)

-- ---- a job

-- it isn't finished, and is among those that may be asked
pub record IsOpen {C : Type 0} (s : JobsState C) (job : ℕ) : Type 0 where
  pub place : ℕ
  pub is_at : job ≡ s.written + place
  pub within : job < s.count
  pub unfinished : slice_get s.parts place ≡ Some None

-- and is asked of no peer
abbrev pub IsWaiting : {C : Type 0} → JobsState C → ℕ → Type 0
IsWaiting s job = IsOpen s job × (IsAsked s.peers job → ⊥)

-- and no lower one waits
abbrev pub IsLowest : {C : Type 0} → JobsState C → ℕ → Type 0
IsLowest s job = IsWaiting s job × ((other : ℕ) → other < job → IsWaiting s other → ⊥)

-- ---- what stands: each job that isn't done with is finished, asked of one peer, or waits

-- but for the first one behind those that are done with
pub record IsAlmost {C : Type 0} (answers : ℕ → List ℕ → Type 0) (s : JobsState C) : Type 0 where
  pub within : s.written ≤ s.count
  pub fits : s.count < 2 ^ 64
  pub room : 0 < length s.parts
  -- what is asked of a peer isn't finished, and is asked of no other
  pub jobs : (i job : ℕ) → HasJob s.peers i job → IsOpen s job
  pub one : (i j job : ℕ) → HasJob s.peers i job → HasJob s.peers j job → i ≡ j
  -- what is finished is the answer
  pub done : (k : ℕ) (text : List ℕ) → slice_get s.parts k ≡ Some (Some text) → (s.written + k < s.count) × answers (s.written + k) text

-- which isn't finished
pub record IsJobs {C : Type 0} (answers : ℕ → List ℕ → Type 0) (s : JobsState C) : Type 0 where
  pub almost : IsAlmost answers s
  pub first : slice_get s.parts 0 ≡ Some None

-- none of the jobs is finished, and nothing is asked of the peers
abbrev pub AreNone : List (Option (List ℕ)) → Type 0
AreNone parts = (k : ℕ) (part : Option (List ℕ)) → slice_get parts k ≡ Some part → part ≡ None

abbrev pub AreIdle : {C : Type 0} → List (Peer C) → Type 0
AreIdle {C} peers = (i : ℕ) (peer : Peer C) → slice_get peers i ≡ Some peer → peer ≡ kinds.Idle

-- ---- steps

-- the others stay as they were
abbrev pub OthersStay : {C : Type 0} → List (Peer C) → List (Peer C) → ℕ → Type 0
OthersStay old new at = (i : ℕ) → i ≢ at → slice_get new i ≡ slice_get old i

-- a job is finished
abbrev pub with_part : {C : Type 0} → JobsState C → ℕ → List ℕ → JobsState C
with_part s place text = record s { parts = slice_set s.parts place (Some text) }

-- the first is taken, and the places of the others move up
abbrev pub moved_up : {C : Type 0} → JobsState C → JobsState C
moved_up s = record s { parts = drop 1 s.parts ++ None ∷ [] }

-- how many of these texts are there
abbrev pub text_count : List (Option (List ℕ)) → ℕ
text_count [] = 0
text_count (None ∷ parts) = text_count parts
text_count (Some text ∷ parts) = 1 + text_count parts

-- how many jobs are finished, be they done with or kept
abbrev pub finished_count : {C : Type 0} → JobsState C → ℕ
finished_count s = s.written + text_count s.parts

-- of the jobs that could be asked before, none is open now that wasn't, and as many are finished as before
pub record HasOpened {C : Type 0} (old new : JobsState C) : Type 0 where
  pub grown : old.written ≤ new.written
  pub same : length new.parts ≡ length old.parts
  pub finished : finished_count new ≡ finished_count old
  pub opened : (job : ℕ) → job < old.written + length old.parts → IsOpen new job → IsOpen old job

-- how far it is
abbrev pub IsProgress : {C : Type 0} → JobsState C → Progress → Type 0
IsProgress s progresses.More = s.written < s.count
IsProgress s progresses.Done = s.written ≡ s.count

-- ---- what is finished and has no lower one to come is put

-- what was put behind what was written
pub record HasPut {C : Type 0} (accepts : ℕ → List ℕ → Type 0) (new : JobsState C) (written : List ℕ) (out : Output) : Type 0 where
  pub text : List ℕ
  pub put : Put text out
  pub quiet : OutputQuiet out
  pub answers : AreAnswers accepts new.written (written ++ text)
  pub jobs : IsJobs accepts new

-- or out failed in such a text
pub record HasFailed {C : Type 0} (accepts : ℕ → List ℕ → Type 0) (new : JobsState C) (written : List ℕ) (out : Output) : Type 0 where
  pub text : List ℕ
  pub front : PutFront text out
  pub job : ℕ
  pub within : job ≤ new.count
  pub answers : AreAnswers accepts job (written ++ text)

-- ---- each job

-- done with; finished and kept; asked of one peer; waiting; or too far ahead to be asked yet
pub data JobIs {C : Type 0} (answers : ℕ → List ℕ → Type 0) (s : JobsState C) (job : ℕ) : Type 0 where
  written : job < s.written → JobIs answers s job
  finished : (k : ℕ) (text : List ℕ) → job ≡ s.written + k → slice_get s.parts k ≡ Some (Some text) → answers job text → JobIs answers s job
  asked : (i : ℕ) → HasJob s.peers i job → ((j : ℕ) → HasJob s.peers j job → j ≡ i) → JobIs answers s job
  waits : IsWaiting s job → JobIs answers s job
  ahead : s.written + length s.parts ≤ job → JobIs answers s job

-- no peer has a job
abbrev pub NoneBusy : {C : Type 0} → JobsState C → Type 0
NoneBusy {C} s = (i job : ℕ) → HasJob s.peers i job → ⊥
