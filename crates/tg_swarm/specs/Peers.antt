-- Which jobs are asked of which peers.
use Rattle.std.specs.List.{slice_get}
use Rattle.std.specs.Prelude.{List, None, Option, Some, [], map, slice_set, sum, ⊤, ℕ, ◌∷◌, ◌≡◌}
use Rattle.tg_fetch.specs.declared.fault.FetchFault.{FetchFault}
use Rattle.tg_swarm.specs.declared.peers.Peer.{Peer}
use Rattle.tg_swarm.specs.declared.peers.Peer.TheVariants as kinds

-- the job that is asked of a peer
abbrev pub job_of : {C : Type 0} → Peer C → Option ℕ
job_of kinds.Idle = None
job_of (kinds.Busy call) = Some call.job
job_of (kinds.Refused fault) = None

-- why a peer was refused
abbrev pub refusal_of : {C : Type 0} → Peer C → Option FetchFault
refusal_of kinds.Idle = None
refusal_of (kinds.Busy call) = None
refusal_of (kinds.Refused fault) = Some fault

abbrev pub IsRefusedPeer : {C : Type 0} → Peer C → Type 0
IsRefusedPeer kinds.Idle = ⊥
IsRefusedPeer (kinds.Busy call) = ⊥
IsRefusedPeer (kinds.Refused fault) = ⊤

-- of how many peers something is asked
abbrev pub one_if_busy : {C : Type 0} → Peer C → ℕ
one_if_busy kinds.Idle = 0
one_if_busy (kinds.Busy call) = 1
one_if_busy (kinds.Refused fault) = 0

abbrev pub busy_count : {C : Type 0} → List (Peer C) → ℕ
busy_count peers = sum (map one_if_busy peers)

-- this peer has the job
abbrev pub HasJob : {C : Type 0} → List (Peer C) → ℕ → ℕ → Type 0
HasJob {C} peers i job = (peer : Peer C) × (slice_get peers i ≡ Some peer) × (job_of peer ≡ Some job)

-- one of them has
abbrev pub IsAsked : {C : Type 0} → List (Peer C) → ℕ → Type 0
IsAsked peers job = (i : ℕ) × HasJob peers i job

-- each was refused
abbrev pub AreRefused : {C : Type 0} → List (Peer C) → Type 0
AreRefused {C} peers = (i : ℕ) (peer : Peer C) → slice_get peers i ≡ Some peer → IsRefusedPeer peer

-- the faults for which peers were refused, in the order of the peers
abbrev pub and_refusal : {C : Type 0} → Peer C → List FetchFault → List FetchFault
and_refusal kinds.Idle faults = faults
and_refusal (kinds.Busy call) faults = faults
and_refusal (kinds.Refused fault) faults = fault ∷ faults

abbrev pub refusals_of : {C : Type 0} → List (Peer C) → List FetchFault
refusals_of [] = []
refusals_of (peer ∷ peers) = and_refusal peer (refusals_of peers)

-- with another peer in this place
abbrev pub slice_with : {C : Type 0} → List (Peer C) → ℕ → Peer C → List (Peer C)
slice_with peers at peer = slice_set peers at peer
