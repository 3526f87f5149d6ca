-- Laws of lanes (RFC 9112, sections 2.2 and 9.3).
use Rattle.std.specs.Prelude.{All, Contains, List, None, Option, Some, [], replicate, slice_get, take, true, ℕ, ◌≡◌, ◌≤◌, ◌⊎◌}
use Rattle.tg_faults.specs.Faults.{Rose}
use Rattle.tg_gateway.specs.Sessions.{SessionView, new_session}
use Rattle.tg_gateway.specs.declared.fault.GatewayFault.{GatewayFault}
use Rattle.tg_gateway.specs.declared.fault.GatewayFault.TheVariants as faults
use Rattle.tg_lanes.specs.History.{AreInTurn, AreSentIn, Fed, HasRisen, HasStoreRisen, LaneStands, LanesStandFor, Move, fed_in, own_of, written_in}
use Rattle.tg_model.specs.Stores.{Store}
use Rattle.tg_reply.specs.Sent.{CountsBetween, Sent, is_broken}
use Rattle.tg_reply.specs.Written.{replies_for}
use Rattle.tg_reply.specs.Sessions.{SessionState}

-- no reply of the session broke off, and it refused nothing but bytes past those that may be received
abbrev pub IsUnbrokenBy : Option GatewayFault → SessionState → Type 0
IsUnbrokenBy None session = session.failed ≡ 0
IsUnbrokenBy (Some (faults.Limit number)) session = session.failed ≡ 0
IsUnbrokenBy (Some faults.LinkFault) session = ⊥
IsUnbrokenBy (Some faults.OutOfMemory) session = ⊥

abbrev pub IsUnbroken : SessionView → Type 0
IsUnbroken session = IsUnbrokenBy session.refused session.state

-- in its own events a count rose, or it wanted memory
abbrev pub HasFailedItself : SessionView → List Fed → Type 0
HasFailedItself session own = HasRisen own ⊎ (session.refused ≡ Some faults.OutOfMemory)

-- ---- one lane

-- such a session has written just the replies to the bytes that it was fed, of which no more count than may be received
abbrev pub LaneWritesReplies : Type 0
LaneWritesReplies = (store : Store) (session : SessionView) (since now : ℕ) (own : List Fed) → LaneStands session (Some store) since now own
    → IsUnbroken session → written_in own ≡ replies_for store (take session.state.most (fed_in own))

-- any other is one in whose own events a count rose, or one that wanted memory
abbrev pub BreaksByItsOwn : Type 0
BreaksByItsOwn = (store : Store) (session : SessionView) (since now : ℕ) (own : List Fed) → LaneStands session (Some store) since now own
    → IsUnbroken session ⊎ HasFailedItself session own

-- ---- the replies of a lane, and the store's counts

-- the store's counts at replies that were sent in events that were in turn go on behind the number that the events lie behind
abbrev pub RepliesAreInTurn : Type 0
RepliesAreInTurn = (since now : ℕ) (own : List Fed) (sent : List Sent) → AreInTurn since own now → AreSentIn own sent
    → CountsBetween since sent now

-- a reply was sent in one of these events, in which the store's count rose
pub record IsSentAsItRose (own : List Fed) (sent : Sent) : Type 0 where
  pub event : Fed
  pub is_own : Contains own event
  pub behind : event.store_before ≤ sent.faults_before
  pub before : sent.faults_now ≤ event.store_now
  pub rose : Rose event.store_before event.store_now

-- whatever a session refused, each of its replies at which the store broke off was sent in an event of its own in which the
-- store's count rose
abbrev pub BrokenAreSentAsItRose : Type 0
BrokenAreSentAsItRose = (store : Store) (session : SessionView) (since now : ℕ) (own : List Fed) (stands : LaneStands session (Some store) since now own)
    → All (λ s. is_broken s.course ≡ true → IsSentAsItRose own s) stands.sent

-- so where there is none such event there is no such reply
abbrev pub FailsByTheStore : Type 0
FailsByTheStore = (store : Store) (session : SessionView) (since now : ℕ) (own : List Fed) → LaneStands session (Some store) since now own
    → (session.state.failed ≡ 0) ⊎ HasStoreRisen own

-- ---- two histories

-- whatever else happened in two histories over one store, a lane that was fed the same in both has written the same in both
abbrev pub LanesAreApart : Type 0
LanesAreApart = (store : Store) (one other : List SessionView) (since now begun later : ℕ) (moves others : List Move) (lane : ℕ) (a b : SessionView)
    → LanesStandFor one (Some store) since now moves → LanesStandFor other (Some store) begun later others
    → slice_get one lane ≡ Some a → slice_get other lane ≡ Some b → a.state.most ≡ b.state.most
    → fed_in (own_of lane moves) ≡ fed_in (own_of lane others) → IsUnbroken a → IsUnbroken b
    → written_in (own_of lane moves) ≡ written_in (own_of lane others)

-- and where it hasn't, in one of them a count rose in its own events, or it wanted memory
abbrev pub LanesDifferByTheirOwn : Type 0
LanesDifferByTheirOwn = (store : Store) (one other : List SessionView) (since now begun later : ℕ) (moves others : List Move) (lane : ℕ) (a b : SessionView)
    → LanesStandFor one (Some store) since now moves → LanesStandFor other (Some store) begun later others
    → slice_get one lane ≡ Some a → slice_get other lane ≡ Some b → a.state.most ≡ b.state.most
    → fed_in (own_of lane moves) ≡ fed_in (own_of lane others)
    → (written_in (own_of lane moves) ≡ written_in (own_of lane others))
    ⊎ (HasFailedItself a (own_of lane moves) ⊎ HasFailedItself b (own_of lane others))

-- ---- new lanes

-- new sessions stand for nothing, whatever the store tells and its count is
abbrev pub LanesBegin : Type 0
LanesBegin = (told : Option Store) (count most since now : ℕ) → since ≤ now → LanesStandFor (replicate count (new_session most)) told since now []
