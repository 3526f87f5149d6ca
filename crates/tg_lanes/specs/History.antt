-- What happened to lanes, a lane's own part of it, and what lanes stand for (RFC 9112, section 9.3).
use Rattle.std.specs.List.{flat_map}
use Rattle.std.specs.Prelude.{Err, List, None, Ok, Option, Result, Some, [], if◌then◌else◌, slice_get, take, ℕ, ◌++◌, ◌==◌, ◌∷◌, ◌≡◌, ◌≤◌, ◌⊎◌}
use Rattle.tg_faults.specs.Faults.{Rose}
use Rattle.tg_gateway.specs.Laws.{IsSentFront, IsSentUpTo}
use Rattle.tg_gateway.specs.Sessions.{SessionView, next_of}
use Rattle.tg_gateway.specs.declared.fault.GatewayFault.{GatewayFault}
use Rattle.tg_gateway.specs.declared.fault.GatewayFault.TheVariants as faults
use Rattle.tg_gateway.specs.declared.session.Next.{Next}
use Rattle.tg_model.specs.Stores.{Lookups, Store}
use Rattle.tg_reply.specs.Sent.{CountsBetween, Sent, sent_bytes}
use Rattle.tg_reply.specs.Sessions.{SessionState, StandsFor}
use Rattle.tg_reply.specs.Shapes.{SentOver}
use Rattle.tg_streams.specs.Streams.{Output, Put}
use Rattle.tg_lanes.specs.declared.lanes.LaneEvent.{LaneEvent}
use Rattle.tg_lanes.specs.declared.lanes.LaneEvent.TheVariants as events

-- ---- what happened

-- a piece that a lane was fed, what was written for it, and the counts of the store's and of out's faults before and behind
pub record Fed : Type 0 where
  pub piece : List ℕ
  pub written : List ℕ
  pub store_before : ℕ
  pub store_now : ℕ
  pub out_before : ℕ
  pub out_now : ℕ

-- what was written for a piece between two moments of the store and of out
abbrev pub fed_by : List ℕ → List ℕ → Lookups → Output → Fed
fed_by piece written lookups out = record {
  piece = piece;
  written = written;
  store_before = lookups.faults_old;
  store_now = lookups.faults_new;
  out_before = out.faults_old;
  out_now = out.faults_new;
}

-- what happened: a lane was fed, its peer said no more, or it was renewed while the store's count was this
pub data Move : Type 0 where
  was_fed : ℕ → Fed → Move
  has_ended : ℕ → Move
  was_renewed : ℕ → ℕ → Move

-- ---- a lane's own part of it

abbrev pub own_behind : ℕ → List Fed → Move → List Fed
own_behind lane own (was_fed other fed) = if other == lane then own ++ fed ∷ [] else own
own_behind lane own (has_ended other) = own
own_behind lane own (was_renewed other count) = if other == lane then [] else own

abbrev pub own_from : ℕ → List Fed → List Move → List Fed
own_from lane own [] = own
own_from lane own (move ∷ moves) = own_from lane (own_behind lane own move) moves

-- what the lane was fed since it was renewed last
abbrev pub own_of : ℕ → List Move → List Fed
own_of lane moves = own_from lane [] moves

abbrev pub since_behind : ℕ → ℕ → Move → ℕ
since_behind lane since (was_fed other fed) = since
since_behind lane since (has_ended other) = since
since_behind lane since (was_renewed other count) = if other == lane then count else since

-- the store's count when the lane was renewed last, and where it wasn't, this one
abbrev pub since_of : ℕ → ℕ → List Move → ℕ
since_of lane since [] = since
since_of lane since (move ∷ moves) = since_of lane (since_behind lane since move) moves

abbrev pub fed_in : List Fed → List ℕ
fed_in own = flat_map (λ (f : Fed). f.piece) own

abbrev pub written_in : List Fed → List ℕ
written_in own = flat_map (λ (f : Fed). f.written) own

-- ---- the counts of its events

-- the store's count goes on from one event to the next, behind one number and up to another
abbrev pub AreInTurn : ℕ → List Fed → ℕ → Type 0
AreInTurn since [] now = since ≤ now
AreInTurn since (f ∷ own) now = (since ≤ f.store_before) × (f.store_before ≤ f.store_now) × AreInTurn f.store_now own now

-- the store's count rose while it was fed
abbrev pub HasStoreRisen : List Fed → Type 0
HasStoreRisen [] = ⊥
HasStoreRisen (f ∷ own) = Rose f.store_before f.store_now ⊎ HasStoreRisen own

-- out's count did
abbrev pub HasOutRisen : List Fed → Type 0
HasOutRisen [] = ⊥
HasOutRisen (f ∷ own) = Rose f.out_before f.out_now ⊎ HasOutRisen own

-- one of them did
abbrev pub HasRisen : List Fed → Type 0
HasRisen own = HasStoreRisen own ⊎ HasOutRisen own

-- ---- in which event a reply was sent

-- the first of these replies were sent in an event, while the store's count went from the one before it to the one behind it,
-- and the others behind it
pub record IsSentFirst (f : Fed) (sent : List Sent) (AreBehind : List Sent → Type 0) : Type 0 where
  pub more : List Sent
  pub later : List Sent
  pub sent_is : sent ≡ more ++ later
  pub counts : CountsBetween f.store_before more f.store_now
  pub behind : AreBehind later

-- the replies were sent in these events, in their order
abbrev pub AreSentIn : List Fed → List Sent → Type 0
AreSentIn [] sent = sent ≡ []
AreSentIn (f ∷ own) sent = IsSentFirst f sent (AreSentIn own)

-- ---- what a session stands for, by what it was fed, and by the replies that were written whole

-- all replies that it completed were written
pub record HasWritten (session : SessionState) (told : Option Store) (since now : ℕ) (own : List Fed) (sent : List Sent) : Type 0 where
  pub stands : StandsFor session (SentOver told) (fed_in own) sent since now
  pub written_is : written_in own ≡ sent_bytes sent

-- more came than this number, and what is sent for so many was written, and leaves the connection open
pub record HasWrittenUpTo (session : SessionState) (told : Option Store) (since now : ℕ) (own : List Fed) (sent : List Sent) (number : ℕ) : Type 0 where
  pub up_to : IsSentUpTo session told (fed_in own) sent number since now
  pub written_is : written_in own ≡ sent_bytes sent

-- the replies were written whole, and a front of the next
pub record HasWrittenFront (session : SessionState) (told : Option Store) (since now : ℕ) (own : List Fed) (sent : List Sent) : Type 0 where
  pub next : List Sent
  pub front : IsSentFront session told (fed_in own) sent next since now
  pub count : ℕ
  pub written_is : written_in own ≡ sent_bytes sent ++ take count (sent_bytes next)

abbrev pub WritesBy : Option GatewayFault → SessionState → Option Store → ℕ → ℕ → List Fed → List Sent → Type 0
WritesBy None session told since now own sent = HasWritten session told since now own sent
WritesBy (Some (faults.Limit number)) session told since now own sent = HasWrittenUpTo session told since now own sent number
WritesBy (Some faults.LinkFault) session told since now own sent = HasWrittenFront session told since now own sent × HasOutRisen own
WritesBy (Some faults.OutOfMemory) session told since now own sent = HasWrittenFront session told since now own sent

-- the store's count being one number when the session began, and another now
pub record LaneStands (session : SessionView) (told : Option Store) (since now : ℕ) (own : List Fed) : Type 0 where
  pub in_turn : AreInTurn since own now
  pub sent : List Sent
  pub sent_in : AreSentIn own sent
  pub writes : WritesBy session.refused session.state told since now own sent

-- each lane stands for its own part of what happened since the store's count was one number, while it is another
abbrev pub LanesStandFor : List SessionView → Option Store → ℕ → ℕ → List Move → Type 0
LanesStandFor sessions told since now moves = (lane : ℕ) (session : SessionView) → slice_get sessions lane ≡ Some session
    → LaneStands session told (since_of lane since moves) now (own_of lane moves)

-- ---- an event more

-- whatever lanes stood for while the store's count was one number, they stand for more while it is another
abbrev pub StandOn : Option Store → List SessionView → List SessionView → ℕ → ℕ → List Move → Type 0
StandOn told old new before now more = (since : ℕ) (moves : List Move) → LanesStandFor old told since before moves
    → LanesStandFor new told since now (moves ++ more)

-- a session says how it ended when it was fed: it goes on, or is closed; or it refused something
abbrev pub EndsAs : SessionView → Result Next GatewayFault → Type 0
EndsAs session (Ok next) = (session.refused ≡ None) × (next ≡ next_of session.state.closed)
EndsAs session (Err fault) = session.refused ≡ Some fault

-- this was put for the piece, with which the lanes stand for what happened
pub record FedStands (told : Option Store) (old new : List SessionView) (lane : ℕ) (piece : List ℕ) (lookups : Lookups) (out : Output) (result : Result Next GatewayFault) : Type 0 where
  pub written : List ℕ
  pub put : Put written out
  pub session : SessionView
  pub session_is : slice_get new lane ≡ Some session
  pub ends_as : EndsAs session result
  pub stand : StandOn told old new lookups.faults_old lookups.faults_new (was_fed lane (fed_by piece written lookups out) ∷ [])

abbrev pub EventStands : Option Store → List SessionView → List SessionView → ℕ → LaneEvent → Lookups → Output → Result Next GatewayFault → Type 0
EventStands told old new lane (events.Piece piece) lookups out result = FedStands told old new lane piece.now lookups out result
EventStands told old new lane events.Ended lookups out result =
    StandOn told old new lookups.faults_old lookups.faults_new (has_ended lane ∷ [])
