-- Lanes, and what an event does to them (RFC 9112, section 9.3).
use Rattle.std.specs.Prelude.{Err, List, MatchResult, None, Ok, Option, Result, Some, is_some, slice_get, slice_set, true, ℕ, ◌≡◌}
use Rattle.tg_gateway.specs.Links.{served_of}
use Rattle.tg_gateway.specs.Sessions.{FeedEnds, SessionView}
use Rattle.tg_gateway.specs.declared.fault.GatewayFault.{GatewayFault}
use Rattle.tg_gateway.specs.declared.session.Next.{Next}
use Rattle.tg_gateway.specs.declared.session.Next.TheVariants as nexts
use Rattle.tg_gateway.specs.declared.session.Served.{Served}
use Rattle.tg_lanes.specs.declared.lanes.LaneEvent.{LaneEvent}
use Rattle.tg_lanes.specs.declared.lanes.LaneEvent.TheVariants as events
use Rattle.tg_model.specs.Stores.{Lookups, Store}
use Rattle.tg_reply.specs.Sessions.{IsOpen}
use Rattle.tg_streams.specs.Streams.{Output}

-- the sessions by their lanes, the store, how many bytes each session may receive, and how many blocks may be kept
pub record LanesView (B : Type 0) : Type 0 where
  pub sessions : List SessionView
  pub blocks : B
  pub most : ℕ
  pub room : ℕ

-- a session's state says that it refused something exactly where it tells what
abbrev pub IsAgreed : SessionView → Type 0
IsAgreed session = session.state.refused ≡ is_some session.refused

abbrev pub AreAgreed : List SessionView → Type 0
AreAgreed sessions = (lane : ℕ) (session : SessionView) → slice_get sessions lane ≡ Some session → IsAgreed session

-- a session, which agrees with its state, before and after it was fed a piece: an open one as it says; of a closed one, and
-- of one that refused, nothing changes
pub record Feeds (told : Option Store) (old new : SessionView) (piece : List ℕ) (lookups : Lookups) (out : Output) (same : Type 0) (result : Result Next GatewayFault) : Type 0 where
  pub agreed : IsAgreed old
  pub ends : IsOpen old.state → FeedEnds told old new piece lookups out result
  pub closed : old.refused ≡ None → old.state.closed ≡ true → (result ≡ Ok nexts.Close) × (new ≡ old) × same
  pub again : (fault : GatewayFault) → old.refused ≡ Some fault → (result ≡ Err fault) × (new ≡ old) × same
  pub refused : MatchResult result (λ _. new.refused ≡ None) (λ fault. new.refused ≡ Some fault)

-- the session of a lane was fed a piece, and no other changed
pub record LaneFed {B : Type 0} (told : Option Store) (old new : LanesView B) (lane : ℕ) (piece : List ℕ) (lookups : Lookups) (out : Output) (same_out : Type 0) (result : Result Next GatewayFault) : Type 0 where
  pub before : SessionView
  pub behind : SessionView
  pub was : slice_get old.sessions lane ≡ Some before
  pub sessions : new.sessions ≡ slice_set old.sessions lane behind
  pub most : new.most ≡ old.most
  pub feeds : Feeds told before behind piece lookups out ((new.blocks ≡ old.blocks) × same_out) result

abbrev pub EventEnds : {B : Type 0} → Option Store → LanesView B → LanesView B → ℕ → LaneEvent → Lookups → Output → Type 0 → Result Next GatewayFault → Type 0
EventEnds told old new lane (events.Piece piece) lookups out same_out result =
    LaneFed told old new lane piece.now lookups out same_out result
EventEnds told old new lane events.Ended lookups out same_out result =
    (result ≡ Ok nexts.Close) × (new ≡ old) × same_out

-- the numbers of the session of a lane
pub record IsServedBy (sessions : List SessionView) (lane : ℕ) (served : Served) : Type 0 where
  pub session : SessionView
  pub session_is : slice_get sessions lane ≡ Some session
  pub numbers : served ≡ served_of session.state
