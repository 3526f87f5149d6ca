-- What is heard on a lane's link and said to it (RFC 9112, section 9.3).
use Rattle.std.specs.Prelude.{Err, List, None, Ok, Option, Result, Some, [], length, slice_get, slice_set, true, ℕ, ◌<◌, ◌∷◌, ◌≡◌, ◌⊎◌}
use Rattle.tg_gateway.specs.Sessions.{SessionView}
use Rattle.tg_gateway.specs.declared.fault.GatewayFault.{GatewayFault}
use Rattle.tg_gateway.specs.declared.fault.GatewayFault.TheVariants as faults
use Rattle.tg_gateway.specs.declared.session.Next.{Next}
use Rattle.tg_gateway.specs.declared.session.Next.TheVariants as nexts
use Rattle.tg_lanes.specs.History.{EndsAs, Fed, Move, StandOn, has_ended, was_fed}
use Rattle.tg_lanes.specs.Lanes.{LanesView}
use Rattle.tg_links.specs.Steps.{LinkQuiet, LinkRose, LinkStep, Spoke}
use Rattle.tg_model.specs.Stores.{Store}

-- what a lane was fed over a link, and what was said for it, while the store's count went from one number to another
abbrev pub fed_over : List ℕ → List ℕ → ℕ → ℕ → LinkStep → Fed
fed_over piece written before now link = record {
  piece = piece;
  written = written;
  store_before = before;
  store_now = now;
  out_before = link.faults_old;
  out_now = link.faults_new;
}

-- by what a session had refused before, and how it ended: the link failed where the session says that it did, and then alone
abbrev pub LinkFails : Option GatewayFault → Result Next GatewayFault → LinkStep → Type 0
LinkFails (Some fault) result link = LinkQuiet link
LinkFails None (Ok next) link = LinkQuiet link
LinkFails None (Err (faults.Limit number)) link = LinkQuiet link
LinkFails None (Err faults.LinkFault) link = LinkRose link
LinkFails None (Err faults.OutOfMemory) link = LinkQuiet link

-- the lane was fed what was heard, a byte at least, and what it wrote was said; no other lane changed
pub record IsFedAs {B : Type 0} (old new : LanesView B) (lane before now : ℕ) (link : LinkStep) (result : Result Next GatewayFault) (piece written : List ℕ) (more : List Move) : Type 0 where
  pub more_is : more ≡ was_fed lane (fed_over piece written before now link) ∷ []
  pub some : 0 < length piece
  pub was : SessionView
  pub was_there : slice_get old.sessions lane ≡ Some was
  pub session : SessionView
  pub session_is : slice_get new.sessions lane ≡ Some session
  pub same_most : session.state.most ≡ was.state.most
  pub ends_as : EndsAs session result
  pub link_fails : LinkFails was.refused result link
  pub sessions : new.sessions ≡ slice_set old.sessions lane session
  pub most : new.most ≡ old.most

-- nothing was heard and nothing said, the lanes are as they were, and these happened
pub record IsQuietAs {B : Type 0} (old new : LanesView B) (piece written : List ℕ) (more happened : List Move) : Type 0 where
  pub more_is : more ≡ happened
  pub piece_is : piece ≡ []
  pub written_is : written ≡ []
  pub same : new ≡ old

-- the peer said no more
pub record HasEndedAs {B : Type 0} (old new : LanesView B) (lane : ℕ) (link : LinkStep) (result : Result Next GatewayFault) (piece written : List ℕ) (more : List Move) : Type 0 where
  pub as_was : IsQuietAs old new piece written more (has_ended lane ∷ [])
  pub closes : result ≡ Ok nexts.Close
  pub over : link.over_new ≡ true
  pub quiet : LinkQuiet link

-- the link failed before anything was heard
pub record HasFailedAs {B : Type 0} (old new : LanesView B) (link : LinkStep) (result : Result Next GatewayFault) (piece written : List ℕ) (more : List Move) : Type 0 where
  pub as_was : IsQuietAs old new piece written more []
  pub fails : result ≡ Err faults.LinkFault
  pub rose : LinkRose link

-- a piece was heard; or the peer said no more; or the link failed
abbrev pub IsHeardAs : {B : Type 0} → LanesView B → LanesView B → ℕ → ℕ → ℕ → LinkStep → Result Next GatewayFault → List ℕ → List ℕ → List Move → Type 0
IsHeardAs old new lane before now link result piece written more =
    IsFedAs old new lane before now link result piece written more
    ⊎ (HasEndedAs old new lane link result piece written more ⊎ HasFailedAs old new link result piece written more)

-- these were heard and said over the link, and the lanes stand for what happened with them
pub record HeardOn {B : Type 0} (told : Option Store) (old new : LanesView B) (lane before now : ℕ) (link : LinkStep) (result : Result Next GatewayFault) : Type 0 where
  pub piece : List ℕ
  pub written : List ℕ
  pub spoke : Spoke link piece written
  pub more : List Move
  pub heard_as : IsHeardAs old new lane before now link result piece written more
  pub stand : StandOn told old.sessions new.sessions before now more
