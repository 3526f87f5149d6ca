-- What contracts see of a session, and how it is fed (RFC 9112, section 9.3).
use Rattle.std.specs.Prelude.{Bool, Err, List, None, Ok, Option, Result, [], false, true, ℕ, ◌≡◌}
use Rattle.tg_gateway.specs.declared.fault.GatewayFault.{GatewayFault}
use Rattle.tg_gateway.specs.declared.fault.GatewayFault.TheVariants as faults
use Rattle.tg_gateway.specs.declared.session.Next.{Next}
use Rattle.tg_gateway.specs.declared.session.Next.TheVariants as nexts
use Rattle.tg_model.specs.Stores.{Lookups, Store}
use Rattle.tg_replying.specs.Replying.{PutQuiet}
use Rattle.tg_reply.specs.Sent.{Sent, sent_bytes}
use Rattle.tg_reply.specs.Sessions.{BrokeOff, PassedLimit, SessionState, WentOn}
use Rattle.tg_reply.specs.Shapes.{SentOver}
use Rattle.tg_streams.specs.Streams.{Output, OutputRose, Put}

-- a session, and why it goes on no more
pub record SessionView : Type 0 where
  pub state : SessionState
  pub refused : Option GatewayFault

-- one that was fed nothing, of which so many bytes may be received
abbrev pub new_session : ℕ → SessionView
new_session most = record {
  state = record { kept = []; closed = false; refused = false; requests = 0; broken = 0; failed = 0; received = 0; most = most };
  refused = None;
}

-- whether more bytes are looked at
abbrev pub next_of : Bool → Next
next_of true = nexts.Close
next_of false = nexts.More

-- ---- an open session is fed a piece

-- it goes on or closes, and what it sent for the piece was put
pub record FedOn (told : Option Store) (old new : SessionView) (piece : List ℕ) (lookups : Lookups) (out : Output) (next : Next) : Type 0 where
  pub more : List Sent
  pub went : WentOn old.state new.state (SentOver told) piece more lookups.faults_old lookups.faults_new
  pub put : PutQuiet out (sent_bytes more)
  pub next_is : next ≡ next_of new.state.closed

-- more bytes came than this number, and what it sent for those up to it was put
pub record FedPast (told : Option Store) (old new : SessionView) (piece : List ℕ) (lookups : Lookups) (out : Output) (number : ℕ) : Type 0 where
  pub number_is : number ≡ old.state.most
  pub more : List Sent
  pub passed : PassedLimit old.state new.state (SentOver told) piece more lookups.faults_old lookups.faults_new
  pub put : PutQuiet out (sent_bytes more)

-- it was broken off, with which this was done to what it wrote
pub record FedOff (told : Option Store) (old new : SessionView) (piece : List ℕ) (lookups : Lookups) (done : List ℕ → Type 0) : Type 0 where
  pub more : List Sent
  pub next : List Sent
  pub written : List ℕ
  pub broke : BrokeOff old.state new.state (SentOver told) piece more next written lookups.faults_old lookups.faults_new
  pub is_done : done written

abbrev pub FeedEnds : Option Store → SessionView → SessionView → List ℕ → Lookups → Output → Result Next GatewayFault → Type 0
FeedEnds told old new piece lookups out (Ok next) = FedOn told old new piece lookups out next
FeedEnds told old new piece lookups out (Err (faults.Limit number)) = FedPast told old new piece lookups out number
FeedEnds told old new piece lookups out (Err faults.LinkFault) =
    FedOff told old new piece lookups (λ written. Put written out × OutputRose out)
FeedEnds told old new piece lookups out (Err faults.OutOfMemory) = FedOff told old new piece lookups (PutQuiet out)
