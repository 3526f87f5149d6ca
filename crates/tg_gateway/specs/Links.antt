-- How a session over a link ends (RFC 9112, section 9.3).
use Rattle.std.specs.Prelude.{Err, List, Ok, Option, Result, false, length, take, true, ⊤, ℕ, ◌++◌, ◌<◌, ◌≡◌, ◌≤◌, ◌⊎◌}
use Rattle.tg_gateway.specs.declared.fault.GatewayFault.{GatewayFault}
use Rattle.tg_gateway.specs.declared.fault.GatewayFault.TheVariants as faults
use Rattle.tg_gateway.specs.declared.session.Served.{Served}
use Rattle.tg_links.specs.Steps.{LinkQuiet, LinkRose, LinkStep, Spoke}
use Rattle.tg_model.specs.Stores.{Lookups, Store}
use Rattle.tg_reply.specs.Sent.{CountsBetween, Sent, SentBy, SentInFull, broken_in, closed_by, failed_in, sent_bytes}
use Rattle.tg_reply.specs.Sessions.{SessionState}
use Rattle.tg_reply.specs.Shapes.{SentOver}

-- the numbers of what was sent
pub record IsServed (served : Served) (sent : List Sent) : Type 0 where
  pub requests_are : served.requests ≡ length sent
  pub broken_are : served.broken ≡ broken_in sent
  pub store_are : served.store ≡ failed_in sent

-- All that is sent for what was heard was said; and the peer said no more, or the last reply closes. Behind that one
-- nothing is looked at.
pub record ServedAll (told : Option Store) (served : Served) (link : LinkStep) (lookups : Lookups) : Type 0 where
  pub heard : List ℕ
  pub sent : List Sent
  pub rest : List ℕ
  pub sent_is : SentInFull (SentOver told) heard sent rest
  pub spoke : Spoke link heard (sent_bytes sent)
  pub ended : (link.over_new ≡ true) ⊎ (closed_by sent ≡ true)
  pub numbers : IsServed served sent
  pub counts : CountsBetween lookups.faults_old sent lookups.faults_new
  pub quiet : LinkQuiet link

-- more was heard than this number of bytes, and what is sent for so many was said, and leaves the connection open
pub record ServedUpTo (told : Option Store) (served : Served) (link : LinkStep) (lookups : Lookups) (number : ℕ) : Type 0 where
  pub heard : List ℕ
  pub past : number < length heard
  pub sent : List Sent
  pub rest : List ℕ
  pub sent_is : SentInFull (SentOver told) (take number heard) sent rest
  pub left_open : closed_by sent ≡ false
  pub spoke : Spoke link heard (sent_bytes sent)
  pub numbers : IsServed served sent
  pub counts : CountsBetween lookups.faults_old sent lookups.faults_new
  pub quiet : LinkQuiet link

-- of what is sent for what was heard a front was said: these replies whole, which were counted, and a front of the next
pub record ServedFront (told : Option Store) (served : Served) (link : LinkStep) (lookups : Lookups) : Type 0 where
  pub heard : List ℕ
  pub sent : List Sent
  pub next : List Sent
  pub rest : List ℕ
  pub sent_is : SentBy (SentOver told) heard (sent ++ next) rest
  pub at_most_one : length next ≤ 1
  pub left_open : closed_by sent ≡ false
  pub count : ℕ
  pub spoke : Spoke link heard (sent_bytes sent ++ take count (sent_bytes next))
  pub numbers : IsServed served sent
  pub counts : CountsBetween lookups.faults_old sent lookups.faults_new

-- how a session over a link ends
abbrev pub LinkEnds : Option Store → ℕ → LinkStep → Lookups → Served → Result ⊤ GatewayFault → Type 0
LinkEnds told most link lookups served (Ok done) = ServedAll told served link lookups
LinkEnds told most link lookups served (Err (faults.Limit number)) = (number ≡ most) × ServedUpTo told served link lookups number
LinkEnds told most link lookups served (Err faults.LinkFault) = ServedFront told served link lookups × LinkRose link
LinkEnds told most link lookups served (Err faults.OutOfMemory) = ServedFront told served link lookups × LinkQuiet link

-- ---- numbers that are told

abbrev pub served_of : SessionState → Served
served_of state = record { requests = state.requests; broken = state.broken; store = state.failed }
