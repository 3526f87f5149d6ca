-- The steps of a session: one reply after another, over the bytes that it keeps (RFC 9112, section 9.3).
use Rattle.std.specs.Prelude.{Bool, Err, List, Ok, Option, Result, [], false, length, take, true, ⊤, ℕ, ◌+◌, ◌++◌, ◌<◌, ◌≡◌, ◌≤◌}
use Rattle.tg_gateway.specs.Sessions.{next_of}
use Rattle.tg_gateway.specs.declared.fault.GatewayFault.{GatewayFault}
use Rattle.tg_gateway.specs.declared.fault.GatewayFault.TheVariants as faults
use Rattle.tg_gateway.specs.declared.session.Next.{Next}
use Rattle.tg_http.specs.Heads.{IsWaiting}
use Rattle.tg_model.specs.Stores.{Lookups, Store}
use Rattle.tg_replying.specs.Replying.{PutQuiet}
use Rattle.tg_reply.specs.Replies.{refused_bytes, reply_bytes}
use Rattle.tg_reply.specs.declared.refusal.Refusal.{Refusal}
use Rattle.tg_replying.specs.declared.fault.ReplyFault.{ReplyFault}
use Rattle.tg_replying.specs.declared.fault.ReplyFault.TheVariants as replies
use Rattle.tg_replying.specs.declared.reply.Replied.{Replied}
use Rattle.tg_reply.specs.Sent.{CountsBetween, CountsFollow, Sent, SentBy, closed_by, count_if, sent_bytes}
use Rattle.tg_reply.specs.Sessions.{NumbersGoOn, SessionState}
use Rattle.tg_reply.specs.Shapes.{SentOver}
use Rattle.tg_streams.specs.Streams.{Output, OutputRose, Put, PutFront}

abbrev pub fault_of_reply : ReplyFault → GatewayFault
fault_of_reply replies.SinkFault = faults.LinkFault
fault_of_reply replies.OutOfMemory = faults.OutOfMemory

-- a session that isn't closed keeps these bytes
abbrev pub IfOpenKeeps : Bool → List ℕ → List ℕ → Type 0
IfOpenKeeps true kept rest = ⊤
IfOpenKeeps false kept rest = kept ≡ rest

-- an open session that refused nothing answered these of the bytes that it kept and of a piece, all of which it looked at
pub record Answered (told : Option Store) (old new : SessionState) (piece : List ℕ) (more : List Sent) (before now : ℕ) : Type 0 where
  pub unrefused : new.refused ≡ false
  pub behind : List ℕ
  pub sent_is : SentBy (SentOver told) (old.kept ++ piece) more behind
  pub kept_is : IfOpenKeeps new.closed new.kept behind
  pub closed_is : new.closed ≡ closed_by more
  pub numbers : NumbersGoOn old new more
  pub received_is : new.received ≡ old.received + length piece
  pub counts : CountsFollow before more now

-- and with this done to what it sent
pub record HasAnswered (told : Option Store) (old new : SessionState) (piece : List ℕ) (lookups : Lookups) (out : Output) : Type 0 where
  pub more : List Sent
  pub answered : Answered told old new piece more lookups.faults_old lookups.faults_new
  pub put : PutQuiet out (sent_bytes more)

-- it was broken off in a reply, of which a front was written, or none; no more was looked at than may be received
pub record WasBroken (told : Option Store) (old new : SessionState) (piece : List ℕ) (lookups : Lookups) (done : List ℕ → Type 0) : Type 0 where
  pub looked : List ℕ
  pub dropped : List ℕ
  pub piece_is : piece ≡ looked ++ dropped
  pub more : List Sent
  pub next : List Sent
  pub behind : List ℕ
  pub sent_is : SentBy (SentOver told) (old.kept ++ looked) (more ++ next) behind
  pub within : old.received + length looked ≤ old.most
  pub at_most_one : length next ≤ 1
  pub left_open : closed_by more ≡ false
  pub count : ℕ
  pub is_done : done (sent_bytes more ++ take count (sent_bytes next))
  pub numbers : NumbersGoOn old new more
  pub counts : CountsBetween lookups.faults_old more lookups.faults_new

-- why a step was broken off: out failed, or memory was wanted
abbrev pub BreaksOff : Option Store → SessionState → SessionState → List ℕ → Lookups → Output → GatewayFault → Type 0
BreaksOff told old new piece lookups out faults.LinkFault =
    WasBroken told old new piece lookups (λ written. Put written out × OutputRose out)
BreaksOff told old new piece lookups out faults.OutOfMemory = WasBroken told old new piece lookups (PutQuiet out)
BreaksOff told old new piece lookups out (faults.Limit number) = ⊥

-- how a step ends over a piece that is looked at whole
abbrev pub StepEnds : Option Store → SessionState → SessionState → List ℕ → Lookups → Output → Result ⊤ GatewayFault → Type 0
StepEnds told old new piece lookups out (Ok done) = HasAnswered told old new piece lookups out
StepEnds told old new piece lookups out (Err fault) = BreaksOff told old new piece lookups out fault

-- a piece of which what is behind a close isn't looked at
pub record HasLooked (told : Option Store) (old new : SessionState) (piece : List ℕ) (lookups : Lookups) (out : Output) : Type 0 where
  pub looked : List ℕ
  pub dropped : List ℕ
  pub piece_is : piece ≡ looked ++ dropped
  pub all_looked : new.closed ≡ false → dropped ≡ []
  pub has : HasAnswered told old new looked lookups out

abbrev pub LookEnds : Option Store → SessionState → SessionState → List ℕ → Lookups → Output → Result ⊤ GatewayFault → Type 0
LookEnds told old new piece lookups out (Ok done) = HasLooked told old new piece lookups out
LookEnds told old new piece lookups out (Err fault) = BreaksOff told old new piece lookups out fault

-- an open session waits for more bytes
abbrev pub WaitsIfOpen : SessionState → Type 0
WaitsIfOpen state = state.closed ≡ false → IsWaiting state.kept

-- ---- the numbers of one reply

abbrev pub counted : SessionState → Replied → SessionState
counted state replied =
    record state {
      closed = replied.closes;
      requests = state.requests + 1;
      broken = count_if replied.broken state.broken;
      failed = count_if replied.failed state.failed;
    }

-- ---- bytes that are no head

-- their refusal was put, and the session is closed; or out failed in a front of it, or memory was wanted behind one
abbrev pub RefuseEnds : Refusal → SessionState → SessionState → Output → Result Bool GatewayFault → Type 0
RefuseEnds refusal old new out (Ok follows) =
    (follows ≡ false) × PutQuiet out (reply_bytes (refused_bytes refusal))
    × (new ≡ record (counted old (record { closes = true; broken = false; failed = false })) { kept = [] })
RefuseEnds refusal old new out (Err faults.LinkFault) = (new ≡ old) × PutFront (reply_bytes (refused_bytes refusal)) out
RefuseEnds refusal old new out (Err faults.OutOfMemory) =
    (new ≡ old) × ((count : ℕ) × PutQuiet out (take count (reply_bytes (refused_bytes refusal))))
RefuseEnds refusal old new out (Err (faults.Limit number)) = ⊥

-- ---- a piece of which more may come than may be received

-- more came, and what was sent for those up to the number was put
pub record HasPassed (told : Option Store) (old new : SessionState) (piece : List ℕ) (lookups : Lookups) (out : Output) (number : ℕ) : Type 0 where
  pub number_is : number ≡ old.most
  pub looked : List ℕ
  pub dropped : List ℕ
  pub piece_is : piece ≡ looked ++ dropped
  pub all_that_may : old.received + length looked ≡ old.most
  pub past : 0 < length dropped
  pub open_is : new.closed ≡ false
  pub waits : IsWaiting new.kept
  pub has : HasAnswered told old new looked lookups out

-- what was looked at of a piece, and whether more is
pub record HasTaken (told : Option Store) (old new : SessionState) (piece : List ℕ) (lookups : Lookups) (out : Output) (next : Next) : Type 0 where
  pub has : HasLooked told old new piece lookups out
  pub waits : WaitsIfOpen new
  pub next_is : next ≡ next_of new.closed
  pub within : new.received ≤ new.most

abbrev pub TakeEnds : Option Store → SessionState → SessionState → List ℕ → Lookups → Output → Result Next GatewayFault → Type 0
TakeEnds told old new piece lookups out (Ok next) = HasTaken told old new piece lookups out next
TakeEnds told old new piece lookups out (Err (faults.Limit number)) = HasPassed told old new piece lookups out number
TakeEnds told old new piece lookups out (Err faults.LinkFault) = BreaksOff told old new piece lookups out faults.LinkFault
TakeEnds told old new piece lookups out (Err faults.OutOfMemory) = BreaksOff told old new piece lookups out faults.OutOfMemory
