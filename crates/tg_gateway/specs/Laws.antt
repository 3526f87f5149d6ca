-- Laws of sessions: what one stands for when it is new, and what was sent where it refused something (RFC 9112, section 9.3).
use Rattle.std.specs.Prelude.{List, Option, Some, [], false, length, take, ℕ, ◌++◌, ◌<◌, ◌≡◌, ◌≤◌, ◌⊎◌}
use Rattle.tg_faults.specs.Faults.{Rose}
use Rattle.tg_gateway.specs.Sessions.{new_session}
use Rattle.tg_model.specs.Stores.{Store}
use Rattle.tg_reply.specs.Sent.{CountsBetween, Sent, SentBy, SentInFull, closed_by, sent_bytes}
use Rattle.tg_reply.specs.Sessions.{BrokeOff, HasNumbers, PassedLimit, SessionState, StandsFor, WentOn}
use Rattle.tg_reply.specs.Shapes.{SentOver}

-- a session that was fed nothing stands for no bytes, whatever the store's count is
abbrev pub SessionsBegin : Type 0
SessionsBegin = (told : Option Store) (most now : ℕ) → StandsFor (new_session most).state (SentOver told) [] [] now now

-- what a session stands for is all that is sent for the bytes that it was fed, as many as may be received
abbrev pub SessionsStandInFull : Type 0
SessionsStandInFull = (session : SessionState) (told : Option Store) (fed : List ℕ) (sent : List Sent) (first now : ℕ) → StandsFor session (SentOver told) fed sent first now
    → (rest : List ℕ) × SentInFull (SentOver told) (take session.most fed) sent rest

-- ---- more bytes than may be received

-- of the bytes more came than this number, which may be received: these were sent for so many, and nothing more is
pub record IsSentUpTo (session : SessionState) (told : Option Store) (fed : List ℕ) (sent : List Sent) (number first now : ℕ) : Type 0 where
  pub number_is : number ≡ session.most
  pub past : number < length fed
  pub rest : List ℕ
  pub sent_is : SentInFull (SentOver told) (take number fed) sent rest
  pub left_open : closed_by sent ≡ false
  pub numbers : HasNumbers session sent
  pub counts : CountsBetween first sent now

abbrev pub LimitIsAll : Type 0
LimitIsAll = (old new : SessionState) (told : Option Store) (fed piece : List ℕ) (sent more : List Sent) (first after before now : ℕ)
    → StandsFor old (SentOver told) fed sent first after → PassedLimit old new (SentOver told) piece more before now → after ≤ before
    → IsSentUpTo new told (fed ++ piece) (sent ++ more) old.most first now

-- ---- what was broken off

-- of what is sent for the bytes these were written whole and counted, and leave the connection open; the next was begun, or
-- not
pub record IsSentFront (session : SessionState) (told : Option Store) (fed : List ℕ) (sent next : List Sent) (first now : ℕ) : Type 0 where
  pub rest : List ℕ
  pub sent_is : SentBy (SentOver told) fed (sent ++ next) rest
  pub at_most_one : length next ≤ 1
  pub left_open : closed_by sent ≡ false
  pub numbers : HasNumbers session sent
  pub counts : CountsBetween first sent now

-- and this was written: these, and a front of the next
pub record IsWrittenFront (session : SessionState) (told : Option Store) (fed written : List ℕ) (sent next : List Sent) (first now : ℕ) : Type 0 where
  pub count : ℕ
  pub written_is : written ≡ sent_bytes sent ++ take count (sent_bytes next)
  pub is_front : IsSentFront session told fed sent next first now

abbrev pub BrokenIsNext : Type 0
BrokenIsNext = (old new : SessionState) (told : Option Store) (fed piece written : List ℕ) (sent more next : List Sent) (first after before now : ℕ)
    → StandsFor old (SentOver told) fed sent first after → BrokeOff old new (SentOver told) piece more next written before now → after ≤ before
    → IsWrittenFront new told (fed ++ piece) (sent_bytes sent ++ written) (sent ++ more) next first now

-- what is sent for bytes is sent for these and any behind them
abbrev pub SentLonger : Type 0
SentLonger = (told : Option Store) (fed piece rest : List ℕ) (sent : List Sent) → SentBy (SentOver told) fed sent rest
    → (behind : List ℕ) × SentBy (SentOver told) (fed ++ piece) sent behind

-- ---- failures of the store

-- where a session goes on, or more came than may be received, no reply broke off but where the store's count rose
abbrev pub FailuresRise : Type 0
FailuresRise = (store : Store) (old new : SessionState) (piece : List ℕ) (more : List Sent) (before now : ℕ)
    → (WentOn old new (SentOver (Some store)) piece more before now ⊎ PassedLimit old new (SentOver (Some store)) piece more before now)
    → (new.failed ≡ old.failed) ⊎ Rose before now
