-- What a session stands for: the bytes that it was fed and what it sent for them (RFC 9112, section 9.3).
use Rattle.std.specs.Prelude.{Bool, List, [], false, length, take, true, ℕ, ⊤, ◌+◌, ◌++◌, ◌<◌, ◌≡◌, ◌≤◌}
use Rattle.tg_http.specs.Heads.{IsWaiting}
use Rattle.tg_reply.specs.Sent.{Answering, CountsBetween, CountsFollow, Sent, SentBy, SentInFull, broken_in, closed_by, failed_in, sent_bytes}

-- a session: the bytes of the head at hand, whether the connection is closed and whether it refused something, and the
-- numbers of replies that were sent, of those with status 500 or a body that was cut, and of those at which the store broke
-- off; how many bytes were received while it was open, and how many may be
pub record SessionState : Type 0 where
  pub kept : List ℕ
  pub closed : Bool
  pub refused : Bool
  pub requests : ℕ
  pub broken : ℕ
  pub failed : ℕ
  pub received : ℕ
  pub most : ℕ

-- an open session keeps the bytes behind the heads that were answered, which are no whole head; a closed one drops what
-- comes
abbrev pub IsWaitingFor : Bool → List ℕ → List ℕ → Type 0
IsWaitingFor true kept rest = ⊤
IsWaitingFor false kept rest = (kept ≡ rest) × IsWaiting rest

-- the numbers of what was sent
pub record HasNumbers (session : SessionState) (sent : List Sent) : Type 0 where
  pub requests_are : session.requests ≡ length sent
  pub broken_are : session.broken ≡ broken_in sent
  pub failed_are : session.failed ≡ failed_in sent

-- A session that refused nothing. All bytes were looked at, or those up to a close and some behind it, no more than may be;
-- and the store's count was one number when the session began, and another when it had answered.
pub record StandsFor (session : SessionState) (For : Answering) (fed : List ℕ) (sent : List Sent) (first now : ℕ) : Type 0 where
  pub unrefused : session.refused ≡ false
  pub looked : List ℕ
  pub dropped : List ℕ
  pub fed_is : fed ≡ looked ++ dropped
  pub all_looked : session.closed ≡ false → dropped ≡ []
  pub rest : List ℕ
  pub sent_is : SentBy For looked sent rest
  pub waiting : IsWaitingFor session.closed session.kept rest
  pub closed_is : session.closed ≡ closed_by sent
  pub numbers : HasNumbers session sent
  pub received_is : session.received ≡ length looked
  pub within : session.received ≤ session.most
  pub counts : CountsBetween first sent now

-- ---- an open session is fed a piece

-- the numbers go on by those of what was sent
pub record NumbersGoOn (old new : SessionState) (more : List Sent) : Type 0 where
  pub requests_are : new.requests ≡ old.requests + length more
  pub broken_are : new.broken ≡ old.broken + broken_in more
  pub failed_are : new.failed ≡ old.failed + failed_in more
  pub most_is : new.most ≡ old.most

-- a session that is open and refused nothing
pub record IsOpen (session : SessionState) : Type 0 where
  pub unclosed : session.closed ≡ false
  pub unrefused : session.refused ≡ false

-- It refused nothing: these were sent for what it kept and the piece, up to a close if there is one, while the store's count
-- went from one number to another. The bytes that were looked at are no more than may be received.
pub record WentOn (old new : SessionState) (For : Answering) (piece : List ℕ) (more : List Sent) (before now : ℕ) : Type 0 where
  pub open_is : IsOpen old
  pub unrefused : new.refused ≡ false
  pub looked : List ℕ
  pub dropped : List ℕ
  pub piece_is : piece ≡ looked ++ dropped
  pub all_looked : new.closed ≡ false → dropped ≡ []
  pub behind : List ℕ
  pub sent_is : SentBy For (old.kept ++ looked) more behind
  pub waiting : IsWaitingFor new.closed new.kept behind
  pub closed_is : new.closed ≡ closed_by more
  pub numbers : NumbersGoOn old new more
  pub received_is : new.received ≡ old.received + length looked
  pub within : new.received ≤ new.most
  pub counts : CountsFollow before more now

-- More bytes came than may be received: all that is sent for those that may be was sent, and leaves the connection open.
pub record PassedLimit (old new : SessionState) (For : Answering) (piece : List ℕ) (more : List Sent) (before now : ℕ) : Type 0 where
  pub open_is : IsOpen old
  pub refused : new.refused ≡ true
  pub looked : List ℕ
  pub dropped : List ℕ
  pub piece_is : piece ≡ looked ++ dropped
  pub all_that_may : old.received + length looked ≡ old.most
  pub past : 0 < length dropped
  pub behind : List ℕ
  pub sent_is : SentInFull For (old.kept ++ looked) more behind
  pub left_open : closed_by more ≡ false
  pub numbers : NumbersGoOn old new more
  pub counts : CountsFollow before more now

-- Out failed, or memory was wanted: these replies were written whole, and of the next one a front, if it was begun. That one
-- isn't counted.
pub record BrokeOff (old new : SessionState) (For : Answering) (piece : List ℕ) (more next : List Sent) (written : List ℕ) (before now : ℕ) : Type 0 where
  pub open_is : IsOpen old
  pub refused : new.refused ≡ true
  pub looked : List ℕ
  pub dropped : List ℕ
  pub piece_is : piece ≡ looked ++ dropped
  pub within : old.received + length looked ≤ old.most
  pub behind : List ℕ
  pub sent_is : SentBy For (old.kept ++ looked) (more ++ next) behind
  pub at_most_one : length next ≤ 1
  pub left_open : closed_by more ≡ false
  pub count : ℕ
  pub written_is : written ≡ sent_bytes more ++ take count (sent_bytes next)
  pub numbers : NumbersGoOn old new more
  pub counts : CountsBetween before more now

-- what was written is a front of what is sent for the bytes
pub record IsFrontOfSent (For : Answering) (fed written : List ℕ) : Type 0 where
  pub sent : List Sent
  pub rest : List ℕ
  pub sent_is : SentBy For fed sent rest
  pub count : ℕ
  pub written_is : written ≡ take count (sent_bytes sent)
