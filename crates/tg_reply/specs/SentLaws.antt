-- Laws of what a session has sent.
use Rattle.std.specs.Prelude.{List, Option, false, length, map, take, true, ℕ, ◌+◌, ◌++◌, ◌≡◌, ◌≤◌, ◌⊎◌}
use Rattle.tg_faults.specs.Faults.{Rose}
use Rattle.tg_model.specs.Stores.{IsStore, Store}
use Rattle.tg_reply.specs.Streams.{Replies}
use Rattle.tg_reply.specs.Written.{replies_for}
use Rattle.tg_reply.specs.Sent.{CountsBetween, CountsFollow, Sent, SentAll, SentBy, SentFor, SentInFull, broken_in, closed_by, failed_in, happening_of, sent_bytes}
use Rattle.tg_reply.specs.Sessions.{BrokeOff, HasNumbers, IsFrontOfSent, PassedLimit, SessionState, StandsFor, WentOn}
use Rattle.tg_reply.specs.Shapes.{SentOver, ShapedAll}

-- ---- what is sent is one

-- it is determined by the bytes and by what happened at each request
abbrev pub SentIsDetermined : Type 0
SentIsDetermined = (store : Store) (bytes rest behind : List ℕ) (sent other : List Sent) → SentAll store bytes sent rest
    → SentAll store bytes other behind → map happening_of sent ≡ map happening_of other
    → (sent ≡ other) × (rest ≡ behind)

-- where the store doesn't break off the replies are those of the definition of replies, and one writing
abbrev pub SentAsReplies : Type 0
SentAsReplies = (store : Store) (bytes rest : List ℕ) (sent : List Sent) → SentInFull (SentFor store) bytes sent rest → failed_in sent ≡ 0
    → Replies store bytes (sent_bytes sent) × (sent_bytes sent ≡ replies_for store bytes)

-- and there are such, whatever the store's count is
abbrev pub SomeSent : Type 0
SomeSent = (store : Store) (bytes : List ℕ) (before : ℕ) → (sent : List Sent) × (rest : List ℕ)
    × SentInFull (SentFor store) bytes sent rest × (failed_in sent ≡ 0) × CountsBetween before sent before

-- ---- bytes that go on

-- what was sent for a front, and for the bytes behind it with a piece, is sent for both
abbrev pub SentJoins : Type 0
SentJoins = (told : Option Store) (fed piece rest behind : List ℕ) (sent more : List Sent) → SentBy (SentOver told) fed sent rest
    → closed_by sent ≡ false → SentBy (SentOver told) (rest ++ piece) more behind → SentBy (SentOver told) (fed ++ piece) (sent ++ more) behind

-- behind a close nothing more is sent
abbrev pub SentStays : Type 0
SentStays = (told : Option Store) (fed piece rest : List ℕ) (sent : List Sent) → SentBy (SentOver told) fed sent rest → closed_by sent ≡ true
    → SentBy (SentOver told) (fed ++ piece) sent rest

-- what was sent for bytes, whatever happened, can be gone on with
abbrev pub SentExtends : Type 0
SentExtends = (store : Store) (fed piece rest : List ℕ) (sent : List Sent) → SentAll store fed sent rest
    → (more : List Sent) × (behind : List ℕ) × SentInFull (SentFor store) (fed ++ piece) (sent ++ more) behind

-- what is sent for bytes that go on begins with what was sent for these, where the same happened at the requests in these;
-- and what more is sent is sent for the bytes behind these and the piece, where the connection is open
abbrev pub SentBegins : Type 0
SentBegins = (store : Store) (fed piece rest behind : List ℕ) (sent other : List Sent) → SentAll store fed sent rest
    → SentAll store (fed ++ piece) other behind
    → map happening_of sent ≡ map happening_of (take (length sent) other)
    → (more : List Sent) × (other ≡ sent ++ more) × (sent_bytes other ≡ sent_bytes sent ++ sent_bytes more)
    × (closed_by sent ≡ false → SentAll store (rest ++ piece) more behind)

-- ---- numbers

-- each reply is to at least one byte
abbrev pub SentAreFew : Type 0
SentAreFew = (store : Store) (fed rest : List ℕ) (sent : List Sent) → SentAll store fed sent rest → length sent + length rest ≤ length fed

-- a reply at which the store broke off has status 500 or a body that was cut
abbrev pub FailedAreBroken : Type 0
FailedAreBroken = (store : Store) (fed rest : List ℕ) (sent : List Sent) → SentAll store fed sent rest → failed_in sent ≤ broken_in sent

-- there are no more such replies than replies
abbrev pub BrokenAreFew : Type 0
BrokenAreFew = (sent : List Sent) → broken_in sent ≤ length sent

-- the store broke off only where its count rose
abbrev pub FailedAreCounted : Type 0
FailedAreCounted = (store : Store) (fed rest : List ℕ) (sent : List Sent) (before now : ℕ) → SentAll store fed sent rest
    → CountsBetween before sent now → (failed_in sent ≡ 0) ⊎ Rose before now

-- and where it broke off nowhere, and nothing else used it, its count is what it was
abbrev pub UnfailedAreUncounted : Type 0
UnfailedAreUncounted = (store : Store) (fed rest : List ℕ) (sent : List Sent) (before now : ℕ) → SentAll store fed sent rest
    → CountsFollow before sent now → failed_in sent ≡ 0 → now ≡ before

-- ---- sessions

-- what a session stands for is sent for all the bytes that it was fed
abbrev pub StandsForSent : Type 0
StandsForSent = (session : SessionState) (told : Option Store) (fed : List ℕ) (sent : List Sent) (first now : ℕ) → StandsFor session (SentOver told) fed sent first now
    → (rest : List ℕ) × SentBy (SentOver told) fed sent rest

abbrev pub SessionsGoOn : Type 0
SessionsGoOn = (old new : SessionState) (told : Option Store) (fed piece : List ℕ) (sent more : List Sent) (first after before now : ℕ)
    → StandsFor old (SentOver told) fed sent first after → WentOn old new (SentOver told) piece more before now → after ≤ before
    → StandsFor new (SentOver told) (fed ++ piece) (sent ++ more) first now

abbrev pub SessionsStayClosed : Type 0
SessionsStayClosed = (session : SessionState) (told : Option Store) (fed piece : List ℕ) (sent : List Sent) (first now : ℕ) → StandsFor session (SentOver told) fed sent first now
    → session.closed ≡ true → StandsFor session (SentOver told) (fed ++ piece) sent first now

-- where more bytes came than may be received, or an open session was broken off, a front of what is sent was written, with
-- the numbers of the replies that were written whole
abbrev pub LimitIsFront : Type 0
LimitIsFront = (old new : SessionState) (told : Option Store) (fed piece : List ℕ) (sent more : List Sent) (first after before now : ℕ)
    → StandsFor old (SentOver told) fed sent first after → PassedLimit old new (SentOver told) piece more before now
    → IsFrontOfSent (SentOver told) (fed ++ piece) (sent_bytes sent ++ sent_bytes more) × HasNumbers new (sent ++ more)

abbrev pub BrokenIsFront : Type 0
BrokenIsFront = (old new : SessionState) (told : Option Store) (fed piece written : List ℕ) (sent more next : List Sent) (first after before now : ℕ)
    → StandsFor old (SentOver told) fed sent first after → BrokeOff old new (SentOver told) piece more next written before now
    → IsFrontOfSent (SentOver told) (fed ++ piece) (sent_bytes sent ++ written) × HasNumbers new (sent ++ more)

-- ---- stores that tell nothing

-- what is sent over a store that tells its blocks has the shape of what is sent over one that tells nothing
abbrev pub SentIsShaped : Type 0
SentIsShaped = (store : Store) (fed rest : List ℕ) (sent : List Sent) → IsStore store → SentAll store fed sent rest → ShapedAll fed sent rest
