-- A query that is asked of a gateway over a store, by a client that hashes the answer (RFC 9112; Trustless Gateway
-- specification; FIPS 180-4).
use Rattle.std.specs.Prelude.{Bool, List, Option, [], codes, length, true, ⊤, ℕ, ◌++◌, ◌<◌, ◌≡◌, ◌≤◌}
use Rattle.tg_audit.specs.declared.fault.AuditFault.{AuditFault}
use Rattle.tg_audit.specs.declared.fault.AuditFault.TheVariants as audits
use Rattle.tg_audit_texts.specs.Hashing.{IsHashOf}
use Rattle.tg_audit_texts.specs.declared.hashing.Hashed.{Hashed}
use Rattle.tg_fetch.specs.Laws.{IsOwnFault}
use Rattle.tg_fetch.specs.Replies.{IsAnswered, RefusedBy}
use Rattle.tg_fetch.specs.declared.fault.FetchFault.{FetchFault}
use Rattle.tg_model.specs.Dag.{Section}
use Rattle.tg_model.specs.LimitNumbers.{LimitNumbers, standard}
use Rattle.tg_model.specs.Queries.{QueryParts}
use Rattle.tg_model.specs.Stores.{Store}
use Rattle.tg_query.specs.Requests.{request_text}
use Rattle.tg_reply.specs.Sent.{Sent, SentInFull, failed_in, sent_bytes}
use Rattle.tg_reply.specs.Shapes.{SentOver}

-- the address that the requests name
abbrev pub audit_addr : List ℕ
audit_addr = codes "127.0.0.1:80"

-- ---- the reply

-- all that is sent over a store for the request of a query, and the store broke off nowhere
pub record IsReplied (told : Option Store) (q : QueryParts) (reply : List ℕ) : Type 0 where
  pub sent : List Sent
  pub rest : List ℕ
  pub sent_is : SentInFull (SentOver told) (request_text q audit_addr) sent rest
  pub unbroken : failed_in sent ≡ 0
  pub reply_is : reply ≡ sent_bytes sent

-- or there is none: the request has more bytes than may be received; want of memory is free
abbrev pub IsUnreplied : QueryParts → AuditFault → Type 0
IsUnreplied q (audits.Limit number) = (number ≡ standard.received) × (number < length (request_text q audit_addr))
IsUnreplied q audits.OutOfMemory = ⊤
IsUnreplied q other = ⊥

-- ---- what a client makes of it

-- a front of a reply is the answer, of this length and digest
pub record IsHeardAnswer (q : QueryParts) (limits : LimitNumbers) (reply : List ℕ) (hashed : Hashed) : Type 0 where
  pub front : List ℕ
  pub more : List ℕ
  pub whole : reply ≡ front ++ more
  pub ended : Bool
  -- the link ended behind the whole reply
  pub over : ended ≡ true → more ≡ []
  pub sections : List Section
  pub text : List ℕ
  pub answered : IsAnswered q limits front ended sections text
  pub hash : IsHashOf text hashed

-- or it is refused for this, behind no more than may be received, which is no fault of out, of the link or of memory
pub record IsHeardRefusal (q : QueryParts) (limits : LimitNumbers) (reply : List ℕ) (fault : FetchFault) : Type 0 where
  pub front : List ℕ
  pub next : List ℕ
  pub more : List ℕ
  pub whole : reply ≡ front ++ (next ++ more)
  pub ended : Bool
  -- the link ended behind the whole reply
  pub over : ended ≡ true → next ++ more ≡ []
  pub sections : List Section
  pub text : List ℕ
  pub within : length front ≤ limits.received
  pub refused : RefusedBy q limits front next ended sections text fault
  pub of_reply : IsOwnFault fault → ⊥

-- why a reply is no answer; want of memory is free
abbrev pub IsUnheard : QueryParts → List ℕ → AuditFault → Type 0
IsUnheard q reply (audits.Client fault) = IsHeardRefusal q standard reply fault
IsUnheard q reply audits.OutOfMemory = ⊤
IsUnheard q reply other = ⊥

-- ---- both

pub record IsAnsweredBy (told : Option Store) (q : QueryParts) (hashed : Hashed) : Type 0 where
  pub reply : List ℕ
  pub replied : IsReplied told q reply
  pub answer : IsHeardAnswer q standard reply hashed

pub record IsRefusedBy (told : Option Store) (q : QueryParts) (fault : FetchFault) : Type 0 where
  pub reply : List ℕ
  pub replied : IsReplied told q reply
  pub refusal : IsHeardRefusal q standard reply fault

-- why a query has no answer: the reply is refused, or there is none
abbrev pub IsUnanswered : Option Store → QueryParts → AuditFault → Type 0
IsUnanswered told q (audits.Client fault) = IsRefusedBy told q fault
IsUnanswered told q fault = IsUnreplied q fault
