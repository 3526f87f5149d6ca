-- The replies of a gateway over a store to a stream of bytes (RFC 9112, sections 2.2 and 9.3).
use Rattle.std.specs.Prelude.{List, [], false, length, true, ℕ, ◌++◌, ◌≡◌}
use Rattle.httparse.specs.Grammar.{RequestHead as RequestTree}
use Rattle.tg_http.specs.Heads.{HasWholeText, IsNoRequest, IsRequest, IsWaiting, PassesLimit, TellsRequest}
use Rattle.tg_http.specs.declared.request.RequestHead.{RequestHead}
use Rattle.tg_model.specs.Stores.{Store}
use Rattle.tg_reply.specs.Replies.{refused_bytes, reply, reply_bytes}
use Rattle.tg_reply.specs.declared.refusal.Refusal.TheVariants.{BadHead, HeadLimit}

-- the bytes begin with a request of this head, and this follows it
pub record BeginsRequest (bytes : List ℕ) (head : RequestHead) (rest : List ℕ) : Type 0 where
  pub text : List ℕ
  pub tree : RequestTree
  pub is_request : IsRequest bytes text tree
  pub told : TellsRequest tree (length text) head
  pub whole : bytes ≡ text ++ rest

-- at most one request stands at the front of bytes
abbrev pub OneRequest : Type 0
OneRequest = (bytes rest behind : List ℕ) (head other : RequestHead) → BeginsRequest bytes head rest → BeginsRequest bytes other behind
    → (head ≡ other) × (rest ≡ behind)

-- What is written for the bytes: the replies to their heads in order, up to the first that closes, or to bytes that are
-- no head.
pub data Replies (store : Store) : List ℕ → List ℕ → Type 0 where
  -- no head is whole yet
  waits : (bytes : List ℕ) → IsWaiting bytes → Replies store bytes []
  -- no head is whole within the limit, or it has too many fields
  passes_limit : (bytes : List ℕ) → PassesLimit bytes → Replies store bytes (reply_bytes (refused_bytes HeadLimit))
  -- the head text is no head
  no_head : (bytes : List ℕ) → HasWholeText IsNoRequest bytes
      → Replies store bytes (reply_bytes (refused_bytes BadHead))
  -- the reply to the first request closes
  closes : (bytes rest : List ℕ) (head : RequestHead) → BeginsRequest bytes head rest → (reply store head).closes ≡ true
      → Replies store bytes (reply_bytes (reply store head))
  -- or the replies to what follows come behind it
  goes_on : (bytes rest written : List ℕ) (head : RequestHead) → BeginsRequest bytes head rest
      → (reply store head).closes ≡ false
      → Replies store rest written → Replies store bytes (reply_bytes (reply store head) ++ written)

-- what is written for bytes is determined by them
abbrev pub OneWriting : Type 0
OneWriting = (store : Store) (bytes written other : List ℕ) → Replies store bytes written → Replies store bytes other → written ≡ other
