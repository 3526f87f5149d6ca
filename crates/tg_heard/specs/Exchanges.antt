-- A client's request for a query and a gateway's reply to it, over a store that holds the blocks of a sound DAG (RFC 9112,
-- sections 2 to 7; Path Gateway and Trustless Gateway specifications).
use Rattle.std.specs.Prelude.{All, Bool, Contains, List, None, Ok, Option, Some, codes, false, length, true, ℕ, ◌++◌, ◌≡◌, ◌≤◌}
use Rattle.tg_heard.specs.Carried.{Carries}
use Rattle.tg_heard.specs.Laws.{CarriedBy}
use Rattle.tg_http.specs.declared.request.RequestHead.{RequestHead}
use Rattle.tg_model.specs.Answer.{answer, block_of}
use Rattle.tg_model.specs.Counts.{counts}
use Rattle.tg_model.specs.Dag.{Dag, Section, blocks, root_cid}
use Rattle.tg_model.specs.LimitNumbers.{AreWithin, LimitNumbers}
use Rattle.tg_model.specs.Queries.{QueryParts}
use Rattle.tg_model.specs.Sound.{IsSound}
use Rattle.tg_model.specs.Stores.{IsStore, Store, as_v1}
use Rattle.tg_model.specs.Traversal.{block_list}
use Rattle.tg_model.specs.declared.queries.Form.{Form}
use Rattle.tg_model.specs.declared.queries.Form.TheVariants as forms
use Rattle.tg_model_laws.specs.Stores.{Holds}
use Rattle.tg_query.specs.Laws.{IsPrintable}
use Rattle.tg_query.specs.Requests.{IsAddr, request_text}
use Rattle.tg_reply.specs.Asked.{asked}
use Rattle.tg_reply.specs.AskedReadings.{IsByteStore}
use Rattle.tg_reply.specs.Bodies.{IsSpelled}
use Rattle.tg_reply.specs.Replies.{Reply, car_reply, raw_reply, reply, reply_bytes}
use Rattle.tg_reply.specs.Streams.{BeginsRequest, Replies}
use Rattle.tg_walk.specs.Walks.{max_depth}

-- ---- the request

-- the head asks for the query, by GET of HTTP/1.1, and for a close behind the reply
pub record IsOwnHead (q : QueryParts) (head : RequestHead) : Type 0 where
  pub asked_is : asked head ≡ Ok q
  pub method : head.method ≡ codes "GET"
  pub minor : head.minor ≡ 1
  pub close : head.close ≡ true

-- whatever follows the request that is printed for a query, it is read, and all that is read of it is such a head
abbrev pub PrintedIsRead : Type 0
PrintedIsRead = (q : QueryParts) (addr more : List ℕ) → IsPrintable q addr
    → ((head : RequestHead) × BeginsRequest (request_text q addr ++ more) head more)
    × ((head : RequestHead) (rest : List ℕ) → BeginsRequest (request_text q addr ++ more) head rest → IsOwnHead q head × (rest ≡ more))

-- ---- the reply

-- there is an answer
abbrev pub is_answer : Option (List ℕ) → Bool
is_answer (Some text) = true
is_answer None = false

-- the reply that a DAG has: its root's block, or the CAR of its own traversal, with status 404 where there is no answer
abbrev pub own_reply : RequestHead → QueryParts → Dag → Form → Reply
own_reply head q d forms.Raw = raw_reply head q (block_of d)
own_reply head q d forms.Car = car_reply head (is_answer (answer q d)) q (block_list q d) false

-- a store of bytes holds the blocks of a sound DAG with the query's root
pub record IsHeld (store : Store) (q : QueryParts) (d : Dag) : Type 0 where
  pub store_is : IsByteStore store
  pub sound : IsSound d
  pub root : root_cid d ≡ q.root
  pub holds : Holds store d

-- where none of them that is asked for lies too deep, it is that of the gateway
abbrev pub OwnReply : Type 0
OwnReply = (store : Store) (q : QueryParts) (d : Dag) (head : RequestHead) → IsHeld store q d → (counts q d).depth ≤ max_depth
    → IsOwnHead q head → reply store head ≡ own_reply head q d q.form

-- ---- limits

-- no two different blocks stand under one CID, of which version 0 is taken as version 1
abbrev pub HasOneBlockEach : Dag → Type 0
HasOneBlockEach d = (one other : Section) → Contains (blocks d) one → Contains (blocks d) other → as_v1 one.cid ≡ as_v1 other.cid → one.block ≡ other.block

-- Within the limits: no two different blocks stand under one CID; no count is above its number; no block that is asked for
-- lies deeper than a gateway sends; with each address the request fits a head, and so does the reply's; and the reply is no
-- longer than what may be received.
pub record IsWithin (q : QueryParts) (limits : LimitNumbers) (d : Dag) : Type 0 where
  pub one_block : HasOneBlockEach d
  pub counts_are : AreWithin limits (counts q d)
  pub shallow : (counts q d).depth ≤ max_depth
  pub request : (addr : List ℕ) → IsAddr addr → length (request_text q addr) ≤ 16384
  pub head : (head : RequestHead) → IsOwnHead q head → length (own_reply head q d q.form).head ≤ 16384
  pub received : (head : RequestHead) → IsOwnHead q head → length (reply_bytes (own_reply head q d q.form)) ≤ limits.received

-- a query with an answer, by a CIDv1
pub record IsAnswerable (q : QueryParts) (d : Dag) : Type 0 where
  pub version : q.root.version ≡ 1
  pub text : List ℕ
  pub answer_is : answer q d ≡ Some text

-- the first of these holds wherever one store holds the blocks
abbrev pub HeldHaveOneBlock : Type 0
HeldHaveOneBlock = (store : Store) (d : Dag) → IsStore store → Holds store d → HasOneBlockEach d

-- ---- both

-- what is written carries the sections of the DAG's own traversal, whatever follows it and whether or not the link ended:
-- as the answer, or as an absence; and it may be received
pub record IsCarried (q : QueryParts) (limits : LimitNumbers) (d : Dag) (written : List ℕ) : Type 0 where
  pub carries : (behind : List ℕ) (ended : Bool) → CarriedBy (is_answer (answer q d)) (written ++ behind) ended q (block_list q d)
  pub few : length written ≤ limits.received

-- the DAG's own reply does, whichever store gave it
abbrev pub OwnReplyCarries : Type 0
OwnReplyCarries = (q : QueryParts) (d : Dag) (limits : LimitNumbers) (addr : List ℕ) (head : RequestHead) → IsSound d → root_cid d ≡ q.root
    → All IsSpelled (block_list q d) → IsWithin q limits d → IsPrintable q addr → IsOwnHead q head
    → IsCarried q limits d (reply_bytes (own_reply head q d q.form))

-- so does what is written for the printed request, whatever follows it
abbrev pub OwnRepliesCarry : Type 0
OwnRepliesCarry = (store : Store) (q : QueryParts) (d : Dag) (limits : LimitNumbers) (addr more written : List ℕ) → IsHeld store q d
    → IsWithin q limits d → IsPrintable q addr → Replies store (request_text q addr ++ more) written → IsCarried q limits d written

-- so an answerable query is answered
abbrev pub AnswerableIsAnswered : Type 0
AnswerableIsAnswered = (store : Store) (q : QueryParts) (d : Dag) (limits : LimitNumbers) (addr more written : List ℕ) → IsHeld store q d
    → IsWithin q limits d → IsAnswerable q d → IsPrintable q addr → Replies store (request_text q addr ++ more) written
    → (behind : List ℕ) (ended : Bool) → Carries (written ++ behind) ended q (block_list q d)
