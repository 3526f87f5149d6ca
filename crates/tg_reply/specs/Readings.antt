-- What a reader makes of the replies to GET: the head and the body that they were given.
use Rattle.std.specs.Prelude.{All, Bool, List, false, length, ℕ, ◌<◌, ◌^◌, ◌≡◌, ◌≤◌}
use Rattle.tg_body.specs.Bodies.{BodyText}
use Rattle.tg_bytes.specs.Lists.{joined}
use Rattle.tg_cid.specs.Spelling.{CidBytes}
use Rattle.tg_http.specs.declared.framing.Framing.{Framing}
use Rattle.tg_http.specs.declared.framing.Framing.TheVariants.{Chunked, Length, UntilClose}
use Rattle.tg_http.specs.declared.request.RequestHead.{RequestHead}
use Rattle.tg_model.specs.Dag.{Section}
use Rattle.tg_model.specs.Queries.{QueryParts}
use Rattle.tg_query.specs.Accepts.{raw_type}
use Rattle.tg_query.specs.Requests.{car_with_dups}
use Rattle.tg_reply.specs.Asked.{is_head}
use Rattle.tg_reply.specs.Bodies.{IsCar, IsSpelled}
use Rattle.tg_reply.specs.CarBytes.{car_parts}
use Rattle.tg_reply.specs.Heads.{text_of, text_type}
use Rattle.tg_reply.specs.Laws.{ReadsBack, number_of}
use Rattle.tg_reply.specs.Replies.{Reply, car_reply, raw_reply, refused_bytes, refused_request}
use Rattle.tg_reply.specs.declared.refusal.Refusal.{Refusal}

-- the head reads back with this type and framing, and the body is this content, whole in the framing
pub record Reads (reply : Reply) (kind : List ℕ) (framing : Framing) (content : List ℕ) : Type 0 where
  pub head : ReadsBack reply.head (number_of reply.status) kind framing
  pub body : BodyText framing content reply.body

-- the reply of a refusal is its text
abbrev pub RefusalsRead : Type 0
RefusalsRead = (head : RequestHead) (refusal : Refusal) → is_head head.method ≡ false
    → Reads (refused_request head refusal) text_type (Length (length (text_of refusal))) (text_of refusal)

abbrev pub RefusedBytesRead : Type 0
RefusedBytesRead =
    (refusal : Refusal) → Reads (refused_bytes refusal) text_type (Length (length (text_of refusal))) (text_of refusal)

-- a request by GET for a query whose root is spelled and whose names are bytes
pub record IsGet (head : RequestHead) (q : QueryParts) : Type 0 where
  pub method : is_head head.method ≡ false
  pub name : List ℕ
  pub root : CidBytes q.root name
  pub names : All (λ name. All (λ b. b < 256) name) q.path

-- the reply with a raw block is the block, where its head fits a head
abbrev pub RawReads : Type 0
RawReads = (head : RequestHead) (q : QueryParts) (block : List ℕ) → IsGet head q → length block < 2 ^ 63 → length (raw_reply head q block).head ≤ 16384
    → Reads (raw_reply head q block) raw_type (Length (length block)) block

-- the reply with a CAR that isn't cut is the CAR, in chunks or to HTTP/1.0 until the connection closes
pub record IsCarRead (head : RequestHead) (found : Bool) (q : QueryParts) (sections : List Section) (framing : Framing) : Type 0 where
  pub reads : Reads (car_reply head found q sections false) (car_with_dups q.dups) framing (joined (car_parts q.root sections))
  pub car : IsCar q.root sections

abbrev pub CarReads : Type 0
CarReads = (head : RequestHead) (found : Bool) (q : QueryParts) (sections : List Section) → IsGet head q → All IsSpelled sections
    → length (car_reply head found q sections false).head ≤ 16384
    → (head.minor ≡ 1 → IsCarRead head found q sections Chunked) × (head.minor ≡ 0 → IsCarRead head found q sections UntilClose)
