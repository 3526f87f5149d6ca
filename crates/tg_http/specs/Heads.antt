-- What the head of a request or of a reply is, and why bytes have none (RFC 9112, sections 2 to 6).
use Rattle.std.specs.Prelude.{◌≡◌, ◌↔◌, ℕ, ◌<◌, ◌≤◌, ◌⊎◌, List, [], ◌++◌, map, length, codes, IsFalse, Option}
use Rattle.std.specs.Prelude.{MatchOption}
use Rattle.httparse.specs.Grammar.{RequestHead as RequestTree, ResponseHead as ReplyTree, ReadsRequest, ReadsResponse}
use Rattle.httparse.specs.Grammar.{status_code}
use Rattle.httparse.specs.Spans.{name_and_value}
use Rattle.tg_http.specs.declared.fault.HttpFault.{HttpFault}
use Rattle.tg_http.specs.declared.fault.HttpFault.TheVariants as faults
use Rattle.tg_http.specs.declared.request.RequestHead.{RequestHead}
use Rattle.tg_http.specs.declared.reply.ReplyHead.{ReplyHead}
use Rattle.tg_http.specs.HeadText.{BeginsHead, HasNoHead}
use Rattle.tg_http.specs.Fields.{values, closes, first, coding_of}
use Rattle.tg_http.specs.Framing.{IsFramingOf, HasNoBody}

-- no head text is whole yet, and there are too few bytes to say that none will be
pub record IsWaiting (bytes : List ℕ) : Type 0 where
  pub none : HasNoHead bytes
  pub short : length bytes < 16384

-- what is told of a request of this many bytes with these parts, its fields given by names and values
pub record TellsParts (used : ℕ) (method target : List ℕ) (minor : ℕ) (fields : List (List ℕ × List ℕ)) (head : RequestHead) : Type 0 where
  pub used_is : head.used ≡ used
  pub method_is : head.method ≡ method
  pub target_is : head.target ≡ target
  pub minor_is : head.minor ≡ minor
  pub accept_is : head.accept ≡ values (codes "accept") fields
  pub close_is : head.close ≡ closes fields
  pub framed_is : IsFalse head.framed ↔ HasNoBody fields

-- the same of a reply
pub record TellsReplyParts (used status : ℕ) (fields : List (List ℕ × List ℕ)) (head : ReplyHead) : Type 0 where
  pub used_is : head.used ≡ used
  pub status_is : head.status ≡ status
  pub kind_is : head.kind ≡ first (values (codes "content-type") fields)
  pub coding_is : head.coding ≡ coding_of (values (codes "content-encoding") fields)
  pub framing_is : IsFramingOf fields head.framing

abbrev pub TellsRequest : RequestTree → ℕ → RequestHead → Type 0
TellsRequest tree used head = TellsParts used tree.method tree.target tree.minor (map name_and_value tree.fields) head

abbrev pub TellsReply : ReplyTree → ℕ → ReplyHead → Type 0
TellsReply tree used head = TellsReplyParts used (status_code tree) (map name_and_value tree.fields) head

-- The bytes begin with a head text of at most 64 fields, which is this head of a grammar, that of requests or of replies.
pub record IsHead {Tree : Type 0} (Reads : List ℕ → Tree → List ℕ → Type 0) (bytes text : List ℕ) (tree : Tree) : Type 0 where
  pub count : ℕ
  pub begins : BeginsHead bytes text count
  pub few : count ≤ 64
  pub reads : Reads text tree []

abbrev pub IsRequest : List ℕ → List ℕ → RequestTree → Type 0
IsRequest bytes text tree = IsHead ReadsRequest bytes text tree

abbrev pub IsReply : List ℕ → List ℕ → ReplyTree → Type 0
IsReply bytes text tree = IsHead ReadsResponse bytes text tree

-- what a reader of heads that refused nothing tells
abbrev pub FindsHead : {Tree Head : Type 0} → (List ℕ → Tree → List ℕ → Type 0) → (Tree → ℕ → Head → Type 0) → List ℕ
    → Option Head → Type 0
FindsHead {Tree} Reads Tells bytes told =
    MatchOption told (IsWaiting bytes)
    (λ head. (text : List ℕ) × (tree : Tree) × IsHead Reads bytes text tree × Tells tree (length text) head)

abbrev pub FindsRequest : List ℕ → Option RequestHead → Type 0
FindsRequest bytes told = FindsHead ReadsRequest TellsRequest bytes told

abbrev pub FindsReply : List ℕ → Option ReplyHead → Type 0
FindsReply bytes told = FindsHead ReadsResponse TellsReply bytes told

-- the first 16,384 bytes hold no whole head text, or the head text has more than 64 fields
abbrev pub PassesLimit : List ℕ → Type 0
PassesLimit bytes =
    ((16384 ≤ length bytes) × HasNoHead bytes) ⊎ ((text : List ℕ) × (count : ℕ) × BeginsHead bytes text count × (64 < count))

-- the bytes begin with a head text within the limits, of which this holds
abbrev pub HasWholeText : (List ℕ → Type 0) → List ℕ → Type 0
HasWholeText P bytes = (text : List ℕ) × (count : ℕ) × BeginsHead bytes text count × (count ≤ 64) × P text

-- the text is no head of a grammar
abbrev pub IsNoHead : {Tree : Type 0} → (List ℕ → Tree → List ℕ → Type 0) → List ℕ → Type 0
IsNoHead {Tree} Reads text = (tree : Tree) → Reads text tree [] → ⊥

abbrev pub IsNoRequest : List ℕ → Type 0
IsNoRequest text = IsNoHead ReadsRequest text

abbrev pub IsNoReply : List ℕ → Type 0
IsNoReply text = IsNoHead ReadsResponse text

-- the cause of each refusal of a head but want of memory
abbrev pub HasHeadCause : (List ℕ → Type 0) → List ℕ → HttpFault → Type 0
HasHeadCause none bytes faults.HeadLimit = PassesLimit bytes
HasHeadCause none bytes faults.BadHead = HasWholeText none bytes
HasHeadCause none bytes faults.BadFraming = ⊥
HasHeadCause none bytes faults.OutOfMemory = ⊥

-- what the front of bytes says of a head stays true whatever comes behind them
abbrev pub HeadStays : {Tree : Type 0} → (List ℕ → Tree → List ℕ → Type 0) → Type 0
HeadStays {Tree} Reads =
    ((bytes more text : List ℕ) (tree : Tree) → IsHead Reads bytes text tree → IsHead Reads (bytes ++ more) text tree)
    × ((bytes more : List ℕ) (fault : HttpFault) → HasHeadCause (IsNoHead Reads) bytes fault → HasHeadCause (IsNoHead Reads) (bytes ++ more) fault)

abbrev pub RequestStays : Type 0
RequestStays = HeadStays ReadsRequest

abbrev pub ReplyStays : Type 0
ReplyStays = HeadStays ReadsResponse
