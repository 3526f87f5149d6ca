-- What holds of the heads and of the bodies of replies.
use Rattle.httparse.specs.Grammar.{AllPass, ResponseHead as ReplyTree, is_value_byte}
use Rattle.std.specs.Prelude.{Bool, List, None, Some, length, ℕ, ◌++◌, ◌<◌, ◌^◌, ◌≡◌, ◌≤◌}
use Rattle.tg_http.specs.Heads.{IsReply, TellsReply}
use Rattle.tg_http.specs.declared.framing.Framing.{Framing}
use Rattle.tg_http.specs.declared.framing.Framing.TheVariants.{Chunked, Length, UntilClose}
use Rattle.tg_http.specs.declared.reply.ReplyHead.{ReplyHead}
use Rattle.tg_query.specs.Accepts.{raw_type}
use Rattle.tg_query.specs.Requests.{car_with_dups}
use Rattle.tg_reply.specs.Heads.{car_fields, car_status, head_text, raw_fields, refusal_head, text_of, text_type}
use Rattle.tg_reply.specs.Refusals.{status_of}
use Rattle.tg_reply.specs.declared.refusal.Refusal.{Refusal}
use Rattle.tg_reply.specs.declared.status.Status.{Status}
use Rattle.tg_reply.specs.declared.status.Status.TheVariants as statuses

-- the number of a status
abbrev pub number_of : Status → ℕ
number_of statuses.Ok = 200
number_of statuses.BadRequest = 400
number_of statuses.NotFound = 404
number_of statuses.MethodNotAllowed = 405
number_of statuses.NotAcceptable = 406
number_of statuses.FieldsTooLarge = 431
number_of statuses.ServerError = 500

-- what a client is told of a head: its length, status, type, coding and framing
pub record Tells (size status : ℕ) (kind : List ℕ) (framing : Framing) (head : ReplyHead) : Type 0 where
  pub used : head.used ≡ size
  pub status_is : head.status ≡ status
  pub kind_is : head.kind ≡ Some kind
  pub coding : head.coding ≡ None
  pub framing_is : head.framing ≡ framing

-- whatever follows the text, it is the head of a reply at the front, and all that is told of it is this
pub record ReadsBack (text : List ℕ) (status : ℕ) (kind : List ℕ) (framing : Framing) : Type 0 where
  pub tree : ReplyTree
  pub is_reply : (rest : List ℕ) → IsReply (text ++ rest) text tree
  pub told : (head : ReplyHead) → TellsReply tree (length text) head → Tells (length text) status kind framing head

-- the head of each refusal reads back
abbrev pub RefusalsReadBack : Type 0
RefusalsReadBack = (refusal : Refusal) (closes : Bool)
    → ReadsBack (refusal_head refusal closes) (number_of (status_of refusal)) text_type (Length (length (text_of refusal)))

-- so does the head before a raw block and before a CAR, with whichever path in bytes of a field, where it fits a head
abbrev pub RawReadsBack : Type 0
RawReadsBack = (path : List ℕ) (size : ℕ) (closes : Bool) → AllPass is_value_byte path → size < 2 ^ 63
    → length (head_text statuses.Ok (raw_fields path size closes)) ≤ 16384
    → ReadsBack (head_text statuses.Ok (raw_fields path size closes)) 200 raw_type (Length size)

-- in chunks, or to HTTP/1.0 until the connection closes
abbrev pub CarReadsBack : Type 0
CarReadsBack = (found dups : Bool) (path : List ℕ) (closes : Bool) → AllPass is_value_byte path
    → (length (head_text (car_status found) (car_fields found dups path 1 closes)) ≤ 16384
    → ReadsBack (head_text (car_status found) (car_fields found dups path 1 closes)) (number_of (car_status found)) (car_with_dups dups) Chunked)
    × (length (head_text (car_status found) (car_fields found dups path 0 closes)) ≤ 16384
    → ReadsBack (head_text (car_status found) (car_fields found dups path 0 closes)) (number_of (car_status found)) (car_with_dups dups) UntilClose)
