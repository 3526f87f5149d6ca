-- What a session sends for the printed request is the DAG's own reply, and closes.
use Rattle.std.proofs.Common.{List, ap, inl, inr, refl, true, ℕ, ◌++◌, ◌∙◌, ◌≡◌, ◌≤◌}
use Rattle.tg_http.specs.declared.request.RequestHead.{RequestHead}
use Rattle.tg_model.specs.Counts.{counts}
use Rattle.tg_model.specs.Dag.{Dag}
use Rattle.tg_model.specs.Queries.{QueryParts}
use Rattle.tg_model.specs.Stores.{Store}
use Rattle.tg_query.specs.Requests.{request_text}
use Rattle.tg_reply.specs.Replies.{Reply}
use Rattle.tg_reply.specs.Streams.{BeginsRequest, OneWriting}
use Rattle.tg_reply.specs.SentLaws.{SentAsReplies}
use Rattle.tg_reply.specs.Sent.{IsSettled, Sent, SentAll, SentFor, bad_head, before_head, behind_sections, closed_by, exact, last, limit, next, no_more, sent_bytes}
use Rattle.tg_walk.specs.Walks.{max_depth}
use Rattle.tg_heard.specs.Exchanges.{IsHeld, IsOwnHead, OwnRepliesCarry, OwnReply, PrintedIsRead}
use Rattle.tg_heard.specs.Sessions.{OwnIsSent, SentCarries}
use Rattle.tg_heard.proofs.Carried.{close_asked, is_own, reply_closes}

-- ---- closing

module _ (law : OwnReply) (store : Store) (q : QueryParts) (d : Dag) (held : IsHeld store q d) (shallow : (counts q d).depth ≤ max_depth) where
  -- whatever is sent for a head that asks for the query and for a close, it closes
  sent_closes : (head : RequestHead) (s : Sent) → IsOwnHead q head → SentFor store head s → s.reply.closes ≡ true
  sent_closes head s own (exact before) = ap (λ (r : Reply). r.closes) (law store q d head held shallow own) ∙ reply_closes q d head q.form own
  sent_closes head s own (before_head p before now a r) = rw (close_asked q head own) refl
  sent_closes head s own (behind_sections p count before now b r) = rw (close_asked q head own) refl

  -- so where bytes begin with a request, and with none but of such a head, all that is sent for them closes
  all_closes : (bytes behind rest : List ℕ) (first : RequestHead) (sent : List Sent) → BeginsRequest bytes first behind
      → ((head : RequestHead) (r : List ℕ) → BeginsRequest bytes head r → IsOwnHead q head) → SentAll store bytes sent rest → IsSettled rest sent
      → closed_by sent ≡ true
  all_closes bytes behind rest first sent begins own (no_more b) (inl w) =
      absurd (w.none begins.text begins.is_request.count begins.is_request.begins)
  all_closes bytes behind rest first sent begins own (no_more b) (inr closed) = closed
  all_closes bytes behind rest first sent begins own (limit b before h) settled = refl
  all_closes bytes behind rest first sent begins own (bad_head b before h) settled = refl
  all_closes bytes behind rest first sent begins own (last b r head s here f e) settled = rw e refl
  all_closes bytes behind rest first sent begins own (next b r left head s more here f e below) settled = rw (sent_closes head s (own head r here) f) refl

-- ---- what is sent

-- it is the DAG's own reply
pub own_is_sent : PrintedIsRead → OwnReply → OneWriting → SentAsReplies → OwnIsSent
own_is_sent requests law one replies store q d addr more rest sent held shallow printable full none =
    let bytes = request_text q addr ++ more in
    let read = requests q addr more printable in
    let own = (read.1 read.0.0 more read.0.1).0 in (
      read.0.0,
      own,
      is_own law one store q d bytes more (sent_bytes sent) read.0.0 held shallow (replies store bytes rest sent full none).0 read.0.1 own,
      all_closes law store q d held shallow bytes more rest read.0.0 sent read.0.1 (λ head r here. (read.1 head r here).0) full.sent_is full.settled,
    )

-- and carries the sections
pub sent_carries : SentAsReplies → OwnRepliesCarry → SentCarries
sent_carries replies carry store q d limits addr more rest sent held within printable full none =
    carry store q d limits addr more (sent_bytes sent) held within printable (replies store (request_text q addr ++ more) rest sent full none).0
