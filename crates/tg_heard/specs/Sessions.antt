-- What a session sends for a client's request for a query, over a store that holds the blocks of a sound DAG (RFC 9112,
-- sections 2 to 7 and 9.3; Path Gateway and Trustless Gateway specifications).
use Rattle.std.specs.Prelude.{List, true, ℕ, ◌++◌, ◌≡◌, ◌≤◌}
use Rattle.tg_http.specs.declared.request.RequestHead.{RequestHead}
use Rattle.tg_model.specs.Counts.{counts}
use Rattle.tg_model.specs.Dag.{Dag}
use Rattle.tg_model.specs.LimitNumbers.{LimitNumbers}
use Rattle.tg_model.specs.Queries.{QueryParts}
use Rattle.tg_model.specs.Stores.{Store}
use Rattle.tg_query.specs.Laws.{IsPrintable}
use Rattle.tg_query.specs.Requests.{request_text}
use Rattle.tg_reply.specs.Replies.{reply_bytes}
use Rattle.tg_reply.specs.Sent.{Sent, SentFor, SentInFull, closed_by, failed_in, sent_bytes}
use Rattle.tg_walk.specs.Walks.{max_depth}
use Rattle.tg_heard.specs.Exchanges.{IsCarried, IsHeld, IsOwnHead, IsWithin, own_reply}

-- what a session sends for the printed request, whatever follows it, is the DAG's reply and nothing more, where the store
-- breaks off nowhere; and the connection closes behind it
abbrev pub OwnIsSent : Type 0
OwnIsSent = (store : Store) (q : QueryParts) (d : Dag) (addr more rest : List ℕ) (sent : List Sent) → IsHeld store q d
    → (counts q d).depth ≤ max_depth → IsPrintable q addr
    → SentInFull (SentFor store) (request_text q addr ++ more) sent rest → failed_in sent ≡ 0
    → (head : RequestHead) × IsOwnHead q head
    × (sent_bytes sent ≡ reply_bytes (own_reply head q d q.form)) × (closed_by sent ≡ true)

-- and within the limits it carries the sections of the DAG's own traversal
abbrev pub SentCarries : Type 0
SentCarries = (store : Store) (q : QueryParts) (d : Dag) (limits : LimitNumbers) (addr more rest : List ℕ) (sent : List Sent)
    → IsHeld store q d → IsWithin q limits d → IsPrintable q addr
    → SentInFull (SentFor store) (request_text q addr ++ more) sent rest → failed_in sent ≡ 0
    → IsCarried q limits d (sent_bytes sent)
