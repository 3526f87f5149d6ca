-- The reply of a gateway whose store has no block of the root that is asked for (Path Gateway and Trustless Gateway
-- specifications, response status codes).
use Rattle.std.specs.Prelude.{None, Ok, ◌≡◌}
use Rattle.tg_http.specs.declared.request.RequestHead.{RequestHead}
use Rattle.tg_model.specs.Queries.{QueryParts}
use Rattle.tg_model.specs.StoreView.{block_at}
use Rattle.tg_model.specs.Stores.{Store}
use Rattle.tg_reply.specs.Asked.{asked}
use Rattle.tg_reply.specs.Replies.{refused_request, reply}
use Rattle.tg_reply.specs.declared.refusal.Refusal.TheVariants as refusals

-- where the root isn't stored the reply to any query for it is the refusal that says so
abbrev pub MissedRoots : Type 0
MissedRoots = (store : Store) (head : RequestHead) (q : QueryParts) → asked head ≡ Ok q → block_at store q.root ≡ None
    → reply store head ≡ refused_request head refusals.NoRoot
