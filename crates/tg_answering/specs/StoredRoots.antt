-- The replies to queries for a raw block without a path, by whether the store has the root's block (Trustless Gateway
-- specification, raw blocks; Path Gateway specification, Path Resolution).
use Rattle.std.specs.Prelude.{List, None, Ok, Some, [], ℕ, ◌≡◌}
use Rattle.tg_http.specs.declared.request.RequestHead.{RequestHead}
use Rattle.tg_model.specs.Queries.{QueryParts}
use Rattle.tg_model.specs.StoreView.{block_at}
use Rattle.tg_model.specs.Stores.{Store}
use Rattle.tg_model.specs.declared.queries.Form.TheVariants as forms
use Rattle.tg_reply.specs.Asked.{asked}
use Rattle.tg_reply.specs.Replies.{raw_reply, refused_request, reply}
use Rattle.tg_reply.specs.declared.refusal.Refusal.TheVariants as refusals

-- over a root that is stored, an empty path leads to its block; and over one that isn't, it stops there
abbrev pub StoredBlocks : Type 0
StoredBlocks = (store : Store) (head : RequestHead) (q : QueryParts) → q.form ≡ forms.Raw → q.path ≡ [] → asked head ≡ Ok q
    → ((block : List ℕ) → block_at store q.root ≡ Some block → reply store head ≡ raw_reply head q block)
    × (block_at store q.root ≡ None → reply store head ≡ refused_request head refusals.NoRoot)
