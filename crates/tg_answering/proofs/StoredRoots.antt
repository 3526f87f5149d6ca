-- The replies to queries for a raw block without a path, by what the store shows of the root.
use Rattle.std.proofs.Common.{Err, List, None, Ok, Option, Result, Some, [], ap, ℕ, ◌∙◌, ◌≡◌}
use Rattle.tg_answering.specs.StoredRoots.{StoredBlocks}
use Rattle.tg_cid.specs.Cid.{CidParts}
use Rattle.tg_http.specs.declared.request.RequestHead.{RequestHead}
use Rattle.tg_model.specs.Computed.{read}
use Rattle.tg_model.specs.Dag.{Dag, Section, bare, links_of, node}
use Rattle.tg_model.specs.PathWalk.{path_walk}
use Rattle.tg_model.specs.Queries.{QueryParts}
use Rattle.tg_model.specs.StoreView.{block_at, children_by, opened_to, read_as, store_view, with_block}
use Rattle.tg_model.specs.Stores.{Store}
use Rattle.tg_model.specs.declared.fault.BlockFault.{BlockFault}
use Rattle.tg_model.specs.declared.kinds.Kind.{Kind}
use Rattle.tg_model.specs.declared.queries.Form.TheVariants as forms
use Rattle.tg_reply.specs.Asked.{asked}
use Rattle.tg_reply.specs.Replies.{Reply, found_reply, gone_refusal, raw_reply, refused_request, reply, reply_at, reply_to}
use Rattle.tg_reply.specs.declared.refusal.Refusal.TheVariants as refusals

module _ (store : Store) (head : RequestHead) (q : QueryParts) (raw : q.form ≡ forms.Raw) where
  -- a block is the terminal of the empty path, however it is read
  read_there : (opened : CidParts → Dag) (section : Section) (r : Result Kind BlockFault) → reply_at store head q (path_walk [] (read_as opened section r)).end ≡ raw_reply head q section.block
  read_there opened section (Ok kind) = ap (found_reply store head q (node section kind (children_by opened (links_of kind)))) raw
  read_there opened section (Err fault) = ap (found_reply store head q (bare section (Some fault))) raw

  -- the reply by what is found for the root
  abbrev reply_by : (CidParts → Dag) → Option (List ℕ) → Reply
  reply_by opened found = reply_at store head q (path_walk [] (with_block opened q.root found)).end

  module _ (pathless : q.path ≡ []) (asked_is : asked head ≡ Ok q) where
    by_root : reply store head ≡ reply_by (opened_to 1099 store) (block_at store q.root)
    by_root = ap (reply_to store head) asked_is ∙ ap (λ (path : List (List ℕ)). reply_at store head q (path_walk path (store_view store q.root)).end) pathless

    stored : (block : List ℕ) → block_at store q.root ≡ Some block → reply store head ≡ raw_reply head q block
    stored block is = by_root ∙ ap (reply_by (opened_to 1099 store)) is ∙ read_there (opened_to 1099 store) (record { cid = q.root; block = block }) (read q.root block)

    not_stored : block_at store q.root ≡ None → reply store head ≡ refused_request head refusals.NoRoot
    not_stored is = by_root ∙ ap (reply_by (opened_to 1099 store)) is ∙ ap (λ (found : Option (List ℕ)). refused_request head (gone_refusal found)) is

-- both for any store and query
pub stored_blocks : StoredBlocks
stored_blocks store head q raw pathless asked_is = (stored store head q raw pathless asked_is, not_stored store head q raw pathless asked_is)
