-- Refusals of a path that stops at a block that isn't stored or can't be read.
use Rattle.std.proofs.Common.{Err, List, None, Ok, Option, Some, ap, refl, subst, ℕ, ◌∙◌, ◌≡◌}
use Rattle.tg_cid.specs.Cid.{CidParts}
use Rattle.tg_http.specs.declared.request.RequestHead.{RequestHead}
use Rattle.tg_model.specs.PathWalk.{Stop, bad_block, gone, not_reached, path_walk}
use Rattle.tg_model.specs.Queries.{QueryParts}
use Rattle.tg_model.specs.StoreView.{block_at, store_view}
use Rattle.tg_model.specs.Stores.{Lookups, LookupsQuiet, Store}
use Rattle.tg_model.specs.declared.fault.BlockFault.{BlockFault}
use Rattle.tg_reply.specs.Asked.{asked}
use Rattle.tg_reply.specs.Replies.{gone_refusal, missed_reply, refused_request, reply, reply_at, reply_to}
use Rattle.tg_reply.specs.declared.refusal.Refusal.TheVariants as refusals
use Rattle.tg_replying.specs.Replying.{IsRefusedOver}
use Rattle.tg_walk.specs.Resolving.{HasResolveCause, HasResolveShape, IsResolvedTo}
use Rattle.tg_walk.specs.declared.fault.ResolveFault.{ResolveFault}
use Rattle.tg_walk.specs.declared.fault.ResolveFault.TheVariants as ends

-- the reply where a path stops
stopped_reply : (store : Store) (head : RequestHead) (q : QueryParts) (stop : Stop) → asked head ≡ Ok q
    → (path_walk q.path (store_view store q.root)).end ≡ not_reached stop
    → reply store head ≡ missed_reply store head q stop
stopped_reply store head q stop is end = ap (reply_to store head) is ∙ ap (reply_at store head q) end

-- of a root that is stored another block is missed
not_the_root : (found : Option (List ℕ)) → (found ≡ None → ⊥) → gone_refusal found ≡ refusals.Gone
not_the_root None stored = absurd (stored refl)
not_the_root (Some block) stored = refl

-- a path was followed, and this stopped it
pub record StoppedBy (told : Option Store) (lookups : Lookups) (root : CidParts) (path : List (List ℕ))
    (fault : ResolveFault) : Type 0 where
  pub end : (store : Store) → told ≡ Some store → IsResolvedTo store root path (Err fault)
  pub shape : HasResolveShape root path (Err fault)
  pub cause : HasResolveCause (Err fault) told lookups

-- it is a query's path
for_query : (told : Option Store) (lookups : Lookups) (q : QueryParts) (root : CidParts) (path : List (List ℕ))
    (fault named : ResolveFault)
    → root ≡ q.root → path ≡ q.path → fault ≡ named → StoppedBy told lookups root path fault
    → StoppedBy told lookups q.root q.path named
for_query told lookups q root path fault named r p f stopped =
    subst (StoppedBy told lookups q.root q.path) f
    (subst (λ (path : List (List ℕ)). StoppedBy told lookups q.root path fault) p
    (subst (λ (root : CidParts). StoppedBy told lookups root path fault) r stopped))

gone_for : (told : Option Store) (lookups : Lookups) (q : QueryParts) (cid : CidParts)
    → StoppedBy told lookups q.root q.path (ends.Gone cid)
    → IsRefusedOver q told refusals.Gone
gone_for None lookups q cid stopped = stopped.shape
gone_for (Some store) lookups q cid stopped =
    let at = stopped.end store refl in
    λ head is. stopped_reply store head q (gone at.0) is at.3.end
    ∙ ap (refused_request head) (not_the_root (block_at store q.root) at.3.root_stored)

bad_for : (told : Option Store) (lookups : Lookups) (q : QueryParts) (cid : CidParts) (fault : BlockFault)
    → StoppedBy told lookups q.root q.path (ends.BadBlock cid fault) → IsRefusedOver q told refusals.BadBlock
bad_for None lookups q cid fault stopped = stopped.shape
bad_for (Some store) lookups q cid fault stopped =
    let at = stopped.end store refl in
    λ head is. stopped_reply store head q (bad_block at.0 fault) is at.2.end

-- by a block that isn't stored
pub gone_over : (told : Option Store) (lookups : Lookups) (q : QueryParts) (root : CidParts) (path : List (List ℕ))
    (fault : ResolveFault) (cid : CidParts)
    → root ≡ q.root → path ≡ q.path → fault ≡ ends.Gone cid → StoppedBy told lookups root path fault
    → IsRefusedOver q told refusals.Gone × LookupsQuiet lookups
gone_over told lookups q root path fault cid r p f stopped =
    let here = for_query told lookups q root path fault (ends.Gone cid) r p f stopped in
    (gone_for told lookups q cid here, here.cause)

-- or by one that can't be read
pub bad_over : (told : Option Store) (lookups : Lookups) (q : QueryParts) (root : CidParts) (path : List (List ℕ))
    (fault : ResolveFault) (cid : CidParts) (bad : BlockFault)
    → root ≡ q.root → path ≡ q.path → fault ≡ ends.BadBlock cid bad → StoppedBy told lookups root path fault
    → IsRefusedOver q told refusals.BadBlock × LookupsQuiet lookups
bad_over told lookups q root path fault cid bad r p f stopped =
    let here = for_query told lookups q root path fault (ends.BadBlock cid bad) r p f stopped in
    (bad_for told lookups q cid bad here, here.cause)
