-- What is looked up for lanes is looked up in their store.
use Rattle.std.proofs.Common.{◌≡◌, List}
use Rattle.std.specs.Prelude.{All}
use Rattle.std.proofs.lemmas.List.Elements.{All-cons, All-head, All-nil, All-tail}
use Rattle.tg_cid.specs.Cid.{CidParts}
use Rattle.tg_cid.specs.declared.cid.HashKind.TheVariants.{Sha256}
use Rattle.tg_lanes.specs.Caches.{CachedState, IsAmong, cached_blocks, none_left, passed, taken}
use Rattle.tg_model.specs.Stores.{BlocksMeaning, looked_in}
use Rattle.tg_walk.specs.Walks.{HaveLookedUp}

-- what holds of all holds of some
among_all : (P : CidParts → Type 0) (some all : List CidParts) → IsAmong some all → All P all → All P some
among_all P _ _ none_left h = All-nil P
among_all P _ _ (taken cid some all p) h = All-cons P cid some (All-head P cid all h) (among_all P some all p (All-tail P cid all h))
among_all P _ _ (passed cid some all p) h = among_all P some all p (All-tail P cid all h)

-- what was looked up in a store with copies was looked up in its store, or not at all
pub looked_below : {B : Type 0} (m : BlocksMeaning B) (a b : CachedState B) → HaveLookedUp (looked_in (cached_blocks m) a b)
    → HaveLookedUp (looked_in m a.blocks b.blocks)
looked_below m a b h = record {
  cids = h.looked.moved.sought;
  looked = record { moved = h.looked.moved.moved; stored = h.looked.stored };
  hashed = among_all (λ (cid : CidParts). cid.hash ≡ Sha256) h.looked.moved.sought h.cids h.looked.moved.among h.hashed;
}
