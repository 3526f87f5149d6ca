-- What holds of stores with copies of blocks.
use Rattle.std.specs.Prelude.{List, Option, Some, None, [], ℕ, ◌++◌}
use Rattle.std.proofs.Common.{refl, sym, ◌∙◌}
use Rattle.tg_cid.specs.Cid.{CidParts}
use Rattle.tg_lanes.specs.Caches.{CachedState, HasSought, IsAmong, none_left, passed, taken}
use Rattle.tg_model.specs.Stores.{BlocksMeaning, IsGotten, IsToldStore, Store, as_v1}

pub among_joins : (u v : List CidParts) (all more : List CidParts) → IsAmong u all → IsAmong v more → IsAmong (u ++ v) (all ++ more)
among_joins _ v _ more none_left q = q
among_joins _ v _ more (taken cid some all p) q = taken cid (some ++ v) (all ++ more) (among_joins some v all more p q)
among_joins _ v _ more (passed cid some all p) q = passed cid (some ++ v) (all ++ more) (among_joins some v all more p q)

-- nothing sought leaves a store as it is, and one step after another is a step
pub sought_rests : {B : Type 0} (m : BlocksMeaning B) → ((b : B) → m.looked b b []) → (c : CachedState B) → HasSought m c c []
sought_rests m rests c = record { sought = []; among = none_left; moved = rests c.blocks; same_room = refl }

pub sought_joins : {B : Type 0} (m : BlocksMeaning B)
    → ((a b c : B) (u v : List CidParts) → m.looked a b u → m.looked b c v → m.looked a c (u ++ v))
    → (a b c : CachedState B) (u v : List CidParts) → HasSought m a b u → HasSought m b c v → HasSought m a c (u ++ v)
sought_joins m joins a b c u v p q = record {
  sought = p.sought ++ q.sought;
  among = among_joins p.sought q.sought u v p.among q.among;
  moved = joins a.blocks b.blocks c.blocks p.sought q.sought p.moved q.moved;
  same_room = q.same_room ∙ p.same_room;
}

-- what is gotten under a CID is gotten under its version 1 form, and the other way round
pub gotten_form : (told : Option Store) (cid : CidParts) (block : List ℕ) → IsToldStore told → IsGotten told cid (Some block)
    → IsGotten told (as_v1 cid) (Some block)
gotten_form None cid block is h = record { stored = tt; named = h.named }
gotten_form (Some store) cid block is h = record { stored = h.stored ∙ is.twins cid; named = h.named }

pub gotten_of_form : (told : Option Store) (cid : CidParts) (block : List ℕ) → IsToldStore told → IsGotten told (as_v1 cid) (Some block)
    → IsGotten told cid (Some block)
gotten_of_form None cid block is h = record { stored = tt; named = h.named }
gotten_of_form (Some store) cid block is h = record { stored = h.stored ∙ sym (is.twins cid); named = h.named }
