-- What contracts see of a store with copies of blocks.
use Rattle.std.specs.Prelude.{Contains, List, Option, Some, [], ℕ, ◌∷◌, ◌≡◌}
use Rattle.tg_cid.specs.Cid.{CidParts}
use Rattle.tg_model.specs.Stores.{BlocksMeaning, IsGotten, Store}

-- the store, and the copies that are kept by the version 1 forms of their CIDs, the one that was sought last first; and how
-- many there may be
pub record CachedState (B : Type 0) : Type 0 where
  pub blocks : B
  pub kept : List (CidParts × List ℕ)
  pub room : ℕ

-- each copy is what a look-up under its CID gives
abbrev pub AreStored : Option Store → List (CidParts × List ℕ) → Type 0
AreStored told kept = (cid : CidParts) (block : List ℕ) → Contains kept (cid, block) → IsGotten told cid (Some block)

-- some of these CIDs, in order
pub data IsAmong : List CidParts → List CidParts → Type 0 where
  none_left : IsAmong [] []
  taken : (cid : CidParts) (some all : List CidParts) → IsAmong some all → IsAmong (cid ∷ some) (cid ∷ all)
  passed : (cid : CidParts) (some all : List CidParts) → IsAmong some all → IsAmong some (cid ∷ all)

-- of the CIDs that were looked up these were looked up in the store; and as many copies as before may be kept
pub record HasSought {B : Type 0} (m : BlocksMeaning B) (a b : CachedState B) (cids : List CidParts) : Type 0 where
  pub sought : List CidParts
  pub among : IsAmong sought cids
  pub moved : m.looked a.blocks b.blocks sought
  pub same_room : b.room ≡ a.room

-- it gives what its store gives, and counts what that counts
abbrev pub cached_blocks : {B : Type 0} → BlocksMeaning B → BlocksMeaning (CachedState B)
cached_blocks m = record {
  stored = λ c. m.stored c.blocks;
  faults = λ c. m.faults c.blocks;
  looked = λ a b cids. HasSought m a b cids;
}
