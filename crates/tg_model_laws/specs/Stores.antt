-- What stores hold that sections were kept in, and what a store shows of a sound DAG.
use Rattle.std.specs.Prelude.{All, Contains, List, Option, Some, length, max, ℕ, ◌++◌, ◌+◌, ◌<◌, ◌≡◌, ◌≢◌, ◌≤◌, ◌⊎◌}
use Rattle.tg_cid.specs.Limits.{max_block_len}
use Rattle.sha2.specs.Sha256.{sha256}
use Rattle.tg_cid.specs.Cid.{CidParts}
use Rattle.tg_cid.specs.Names.{Names}
use Rattle.tg_cid.specs.declared.cid.HashKind.TheVariants.{Sha256}
use Rattle.tg_model_laws.specs.PartialDags.{OpenedFrom}
use Rattle.tg_model.specs.Dag.{Children, Dag, Section, bare, blocks, no_child, node, root_cid, unopened, with_child}
use Rattle.tg_model.specs.Sound.{IsSound}
use Rattle.tg_model.specs.StoreView.{block_at, store_view}
use Rattle.tg_model.specs.Stores.{AddsEach, AreKeptAs, IsStore, Store, as_v1}

-- a section's CID names its block
abbrev pub IsNamed : Section → Type 0
IsNamed section = Names section.cid section.block

-- a section may be kept: its CID names its block, which is no larger than a block may be
pub record MayKeep (section : Section) : Type 0 where
  pub named : Names section.cid section.block
  pub small : length section.block ≤ max_block_len

-- what was kept and what is kept behind it was kept one after another
abbrev pub KeepingJoins : Type 0
KeepingJoins = (a b c : Option Store) (u v : List Section) → AreKeptAs a b u → AreKeptAs b c v → AreKeptAs a c (u ++ v)

-- a store in which sections were kept is a store
abbrev pub KeepingStores : Type 0
KeepingStores = (old new : Store) (sections : List Section) → IsStore old → All MayKeep sections → AddsEach old new sections → IsStore new

-- what was stored stays
abbrev pub KeepingStays : Type 0
KeepingStays = (old new : Store) (sections : List Section) (cid : CidParts) (block : List ℕ) → IsStore old → AddsEach old new sections
    → old cid ≡ Some block → new cid ≡ Some block

-- a block is that of one of the sections, whose CID differs from this one in its version alone, if at all
pub record IsBlockOfOne (sections : List Section) (cid : CidParts) (block : List ℕ) : Type 0 where
  pub source : Section
  pub is_one : Contains sections source
  pub same_form : as_v1 source.cid ≡ as_v1 cid
  pub block_is : source.block ≡ block

-- nothing else is stored: a block was stored before under its CID, or is that of a section that was kept
abbrev pub KeepingOnly : Type 0
KeepingOnly = (old new : Store) (sections : List Section) (cid : CidParts) (block : List ℕ) → IsStore old → AddsEach old new sections
    → new cid ≡ Some block → (old cid ≡ Some block) ⊎ IsBlockOfOne sections cid block

-- under the CID of a section that was kept stands another block with the same SHA-256: one that was stored before, or that
-- of another section that was kept
pub record KeptCollision (old new : Store) (sections : List Section) : Type 0 where
  pub kept : Section
  pub stored : List ℕ
  pub is_kept : Contains sections kept
  pub is_stored : new kept.cid ≡ Some stored
  pub from : (old kept.cid ≡ Some stored) ⊎ IsBlockOfOne sections kept.cid stored
  pub kind : kept.cid.hash ≡ Sha256
  pub differ : kept.block ≢ stored
  pub same_hash : sha256 kept.block ≡ sha256 stored

-- each section that was kept is stored under its CID, or another block with one SHA-256 is
abbrev pub KeepingHolds : Type 0
KeepingHolds =
    (old new : Store) (sections : List Section) → IsStore old → All IsNamed sections → AddsEach old new sections
    → All (λ section. new section.cid ≡ Some section.block) sections ⊎ KeptCollision old new sections

-- how many blocks deep an opened DAG goes
abbrev mutual
  pub height : Dag → ℕ
  height (unopened cid) = 0
  height (bare section fault) = 1
  height (node section kind children) = 1 + height_of_children children

  pub height_of_children : Children → ℕ
  height_of_children no_child = 0
  height_of_children (with_child d children) = max (height d) (height_of_children children)

-- a store leads from the CID of each block of a DAG to that block, and the blocks are bytes
pub record Holds (store : Store) (d : Dag) : Type 0 where
  pub blocks_are : (section : Section) → Contains (blocks d) section → block_at store section.cid ≡ Some section.block
  pub bytes : (section : Section) → Contains (blocks d) section → All (λ b. b < 256) section.block

-- a store that holds the blocks of a sound DAG that isn't too deep shows it
abbrev pub ShowsSound : Type 0
ShowsSound = (store : Store) (d : Dag) → IsSound d → height d ≤ 1100 → Holds store d → store_view store (root_cid d) ≡ d

-- and whatever its depth, it shows it with some blocks unopened
abbrev pub ShowsFront : Type 0
ShowsFront = (store : Store) (d : Dag) → IsSound d → Holds store d → OpenedFrom (store_view store (root_cid d)) d
