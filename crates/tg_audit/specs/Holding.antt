-- A folder's DAG in a pack that is attached as a store: two different blocks of it that stand under one CID, or all of it.
use Rattle.sha2.specs.Sha256.{sha256}
use Rattle.std.specs.Prelude.{All, Contains, List, ℕ, ◌≡◌, ◌≢◌, ◌⊎◌}
use Rattle.tg_audit.specs.Packing.{HoldsImported}
use Rattle.tg_heard.specs.Exchanges.{HasOneBlockEach}
use Rattle.tg_model.specs.Dag.{Dag, Section, blocks}
use Rattle.tg_model.specs.ImportLayout.{HasPlainCid}
use Rattle.tg_model.specs.Sound.{IsSound}
use Rattle.tg_model.specs.Stores.{Store}
use Rattle.tg_model_laws.specs.Stores.{Holds}
use Rattle.tg_reply.specs.Bodies.{IsSpelled}
use Rattle.tg_store.specs.Attaching.{IsAttached}
use Rattle.tg_tree.specs.declared.tree.Tree.{Tree}

-- two different blocks of a DAG have one CID, and so one SHA-256
pub record TwoBlocksCollide (d : Dag) : Type 0 where
  pub one : Section
  pub other : Section
  pub is_one : Contains (blocks d) one
  pub is_other : Contains (blocks d) other
  pub same_cid : one.cid ≡ other.cid
  pub differ : one.block ≢ other.block
  pub same_hash : sha256 one.block ≡ sha256 other.block

-- a sound DAG of CIDv1s with sha2-256 has such, or one block stands under each CID
abbrev pub CollidesOrNot : Type 0
CollidesOrNot = (d : Dag) → IsSound d → All HasPlainCid (blocks d) → TwoBlocksCollide d ⊎ HasOneBlockEach d

-- a store holds the blocks of a DAG, which are spelled
pub record HoldsSpelled (store : Store) (d : Dag) : Type 0 where
  pub holds : Holds store d
  pub spelled : All IsSpelled (blocks d)

-- what is attached of a pack with a folder's DAG holds it, where one block stands under each CID
abbrev pub AttachedHolds : Type 0
AttachedHolds = (tree : Tree) (d : Dag) (content : List ℕ) (store : Store) → HoldsImported tree d content → IsAttached content store → HasOneBlockEach d → HoldsSpelled store d
