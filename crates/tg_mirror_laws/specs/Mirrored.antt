-- What a store holds and replies in which all of a sound DAG was kept (Path Gateway and Trustless Gateway specifications,
-- dag-scope all).
use Rattle.sha2.specs.Sha256.{sha256}
use Rattle.std.specs.Prelude.{All, Contains, IfSome, List, None, Ok, Option, Some, [], ℕ, ◌<◌, ◌≡◌, ◌≢◌, ◌⊎◌}
use Rattle.tg_cid.specs.Cid.{CidParts}
use Rattle.tg_cid.specs.declared.cid.HashKind.TheVariants.{Sha256}
use Rattle.tg_http.specs.declared.request.RequestHead.{RequestHead}
use Rattle.tg_model.specs.Dag.{Dag, Section, blocks, root_cid}
use Rattle.tg_model.specs.Fits.{CollisionPair, Fits}
use Rattle.tg_model.specs.Queries.{QueryParts}
use Rattle.tg_model.specs.Sound.{IsSound}
use Rattle.tg_model.specs.StoreView.{store_view}
use Rattle.tg_model.specs.Stores.{AddsEach, AreKeptAs, IsStore, IsToldStore, Store, as_v1}
use Rattle.tg_model.specs.Traversal.{block_list}
use Rattle.tg_model.specs.declared.queries.Scope.TheVariants as scopes
use Rattle.tg_model_laws.specs.Stores.{Holds}
use Rattle.tg_reply.specs.Asked.{asked}
use Rattle.tg_reply.specs.Replies.{reply}

-- nothing is stored under a CID with sha2-256
abbrev pub HoldsNothing : Store → Type 0
HoldsNothing store = (cid : CidParts) → cid.hash ≡ Sha256 → store cid ≡ None

-- the block of each node whose CID has sha2-256 is stored under its CID; one with identity has its digest as its block
abbrev pub HoldsHashed : Store → Dag → Type 0
HoldsHashed store d = (section : Section) → Contains (blocks d) section → section.cid.hash ≡ Sha256 → store section.cid ≡ Some section.block

-- two different blocks of the DAG have one SHA-256, and CIDs with it that differ in their version alone, if at all
pub record CollisionWithin (d : Dag) : Type 0 where
  pub one : Section
  pub other : Section
  pub is_one : Contains (blocks d) one
  pub is_other : Contains (blocks d) other
  pub same_form : as_v1 one.cid ≡ as_v1 other.cid
  pub kind : one.cid.hash ≡ Sha256
  pub differ : one.block ≢ other.block
  pub same_hash : sha256 one.block ≡ sha256 other.block

-- a query for all blocks of the DAG of its root
pub record AsksAll (q : QueryParts) : Type 0 where
  pub path : q.path ≡ []
  pub scope : q.scope ≡ scopes.All

-- the store holds the DAG's blocks, and shows and replies of its root what any store does that holds them, whatever is asked:
-- any path, scope, range and form, by GET or HEAD, and a reply that is cut as well
pub record ServesAs (store : Store) (d : Dag) : Type 0 where
  pub holds : HoldsHashed store d
  pub views : (other : Store) → Holds other d → store_view store (root_cid d) ≡ store_view other (root_cid d)
  pub replies : (other : Store) (head : RequestHead) (q : QueryParts) → Holds other d → asked head ≡ Ok q → q.root ≡ root_cid d
      → reply store head ≡ reply other head

-- so does each store with the block of each of the DAG's nodes whose CID has sha2-256
abbrev pub ServesHashed : Type 0
ServesHashed = (store : Store) (d : Dag) → IsSound d → HoldsHashed store d → ServesAs store d

-- and it holds the DAG, where the root's CID has sha2-256 and these blocks are bytes: an identity CID below was read from a
-- link, so that its digest is
abbrev pub HoldsByHashes : Type 0
HoldsByHashes = (store : Store) (d : Dag) → IsSound d → (root_cid d).hash ≡ Sha256 → HoldsHashed store d
    → ((section : Section) → Contains (blocks d) section → section.cid.hash ≡ Sha256 → All (λ b. b < 256) section.block) → Holds store d

-- once the sections that a sound DAG's traversal sends for a query for all of it were kept in a store that held nothing, it
-- has the block of each node with sha2-256; or two blocks of the DAG collide
abbrev pub MirroredHolds : Type 0
MirroredHolds = (old new : Store) (d : Dag) (q : QueryParts) → AsksAll q → IsSound d → IsStore old → HoldsNothing old → AddsEach old new (block_list q d)
    → HoldsHashed new d ⊎ CollisionWithin d

-- once sections that fit a query for all of its root's DAG were kept in a store that held nothing, it serves each sound DAG
-- of that root as any store does that holds it; or a received section and a node of the DAG are a collision pair, or two
-- blocks of the DAG collide
abbrev pub MirroredReplies : Type 0
MirroredReplies = (old new : Store) (s d : Dag) (q : QueryParts) (sections : List Section) (text : List ℕ) → AsksAll q → Fits s q sections text
    → IsStore old → HoldsNothing old → AddsEach old new sections → IsSound d → root_cid d ≡ q.root
    → ServesAs new d ⊎ (CollisionPair sections d ⊎ CollisionWithin d)

-- the same as far as the store tells what it holds
abbrev pub MirroredTold : Type 0
MirroredTold = (old new : Option Store) (s d : Dag) (q : QueryParts) (sections : List Section) (text : List ℕ) → AsksAll q → Fits s q sections text
    → IsToldStore old → IfSome old HoldsNothing → AreKeptAs old new sections → IsSound d → root_cid d ≡ q.root
    → IfSome new (λ store. ServesAs store d) ⊎ (CollisionPair sections d ⊎ CollisionWithin d)
