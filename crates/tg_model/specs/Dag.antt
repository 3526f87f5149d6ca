-- DAGs of blocks, of which not each block may be opened (a partial DAG).
use Rattle.std.specs.Prelude.{List, Option, [], length, map, sum, ℕ, ⊤, ◌++◌, ◌+◌, ◌∷◌}
use Rattle.tg_cid.specs.Cid.{CidParts}
use Rattle.tg_model.specs.declared.fault.BlockFault.{BlockFault}
use Rattle.tg_model.specs.declared.kinds.Kind.{Kind}
use Rattle.tg_model.specs.declared.kinds.Kind.TheVariants.{Basic, File, Raw, Shard, Symlink}

-- a block with the CID under which it stands
pub record Section : Type 0 where
  pub cid : CidParts
  pub block : List ℕ

-- a DAG: an unopened one, of which only the root's CID is told; a block that isn't read on, since it has no kind, for
-- this fault, or since only its bytes are asked for; or a block with its kind and its children, a DAG for each of the
-- kind's links in their order
mutual
  pub data Dag : Type 0 where
    unopened : CidParts → Dag
    bare : Section → Option BlockFault → Dag
    node : Section → Kind → Children → Dag

  pub data Children : Type 0 where
    no_child : Children
    with_child : Dag → Children → Children

-- the CID of a DAG's root
abbrev pub root_cid : Dag → CidParts
root_cid (unopened cid) = cid
root_cid (bare section fault) = section.cid
root_cid (node section kind children) = section.cid

-- the CIDs that a kind links to, in order
abbrev pub links_of : Kind → List CidParts
links_of Raw = []
links_of (File inline filesize parts) = map (λ part. part.cid) parts
links_of (Basic entries) = map (λ entry. entry.cid) entries
links_of (Shard slots) = map (λ slot. slot.cid) slots
links_of (Symlink target) = []

-- the CIDs of the children's roots
abbrev pub root_cids : Children → List CidParts
root_cids no_child = []
root_cids (with_child d children) = root_cid d ∷ root_cids children

-- the opened blocks with their CIDs, in preorder and in the order of the links
abbrev mutual
  pub blocks : Dag → List Section
  blocks (unopened cid) = []
  blocks (bare section fault) = section ∷ []
  blocks (node section kind children) = section ∷ blocks_of_children children

  pub blocks_of_children : Children → List Section
  blocks_of_children no_child = []
  blocks_of_children (with_child d children) = blocks d ++ blocks_of_children children

-- each block is opened and has a kind
abbrev mutual
  pub IsWhole : Dag → Type 0
  IsWhole (unopened cid) = ⊥
  IsWhole (bare section fault) = ⊥
  IsWhole (node section kind children) = AreWhole children

  pub AreWhole : Children → Type 0
  AreWhole no_child = ⊤
  AreWhole (with_child d children) = IsWhole d × AreWhole children

-- the number of content bytes that a block declares: a raw block's length, a file's inline length and sizes together
abbrev pub total_of : Section → Kind → ℕ
total_of section Raw = length section.block
total_of section (File inline filesize parts) = length inline + sum (map (λ part. part.size) parts)
total_of section (Basic entries) = 0
total_of section (Shard slots) = 0
total_of section (Symlink target) = length target
