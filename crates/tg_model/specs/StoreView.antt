-- What a store shows of a root: it or a link is opened exactly where the store has a block under its CID, or where its
-- hash is identity, so that its block is its digest, to a depth of 1,100 blocks, which is more than any path needs.
use Rattle.std.specs.Prelude.{Err, List, None, Ok, Option, Result, Some, [], suc, zero, ℕ, ◌∷◌}
use Rattle.tg_cid.specs.Cid.{CidParts}
use Rattle.tg_cid.specs.declared.cid.HashKind.{HashKind}
use Rattle.tg_cid.specs.declared.cid.HashKind.TheVariants.{Sha256, Identity}
use Rattle.tg_model.specs.Computed.{read}
use Rattle.tg_model.specs.Dag.{Dag, Children, Section, bare, with_child, links_of, no_child, node, unopened}
use Rattle.tg_model.specs.Stores.{Store}
use Rattle.tg_model.specs.declared.fault.BlockFault.{BlockFault}
use Rattle.tg_model.specs.declared.kinds.Kind.{Kind}

-- children of these CIDs
abbrev pub children_by : (CidParts → Dag) → List CidParts → Children
children_by opened [] = no_child
children_by opened (cid ∷ cids) = with_child (opened cid) (children_by opened cids)

-- a block by what it is read as
abbrev pub read_as : (CidParts → Dag) → Section → Result Kind BlockFault → Dag
read_as opened section (Ok kind) = node section kind (children_by opened (links_of kind))
read_as opened section (Err fault) = bare section (Some fault)

-- a CID with the block that is found for it
abbrev pub with_block : (CidParts → Dag) → CidParts → Option (List ℕ) → Dag
with_block opened cid None = unopened cid
with_block opened cid (Some block) = read_as opened (record { cid = cid; block = block }) (read cid block)

-- the block that a CID leads to: of an identity CID its digest, and else the stored one
abbrev pub block_by : HashKind → List ℕ → Option (List ℕ) → Option (List ℕ)
block_by Sha256 digest stored = stored
block_by Identity digest stored = Some digest

abbrev pub block_at : Store → CidParts → Option (List ℕ)
block_at store cid = block_by cid.hash cid.digest (store cid)

-- what is shown of a CID, to a depth of `n` blocks
abbrev pub opened_to : ℕ → Store → CidParts → Dag
opened_to zero store cid = unopened cid
opened_to (suc n) store cid = with_block (opened_to n store) cid (block_at store cid)

-- what is shown of a root
abbrev pub store_view : Store → CidParts → Dag
store_view store root = opened_to 1100 store root
