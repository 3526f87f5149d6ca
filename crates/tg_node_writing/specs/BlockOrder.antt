-- Blocks that stand behind those to which they link, so that a reader meets no link before its block (IPLD
-- specification, DAG-PB; CARv1 specification).
use Rattle.std.specs.Prelude.{All, Contains, List, map, ◌++◌, ◌∷◌, ◌≡◌}
use Rattle.tg_cid.specs.Cid.{CidParts}
use Rattle.tg_model.specs.Dag.{Section, links_of}
use Rattle.tg_model.specs.Reading.{Reads}
use Rattle.tg_model.specs.declared.kinds.Kind.{Kind}
use Rattle.tg_model.specs.declared.kinds.NewEntry.{NewEntry}
use Rattle.tg_node_writing.specs.Nodes.{IsNodeOf}
use Rattle.tg_unixfs.specs.declared.Unix.{Unix}

-- the CIDs of these sections
abbrev pub cids_of : List Section → List CidParts
cids_of sections = map (λ section. section.cid) sections

-- whatever the block is read as, it links to these CIDs alone
abbrev pub LinksInto : List CidParts → Section → Type 0
LinksInto known section = (kind : Kind) → Reads section.cid section.block kind → All (Contains known) (links_of kind)

-- each section stands behind those to which its block links: the CIDs of these came before, or they stand earlier in
-- the list
abbrev pub AreBehindLinks : List CidParts → List Section → Type 0
AreBehindLinks known sections =
    (before : List Section) (section : Section) (after : List Section) → sections ≡ before ++ section ∷ after
    → LinksInto (known ++ cids_of before) section

-- the CIDs of entries
abbrev pub entry_cids : List NewEntry → List CidParts
entry_cids entries = map (λ entry. entry.cid) entries

-- a node that is written for entries links to their CIDs
abbrev pub LinksOfNodes : Type 0
LinksOfNodes = (entries : List NewEntry) (unix : Unix) (section : Section) → IsNodeOf entries unix section.block → LinksInto (entry_cids entries) section
