-- The steps of reading a block where it stands.
use Rattle.std.specs.Prelude.{Err, List, Ok, Option, Result, [], ℕ, ◌∷◌, ◌≡◌}
use Rattle.tg_cid.specs.Cid.{CidParts}
use Rattle.tg_dagpb.specs.Computed.{node_of}
use Rattle.tg_dagpb.specs.declared.Link.{Link}
use Rattle.tg_dagpb.specs.declared.Node.{Node}
use Rattle.tg_model.specs.Computed.{cids_from}
use Rattle.tg_model.specs.Placed.{AreCidsAhead, AreLinksAhead, AreSizesAhead}
use Rattle.tg_model.specs.declared.fault.BlockFault.{BlockFault}
use Rattle.tg_model.specs.declared.placed.DataPlaces.{DataPlaces}
use Rattle.tg_pbtable.specs.Place.{AreInside, IsInside, bytes_of}
use Rattle.tg_pbtable.specs.declared.fault.PbFault.{PbFault}
use Rattle.tg_unixfs.specs.Computed.{unix_of}
use Rattle.tg_unixfs.specs.Places.{placed_unix}
use Rattle.tg_unixfs.specs.declared.Unix.{Unix}
use Rattle.tg_unixfs.specs.declared.UnixFault.{UnixFault}

-- the links of the node that a block is, and their CIDs
abbrev pub links_in : Result Node PbFault → List Link
links_in (Ok node) = node.links
links_in (Err fault) = []

abbrev pub block_links : List ℕ → List Link
block_links block = links_in (node_of block)

abbrev pub cids_in : Result (List CidParts) BlockFault → List CidParts
cids_in (Ok cids) = cids
cids_in (Err fault) = []

abbrev pub block_cids : List ℕ → List CidParts
block_cids block = cids_in (cids_from 0 (block_links block))

-- the blocksizes of the data that a text is
abbrev pub sizes_in : Result Unix UnixFault → List ℕ
sizes_in (Ok unix) = unix.sizes
sizes_in (Err fault) = []

abbrev pub text_sizes : List ℕ → List ℕ
text_sizes text = sizes_in (unix_of text)

-- the data at the places, with all of its blocksizes
abbrev pub data_unix : List ℕ → DataPlaces → Unix
data_unix block places =
    placed_unix (bytes_of block places.payload) places.unix (text_sizes (bytes_of block places.payload))

-- the data of a block lies at the places, and all of its blocksizes are ahead
pub record AreDataPlaces (block : List ℕ) (places : DataPlaces) : Type 0 where
  pub payload : IsInside block places.payload
  pub inline : AreInside (bytes_of block places.payload) places.unix.inline
  pub sizes : AreSizesAhead (bytes_of block places.payload) 0 (text_sizes (bytes_of block places.payload))

-- the block is a node with this payload, and its links are ahead
pub record IsNodeWith (block : List ℕ) (payload : Option (List ℕ)) : Type 0 where
  pub computed : node_of block ≡ Ok (record { links = block_links block; payload = payload })
  pub ahead : AreLinksAhead block 0 (block_links block)

-- the bytes at the place of the payload are UnixFS data, whose parts lie at the places
pub record IsDataAt (block : List ℕ) (places : DataPlaces) : Type 0 where
  pub computed : unix_of (bytes_of block places.payload) ≡ Ok (data_unix block places)
  pub places_are : AreDataPlaces block places

-- all links of the block are ahead, with their CIDs
abbrev pub AllAhead : List ℕ → Type 0
AllAhead block = AreCidsAhead block 0 (block_links block) (block_cids block)

-- a link with its CID is the first of those, and the others are ahead of `next`
pub record IsNextLink (block : List ℕ) (link : Link) (cid : CidParts) (next : ℕ) (links : List Link) (cids : List CidParts) : Type 0 where
  pub more_links : List Link
  pub more_cids : List CidParts
  pub links_are : links ≡ link ∷ more_links
  pub cids_are : cids ≡ cid ∷ more_cids
  pub ahead : AreCidsAhead block next more_links more_cids
