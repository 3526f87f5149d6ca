-- What a block is read as where it stands: bytes are places of the block, and a file's parts lie ahead of a cursor
-- (UnixFS specification, Data Format and node types).
use Rattle.tg_model.specs.declared.fault.BlockFault.TheVariants as faults
use Rattle.tg_model.specs.declared.placed.PlacedKind.TheVariants as placed
use Rattle.std.specs.Prelude.{Err, List, Ok, Option, Result, length, ℕ, ⊤, ◌≡◌, ◌⊎◌}
use Rattle.tg_cid.specs.Cid.{CidParts}
use Rattle.tg_dagpb.specs.Cursor.{IsBetween}
use Rattle.tg_dagpb.specs.declared.Link.{Link}
use Rattle.tg_model.specs.Dag.{Section, total_of}
use Rattle.tg_model.specs.Reading.{AreCids, parts_of}
use Rattle.tg_model.specs.declared.fault.BlockFault.{BlockFault}
use Rattle.tg_model.specs.declared.kinds.Kind.{Kind}
use Rattle.tg_model.specs.declared.kinds.Kind.TheVariants.{Basic, File, Raw, Shard, Symlink}
use Rattle.tg_model.specs.declared.kinds.Part.{Part}
use Rattle.tg_model.specs.declared.placed.FilePlaces.{FilePlaces}
use Rattle.tg_model.specs.declared.placed.PartCursor.{PartCursor}
use Rattle.tg_model.specs.declared.placed.PlacedKind.{PlacedKind}
use Rattle.tg_pbtable.specs.Place.{IsInside, bytes_of}
use Rattle.tg_pbtable.specs.declared.table.Place.{Place}
use Rattle.tg_unixfs.specs.Places.{IsBetween as IsBetweenSizes}

-- these links of a block are ahead of the place `at`
pub record AreLinksAhead (block : List ℕ) (at : ℕ) (links : List Link) : Type 0 where
  pub behind : List Link
  pub between : IsBetween block at behind links

-- and their hashes are these CIDs
pub record AreCidsAhead (block : List ℕ) (at : ℕ) (links : List Link) (cids : List CidParts) : Type 0 where
  pub ahead : AreLinksAhead block at links
  pub cids_are : AreCids links cids

-- these blocksizes of UnixFS data are ahead of the place `at`
pub record AreSizesAhead (text : List ℕ) (at : ℕ) (sizes : List ℕ) : Type 0 where
  pub behind : List ℕ
  pub between : IsBetweenSizes text at behind sizes

-- these parts of a file are ahead of the cursor: each link that is ahead, with the blocksize that is
pub record ArePartsAhead (block : List ℕ) (cursor : PartCursor) (parts : List Part) : Type 0 where
  pub links : List Link
  pub cids : List CidParts
  pub sizes : List ℕ
  pub links_ahead : AreCidsAhead block cursor.link links cids
  pub inside : IsInside block cursor.payload
  pub sizes_ahead : AreSizesAhead (bytes_of block cursor.payload) cursor.size sizes
  pub as_many : length sizes ≡ length links
  pub parts_are : parts ≡ parts_of cids sizes

-- a cursor over the parts of a file: one of which some parts are ahead, or none
abbrev pub IsPartCursor : List ℕ → PartCursor → Type 0
IsPartCursor block cursor = (parts : List Part) × ArePartsAhead block cursor parts

-- the bytes lie at the place of the block
pub record LieAt (block : List ℕ) (place : Place) (bytes : List ℕ) : Type 0 where
  pub inside : IsInside block place
  pub bytes_are : bytes_of block place ≡ bytes

-- a file where it stands: all of its parts are ahead of the cursor
pub record IsFileAt (block : List ℕ) (places : FilePlaces) (inline : List ℕ) (filesize : Option ℕ) (parts : List Part) : Type 0 where
  pub inline_at : LieAt block places.inline inline
  pub filesize_is : places.filesize ≡ filesize
  pub total_is : (section : Section) → places.total ≡ total_of section (File inline filesize parts)
  pub count_is : places.count ≡ length parts
  pub parts_ahead : ArePartsAhead block places.parts parts

-- what a block is read as where it stands, and the kind
abbrev pub StandsForKind : List ℕ → PlacedKind → Kind → Type 0
StandsForKind block placed.Raw Raw = ⊤
StandsForKind block (placed.File places) (File inline filesize parts) = IsFileAt block places inline filesize parts
StandsForKind block (placed.Basic entries) (Basic found) = entries ≡ found
StandsForKind block (placed.Shard slots) (Shard found) = slots ≡ found
StandsForKind block (placed.Symlink target) (Symlink bytes) = LieAt block target bytes
StandsForKind block _ _ = ⊥

-- the cursor of a file in place is one
abbrev pub HasPartCursor : List ℕ → PlacedKind → Type 0
HasPartCursor block (placed.File places) = IsPartCursor block places.parts
HasPartCursor block _ = ⊤

-- the computed answers for which memory is taken first: the kinds of directories and shards, and the faults that are
-- found with a set of names or a list of slots
abbrev pub TakesMemory : Result Kind BlockFault → Type 0
TakesMemory (Ok (Basic entries)) = ⊤
TakesMemory (Ok (Shard slots)) = ⊤
TakesMemory (Err (faults.DoubledName at)) = ⊤
TakesMemory (Err (faults.BadBits bits links)) = ⊤
TakesMemory (Err (faults.BadSlot at)) = ⊤
TakesMemory _ = ⊥

-- an answer in place beside a computed one: a kind for that kind, or the same fault
abbrev pub StandsForAnswer : List ℕ → Result PlacedKind BlockFault → Result Kind BlockFault → Type 0
StandsForAnswer block (Ok placed) (Ok kind) = StandsForKind block placed kind
StandsForAnswer block (Ok placed) (Err fault) = ⊥
StandsForAnswer block (Err found) (Ok kind) = ⊥
StandsForAnswer block (Err found) (Err fault) = found ≡ fault

-- the same, or memory was wanted where it is taken
abbrev pub GivesPlaced : List ℕ → Result PlacedKind BlockFault → Result Kind BlockFault → Type 0
GivesPlaced block result computed =
    StandsForAnswer block result computed ⊎ ((result ≡ Err faults.OutOfMemory) × TakesMemory computed)
