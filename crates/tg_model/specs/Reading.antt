-- What a block is read as under its CID (UnixFS specification, Data Format and the node types; CID specification).
use Rattle.tg_cid.specs.declared.cid.Codec.TheVariants as codecs
use Rattle.std.specs.Fmt.{digit_glyph}
use Rattle.std.specs.List.{IsDistinct}
use Rattle.std.specs.Prelude.{All, List, None, Option, Some, [], bytes_eq, filter, fold, length, map, suc, sum, true}
use Rattle.std.specs.Prelude.{unwrap_or, zero, ℕ, ⊤, ◌%◌, ◌*◌, ◌++◌, ◌+◌, ◌/◌, ◌<◌, ◌==◌, ◌^◌, ◌∷◌, ◌≡◌, ◌≤◌, ◌⊎◌}
use Rattle.tg_cid.specs.Cid.{CidParts}
use Rattle.tg_cid.specs.Spelling.{CidBytes}
use Rattle.tg_cid.specs.declared.cid.Codec.{Codec}
use Rattle.tg_dagpb.specs.Node.{NodeText}
use Rattle.tg_dagpb.specs.declared.Link.{Link}
use Rattle.tg_model.specs.EntryNames.{IsGoodName}
use Rattle.tg_model.specs.declared.kinds.Entry.{Entry}
use Rattle.tg_model.specs.declared.kinds.Kind.{Kind}
use Rattle.tg_model.specs.declared.kinds.Kind.TheVariants.{Basic, File, Raw, Shard, Symlink}
use Rattle.tg_model.specs.declared.kinds.Part.{Part}
use Rattle.tg_model.specs.declared.kinds.Slot.{Slot}
use Rattle.tg_unixfs.specs.Unix.{UnixText}
use Rattle.tg_unixfs.specs.declared.Unix.{Unix}

-- the hashes of links are these CIDs' bytes, one by one
abbrev pub AreCids : List Link → List CidParts → Type 0
AreCids [] [] = ⊤
AreCids (link ∷ links) (cid ∷ cids) = CidBytes cid link.hash × AreCids links cids
AreCids [] (cid ∷ cids) = ⊥
AreCids (link ∷ links) [] = ⊥

-- a DAG-PB node whose links are CIDs and whose data is UnixFS data
pub record IsUnixNode (block : List ℕ) (links : List Link) (cids : List CidParts) (unix : Unix) : Type 0 where
  pub payload : List ℕ
  pub node : NodeText (record { links = links; payload = Some payload }) block
  pub cids_are : AreCids links cids
  pub unix_is : UnixText unix payload

-- the inline bytes, absent ones being none, and a link's name, an absent one being empty
abbrev pub inline_of : Unix → List ℕ
inline_of unix = unwrap_or unix.inline []

abbrev pub name_of : Link → List ℕ
name_of link = unwrap_or link.name []

-- the parts of a file: each link with its blocksize
abbrev pub parts_of : List CidParts → List ℕ → List Part
parts_of [] sizes = []
parts_of (cid ∷ cids) [] = []
parts_of (cid ∷ cids) (size ∷ sizes) = record { cid = cid; size = size } ∷ parts_of cids sizes

-- UnixFS File and Raw: as many blocksizes as links, and for Raw none
pub record ReadsFile (links : List Link) (cids : List CidParts) (unix : Unix) (kind : Kind) : Type 0 where
  pub type_is : (unix.kind ≡ 0) ⊎ (unix.kind ≡ 2)
  pub raw : unix.kind ≡ 0 → links ≡ []
  pub as_many : length unix.sizes ≡ length links
  pub fits : length (inline_of unix) + sum unix.sizes < 2 ^ 63
  pub kind_is : kind ≡ File (inline_of unix) unix.filesize (parts_of cids unix.sizes)

-- the entries of a directory in one block: each link with its name
abbrev pub entries_of : List Link → List CidParts → List Entry
entries_of [] cids = []
entries_of (link ∷ links) [] = []
entries_of (link ∷ links) (cid ∷ cids) = record { name = name_of link; cid = cid } ∷ entries_of links cids

-- UnixFS Directory: the names are good and differ
pub record ReadsBasic (links : List Link) (cids : List CidParts) (unix : Unix) (kind : Kind) : Type 0 where
  pub type_is : unix.kind ≡ 1
  pub good : All IsGoodName (map name_of links)
  pub differ : IsDistinct bytes_eq (map name_of links)
  pub kind_is : kind ≡ Basic (entries_of links cids)

-- the numbers below n in order
abbrev pub below : ℕ → List ℕ
below zero = []
below (suc n) = below n ++ n ∷ []

-- the bytes as one big-endian number, and the bits that are set in it, in ascending order
abbrev pub big_endian : List ℕ → ℕ
big_endian bytes = fold (λ number byte. number * 256 + byte) 0 bytes

abbrev pub used_slots : List ℕ → List ℕ
used_slots bytes = filter (λ i. (big_endian bytes / 2 ^ i) % 2 == 1) (below (8 * length bytes))

-- the two upper-case hexadecimal digits of a slot
abbrev pub slot_digits : ℕ → List ℕ
slot_digits slot = digit_glyph true (slot / 16) ∷ digit_glyph true (slot % 16) ∷ []

-- what follows the digits is an entry's name, or nothing where the link leads to a child shard
abbrev pub IsSlotName : List ℕ → Option (List ℕ) → Type 0
IsSlotName suffix None = suffix ≡ []
IsSlotName suffix (Some name) = (suffix ≡ name) × IsGoodName name

-- a link is the slot with this number
pub record IsSlotLink (number : ℕ) (link : Link) (cid : CidParts) (slot : Slot) : Type 0 where
  pub suffix : List ℕ
  pub begins : link.name ≡ Some (slot_digits number ++ suffix)
  pub name_is : IsSlotName suffix slot.name
  pub number_is : slot.slot ≡ number
  pub cid_is : slot.cid ≡ cid

-- the links are the slots with these numbers, one by one
abbrev pub AreSlots : List ℕ → List Link → List CidParts → List Slot → Type 0
AreSlots [] [] [] [] = ⊤
AreSlots (number ∷ numbers) (link ∷ links) (cid ∷ cids) (slot ∷ slots) =
    IsSlotLink number link cid slot × AreSlots numbers links cids slots
AreSlots _ _ _ _ = ⊥

-- UnixFS HAMTShard: at most 32 bytes of bits, and a link for each bit that is set
pub record ReadsShard (links : List Link) (cids : List CidParts) (unix : Unix) (kind : Kind) : Type 0 where
  pub type_is : unix.kind ≡ 5
  pub few : length (inline_of unix) ≤ 32
  pub slots : List Slot
  pub slots_are : AreSlots (used_slots (inline_of unix)) links cids slots
  pub kind_is : kind ≡ Shard slots

-- UnixFS Symlink: no links
pub record ReadsSymlink (links : List Link) (unix : Unix) (kind : Kind) : Type 0 where
  pub type_is : unix.kind ≡ 4
  pub no_links : links ≡ []
  pub kind_is : kind ≡ Symlink (inline_of unix)

-- the block is a node of this kind
pub record ReadsNode (block : List ℕ) (kind : Kind) : Type 0 where
  pub links : List Link
  pub cids : List CidParts
  pub unix : Unix
  pub node : IsUnixNode block links cids unix
  pub reads : ReadsFile links cids unix kind ⊎ (ReadsBasic links cids unix kind ⊎ (ReadsShard links cids unix kind ⊎ ReadsSymlink links unix kind))

abbrev pub ReadsUnder : Codec → List ℕ → Kind → Type 0
ReadsUnder codecs.Raw block kind = kind ≡ Raw
ReadsUnder codecs.DagPb block kind = ReadsNode block kind

-- under the CID the block reads as this kind
abbrev pub Reads : CidParts → List ℕ → Kind → Type 0
Reads cid block kind = ReadsUnder cid.codec block kind
