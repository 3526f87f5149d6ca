-- The layout that the importer gives a tree of files, as properties of the DAG (this project's own profile of UnixFS).
use Rattle.std.specs.Prelude.{unwrap_or, All, List, None, Some, [], length, map, slice_get, suc, sum, true, zero, ℕ, ⊤}
use Rattle.std.specs.Prelude.{◌++◌, ◌+◌, ◌<◌, ◌∷◌, ◌≡◌, ◌≢◌, ◌≤◌}
use Rattle.tg_cid.specs.Computed.{v1_bytes}
use Rattle.tg_cid.specs.Spelling.{CidBytes}
use Rattle.tg_cid.specs.declared.cid.HashKind.TheVariants.{Sha256}
use Rattle.tg_dagpb.specs.Node.{CanonicalText}
use Rattle.tg_dagpb.specs.declared.Link.{Link}
use Rattle.tg_tree.specs.declared.tree.Tree.{Tree}
use Rattle.tg_model.specs.Content.{DirEntry, content, entries}
use Rattle.tg_model.specs.Dag.{Dag, Children, Section, bare, blocks, with_child, no_child, node, root_cid, total_of}
use Rattle.tg_model.specs.Dag.{unopened}
use Rattle.tg_model.specs.Reading.{slot_digits, used_slots}
use Rattle.tg_model.specs.ShowsTree.{Shows}
use Rattle.tg_model.specs.Sound.{Position, child, part, positions, top}
use Rattle.tg_model.specs.Texts.{is_before}
use Rattle.tg_model.specs.declared.kinds.Entry.{Entry}
use Rattle.tg_model.specs.declared.kinds.Kind.TheVariants.{Basic, File, Raw, Shard, Symlink}
use Rattle.tg_model.specs.declared.kinds.Slot.{Slot}
use Rattle.tg_unixfs.specs.Unix.{CanonicalText as CanonicalData}
use Rattle.tg_unixfs.specs.declared.Unix.{Unix}

-- how many bytes a chunk has, how many links a node of a file, and the weight above which a directory is sharded
pub record LayoutOptions : Type 0 where
  pub chunk : ℕ
  pub width : ℕ
  pub shard : ℕ

-- ---- files

-- the leaves in order, and how many links the nodes of one level have, level 0 being the root's
abbrev mutual
  pub leaves : Dag → List (List ℕ)
  leaves (unopened cid) = []
  leaves (bare section fault) = []
  leaves (node section Raw children) = section.block ∷ []
  leaves (node section (File inline filesize parts) children) = leaves_of_children children
  leaves (node section (Basic es) children) = []
  leaves (node section (Shard slots) children) = []
  leaves (node section (Symlink target) children) = []

  pub leaves_of_children : Children → List (List ℕ)
  leaves_of_children no_child = []
  leaves_of_children (with_child d children) = leaves d ++ leaves_of_children children

abbrev mutual
  pub level_widths : Dag → ℕ → List ℕ
  level_widths (unopened cid) level = []
  level_widths (bare section fault) level = []
  level_widths (node section Raw children) level = []
  level_widths (node section (File inline filesize parts) children) zero = length parts ∷ []
  level_widths (node section (File inline filesize parts) children) (suc level) =
      level_widths_of_children children level
  level_widths (node section (Basic es) children) level = []
  level_widths (node section (Shard slots) children) level = []
  level_widths (node section (Symlink target) children) level = []

  pub level_widths_of_children : Children → ℕ → List ℕ
  level_widths_of_children no_child level = []
  level_widths_of_children (with_child d children) level =
      level_widths d level ++ level_widths_of_children children level

-- every leaf is so many links below the node
abbrev mutual
  pub HasLeavesAt : ℕ → Dag → Type 0
  HasLeavesAt depth (unopened cid) = ⊥
  HasLeavesAt depth (bare section fault) = ⊥
  HasLeavesAt depth (node section Raw children) = depth ≡ 0
  HasLeavesAt zero (node section (File inline filesize parts) children) = ⊥
  HasLeavesAt (suc depth) (node section (File inline filesize parts) children) = HaveLeavesAt depth children
  HasLeavesAt depth (node section (Basic es) children) = ⊥
  HasLeavesAt depth (node section (Shard slots) children) = ⊥
  HasLeavesAt depth (node section (Symlink target) children) = ⊥

  pub HaveLeavesAt : ℕ → Children → Type 0
  HaveLeavesAt depth no_child = ⊤
  HaveLeavesAt depth (with_child d children) = HasLeavesAt depth d × HaveLeavesAt depth children

-- all but the last are this number, and the last is at most it
pub record AreFull (number : ℕ) (numbers : List ℕ) : Type 0 where
  pub full : (i n : ℕ) → i + 1 < length numbers → slice_get numbers i ≡ Some n → n ≡ number
  pub last : (i n : ℕ) → i + 1 ≡ length numbers → slice_get numbers i ≡ Some n → n ≤ number

-- a leaf that isn't alone has a byte
abbrev pub HasBytes : List (List ℕ) → Type 0
HasBytes [] = ⊤
HasBytes (leaf ∷ []) = ⊤
HasBytes (leaf ∷ other ∷ leaves) = All (λ bytes. 0 < length bytes) (leaf ∷ other ∷ leaves)

-- a file of at most one chunk is a leaf; any other has leaves that are equally deep, at least two links at its root,
-- one at each node, and full levels
abbrev pub IsLeaf : Dag → Type 0
IsLeaf d = (section : Section) × (d ≡ node section Raw no_child)

pub record IsLaidFile (options : LayoutOptions) (d : Dag) : Type 0 where
  pub chunks : AreFull options.chunk (map length (leaves d))
  pub not_empty : HasBytes (leaves d)
  pub small : length (content d) ≤ options.chunk → IsLeaf d
  pub depth : ℕ
  pub even : HasLeavesAt depth d
  pub branches : 0 < depth → All (λ width. 2 ≤ width) (level_widths d 0)
  pub levels : (level : ℕ) → AreFull options.width (level_widths d level)
  pub linked : (level : ℕ) → All (λ width. 0 < width) (level_widths d level)

-- ---- messages

-- the length of a node's block and the Tsizes of its links
abbrev mutual
  pub tsize_of : Dag → ℕ
  tsize_of (unopened cid) = 0
  tsize_of (bare section fault) = length section.block
  tsize_of (node section kind children) = length section.block + tsizes_of children

  pub tsizes_of : Children → ℕ
  tsizes_of no_child = 0
  tsizes_of (with_child d children) = tsize_of d + tsizes_of children

-- the links of a node lead to its children, under these names, with their Tsizes
abbrev pub AreLinks : List (List ℕ) → Children → List Link → Type 0
AreLinks [] no_child [] = ⊤
AreLinks (name ∷ names) (with_child d children) (link ∷ links) =
    CidBytes (root_cid d) link.hash × (link.name ≡ Some name) × (link.tsize ≡ Some (tsize_of d)) × AreLinks names children links
AreLinks _ _ _ = ⊥

-- the data of a file's node, of a directory in one block, and of a shard
abbrev pub file_unix : ℕ → List ℕ → Unix
file_unix total sizes =
    record { kind = 2; inline = None; filesize = Some total; sizes = sizes; hash = None; fanout = None }

abbrev pub basic_unix : Unix
basic_unix = record { kind = 1; inline = None; filesize = None; sizes = []; hash = None; fanout = None }

abbrev pub shard_unix : List ℕ → Unix
shard_unix bits =
    record { kind = 5; inline = Some bits; filesize = None; sizes = []; hash = Some 0x22; fanout = Some 256 }

-- the block is the canonical text of a node with these links and this data
pub record IsWritten (block : List ℕ) (names : List (List ℕ)) (children : Children) (unix : Unix) : Type 0 where
  pub links : List Link
  pub payload : List ℕ
  pub text : CanonicalText (record { links = links; payload = Some payload }) block
  pub unix_is : CanonicalData unix payload
  pub links_are : AreLinks names children links

-- the name of a slot's link: its digits, and the name of its entry where it is one
abbrev pub link_name : Slot → List ℕ
link_name slot = slot_digits slot.slot ++ unwrap_or slot.name []

-- the bits of a shard: the used slots, without leading zero bytes
abbrev pub HasNoLeadingZero : List ℕ → Type 0
HasNoLeadingZero [] = ⊤
HasNoLeadingZero (b ∷ bytes) = b ≢ 0

pub record AreBitsOf (slots : List Slot) (bits : List ℕ) : Type 0 where
  pub used : used_slots bits ≡ map (λ slot. slot.slot) slots
  pub shortest : HasNoLeadingZero bits

-- the entries stand in the order of their names' bytes
abbrev pub AreSorted : List Entry → Type 0
AreSorted es =
    (i : ℕ) (a b : Entry) → slice_get es i ≡ Some a → slice_get es (i + 1) ≡ Some b → is_before a.name b.name ≡ true

-- ---- directories

-- the names and the CIDs of a directory's entries together
abbrev pub weight_of : List DirEntry → ℕ
weight_of listed = sum (map (λ entry. length entry.name + length (v1_bytes (root_cid entry.dag))) listed)

pub record IsShardWritten (block : List ℕ) (slots : List Slot) (children : Children) : Type 0 where
  pub bits : List ℕ
  pub bits_are : AreBitsOf slots bits
  pub written : IsWritten block (map link_name slots) children (shard_unix bits)

-- a part is laid out with the file that it is a part of
abbrev pub IsLaidFileAt : LayoutOptions → Position → Dag → Type 0
IsLaidFileAt options top d = IsLaidFile options d
IsLaidFileAt options (part size) d = ⊤
IsLaidFileAt options (child above) d = ⊥

-- a directory is sharded where its weight asks for it, and a child shard has two entries or more
abbrev pub IsShardAt : LayoutOptions → Position → List DirEntry → Type 0
IsShardAt options top listed = options.shard < weight_of listed
IsShardAt options (part size) listed = ⊥
IsShardAt options (child above) listed = 2 ≤ length listed

-- what a node is as the importer writes it: at the top of a file or a directory its layout, below it its message
abbrev mutual
  pub IsLaidAt : LayoutOptions → Position → Dag → Type 0
  IsLaidAt options position (unopened cid) = ⊥
  IsLaidAt options position (bare section fault) = ⊥
  IsLaidAt options top (node section Raw children) = IsLaidFile options (node section Raw children)
  IsLaidAt options (part size) (node section Raw children) = ⊤
  IsLaidAt options (child above) (node section Raw children) = ⊥
  IsLaidAt options position (node section (File inline filesize parts) children) =
      IsLaidFileAt options position (node section (File inline filesize parts) children)
      × IsWritten section.block (map (λ p. []) parts) children (file_unix (total_of section (File inline filesize parts)) (map (λ p. p.size) parts))
      × AreLaidAt options (positions position (File inline filesize parts)) children
  IsLaidAt options position (node section (Basic es) children) =
      (weight_of (entries (node section (Basic es) children)) ≤ options.shard) × AreSorted es
      × IsWritten section.block (map (λ e. e.name) es) children basic_unix
      × AreLaidAt options (positions position (Basic es)) children
  IsLaidAt options position (node section (Shard slots) children) =
      IsShardAt options position (entries (node section (Shard slots) children))
      × IsShardWritten section.block slots children
      × AreLaidAt options (positions position (Shard slots)) children
  IsLaidAt options position (node section (Symlink target) children) = ⊥

  pub AreLaidAt : LayoutOptions → List Position → Children → Type 0
  AreLaidAt options positions no_child = ⊤
  AreLaidAt options [] (with_child d children) = ⊥
  AreLaidAt options (position ∷ positions) (with_child d children) =
      IsLaidAt options position d × AreLaidAt options positions children

-- each CID is a CIDv1 of sha2-256
abbrev pub HasPlainCid : Section → Type 0
HasPlainCid section = (section.cid.version ≡ 1) × (section.cid.hash ≡ Sha256)

-- the DAG that an import of the tree makes
pub record IsImportLayout (d : Dag) (tree : Tree) (options : LayoutOptions) : Type 0 where
  pub shows : Shows d tree
  pub laid : IsLaidAt options top d
  pub plain : All HasPlainCid (blocks d)
