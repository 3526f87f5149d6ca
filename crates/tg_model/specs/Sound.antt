-- Where a node stands in a DAG, what it has to be there, and when a DAG is sound (UnixFS specification: File,
-- Directory, HAMTDirectory).
use Rattle.tg_model.specs.declared.fault.BlockFault.TheVariants as faults
use Rattle.std.specs.Prelude.{Bool, IfSome, List, None, Option, Some, [], false, if◌then◌else◌, length, map, nat_lt}
use Rattle.std.specs.Prelude.{not, true, unwrap_or, ℕ, ⊤, ◌&&◌, ◌++◌, ◌+◌, ◌==◌, ◌∷◌, ◌≡◌}
use Rattle.tg_cid.specs.Names.{Names}
use Rattle.tg_model.specs.Dag.{Dag, IsWhole, Children, Section, bare, with_child, links_of, no_child, node, root_cids}
use Rattle.tg_model.specs.Dag.{total_of, unopened}
use Rattle.tg_model.specs.Reading.{Reads}
use Rattle.tg_model.specs.declared.fault.BlockFault.{BlockFault}
use Rattle.tg_model.specs.declared.kinds.Kind.{Kind}
use Rattle.tg_model.specs.declared.kinds.Kind.TheVariants.{Basic, File, Raw, Shard, Symlink}
use Rattle.tg_model.specs.declared.kinds.Slot.{Slot}
use Rattle.tg_murmur.specs.NameHash.{slot_of}

-- where a node stands: the root or an entry of a directory, a part of a file with the size that is declared for it, or
-- a child of a shard behind the slots that were passed
pub data Position : Type 0 where
  top : Position
  part : ℕ → Position
  child : List ℕ → Position

-- the slots that were passed
abbrev pub passed : Position → List ℕ
passed top = []
passed (part size) = []
passed (child slots) = slots

-- where a slot leads to: an entry, or a child
abbrev pub position_by_name : List ℕ → Option (List ℕ) → Position
position_by_name slots (Some name) = top
position_by_name slots None = child slots

abbrev pub slot_position : List ℕ → Slot → Position
slot_position above slot = position_by_name (above ++ slot.slot ∷ []) slot.name

-- where the children of a node stand
abbrev pub positions : Position → Kind → List Position
positions position Raw = []
positions position (File inline filesize parts) = map (λ p. part p.size) parts
positions position (Basic entries) = map (λ entry. top) entries
positions position (Shard slots) = map (slot_position (passed position)) slots
positions position (Symlink target) = []

-- the name's slots from this level on are these
abbrev pub has_slots : List ℕ → ℕ → List ℕ → Bool
has_slots name level [] = true
has_slots name level (slot ∷ slots) = (slot_of name level == slot) && has_slots name (level + 1) slots

-- an entry stands behind the slots of its name; a child shard has no name
abbrev pub is_name_elsewhere : List ℕ → Option (List ℕ) → Bool
is_name_elsewhere slots (Some name) = not (has_slots name 0 slots)
is_name_elsewhere slots None = false

abbrev pub is_misplaced : List ℕ → Slot → Bool
is_misplaced above slot = is_name_elsewhere (above ++ slot.slot ∷ []) slot.name

-- the first slot with an entry that stands elsewhere, its index counted from `at`
abbrev pub misplaced_from : ℕ → List ℕ → List Slot → Option BlockFault
misplaced_from at above [] = None
misplaced_from at above (slot ∷ slots) =
    if is_misplaced above slot then Some (faults.Misplaced at) else misplaced_from (at + 1) above slots

-- a shard behind these slots: at most 7 of them, and each entry behind its own
abbrev pub shard_fault : List ℕ → List Slot → Option BlockFault
shard_fault above slots = if nat_lt 7 (length above) then Some faults.BelowEight else misplaced_from 0 above slots

-- why a node of this kind can't stand there, the first of the faults: a shard is one there, a child of a shard is a
-- shard, and a part is raw or a file
abbrev pub position_fault : Position → Kind → Option BlockFault
position_fault top Raw = None
position_fault top (File inline filesize parts) = None
position_fault top (Basic entries) = None
position_fault top (Shard slots) = shard_fault [] slots
position_fault top (Symlink target) = None
position_fault (part size) Raw = None
position_fault (part size) (File inline filesize parts) = None
position_fault (part size) (Basic entries) = Some faults.NotPart
position_fault (part size) (Shard slots) = Some (unwrap_or (shard_fault [] slots) faults.NotPart)
position_fault (part size) (Symlink target) = Some faults.NotPart
position_fault (child above) Raw = Some faults.NotShard
position_fault (child above) (File inline filesize parts) = Some faults.NotShard
position_fault (child above) (Basic entries) = Some faults.NotShard
position_fault (child above) (Shard slots) = shard_fault above slots
position_fault (child above) (Symlink target) = Some faults.NotShard

-- a raw block, or a file
abbrev pub IsFileKind : Kind → Type 0
IsFileKind Raw = ⊤
IsFileKind (File inline filesize parts) = ⊤
IsFileKind (Basic entries) = ⊥
IsFileKind (Shard slots) = ⊥
IsFileKind (Symlink target) = ⊥

-- a part has the size that is declared for it, and a file the filesize that it tells
abbrev pub IsOfSize : Position → ℕ → Type 0
IsOfSize top total = ⊤
IsOfSize (part size) total = total ≡ size
IsOfSize (child above) total = ⊤

abbrev pub TellsSize : Kind → ℕ → Type 0
TellsSize Raw total = ⊤
TellsSize (File inline filesize parts) total = IfSome filesize (λ size. size ≡ total)
TellsSize (Basic entries) total = ⊤
TellsSize (Shard slots) total = ⊤
TellsSize (Symlink target) total = ⊤

-- a node is what its CID, its block, its links and its position say
pub record IsNodeAt (position : Position) (section : Section) (kind : Kind) (children : Children) : Type 0 where
  pub named : Names section.cid section.block
  pub reads : Reads section.cid section.block kind
  pub links : root_cids children ≡ links_of kind
  pub stands : position_fault position kind ≡ None
  pub of_size : IsOfSize position (total_of section kind)
  pub tells_size : TellsSize kind (total_of section kind)

-- each opened node that is read on is what is said of it; of a block that isn't only its CID is told, and a block
-- without a kind isn't sound
abbrev pub IsBareBlock : Section → Option BlockFault → Type 0
IsBareBlock section None = Names section.cid section.block
IsBareBlock section (Some fault) = ⊥

abbrev mutual
  pub IsCheckedAt : Position → Dag → Type 0
  IsCheckedAt position (unopened cid) = ⊤
  IsCheckedAt position (bare section fault) = IsBareBlock section fault
  IsCheckedAt position (node section kind children) =
      IsNodeAt position section kind children × AreCheckedAt (positions position kind) children

  pub AreCheckedAt : List Position → Children → Type 0
  AreCheckedAt positions no_child = ⊤
  AreCheckedAt [] (with_child d children) = ⊥
  AreCheckedAt (position ∷ positions) (with_child d children) = IsCheckedAt position d × AreCheckedAt positions children

-- what is opened of a partial DAG is right
abbrev pub IsChecked : Dag → Type 0
IsChecked d = IsCheckedAt top d

-- a sound DAG: all is opened and right
pub record IsSound (d : Dag) : Type 0 where
  pub whole : IsWhole d
  pub checked : IsChecked d
