-- What a DAG says: the content of a file, the entries of a directory (UnixFS specification: File, Directory,
-- HAMTDirectory).
use Rattle.std.specs.Prelude.{List, None, Option, Some, [], replicate, ℕ, ◌++◌, ◌∷◌}
use Rattle.tg_model.specs.Dag.{Dag, Children, Section, bare, with_child, no_child, node, unopened}
use Rattle.tg_model.specs.Sound.{Position, child, part, positions, top}
use Rattle.tg_model.specs.declared.kinds.Entry.{Entry}
use Rattle.tg_model.specs.declared.kinds.Kind.{Kind}
use Rattle.tg_model.specs.declared.kinds.Kind.TheVariants.{Basic, File, Raw, Shard, Symlink}
use Rattle.tg_model.specs.declared.kinds.Slot.{Slot}

-- an unopened part counts as as many zero bytes as are declared for it
abbrev pub zeros_for : Position → List ℕ
zeros_for top = []
zeros_for (part size) = replicate {A = ℕ} size 0
zeros_for (child above) = []

-- what a block says itself: a raw block its bytes, a file its inline bytes
abbrev pub own_content : Section → Kind → List ℕ
own_content section Raw = section.block
own_content section (File inline filesize parts) = inline
own_content section (Basic entries) = []
own_content section (Shard slots) = []
own_content section (Symlink target) = []

-- whether a kind's children are parts of its content
abbrev pub part_positions : Position → Kind → List Position
part_positions position Raw = []
part_positions position (File inline filesize parts) = positions position (File inline filesize parts)
part_positions position (Basic entries) = []
part_positions position (Shard slots) = []
part_positions position (Symlink target) = []

-- the content of a raw block is the block, of a file its inline bytes and the contents of its parts in order
abbrev mutual
  pub content_at : Position → Dag → List ℕ
  content_at position (unopened cid) = zeros_for position
  content_at position (bare section fault) = []
  content_at position (node section kind children) =
      own_content section kind ++ content_of_children (part_positions position kind) children

  pub content_of_children : List Position → Children → List ℕ
  content_of_children positions no_child = []
  content_of_children [] (with_child d children) = []
  content_of_children (position ∷ positions) (with_child d children) =
      content_at position d ++ content_of_children positions children

abbrev pub content : Dag → List ℕ
content d = content_at top d

-- an entry of a directory: its name and what stands under it
pub record DirEntry : Type 0 where
  pub name : List ℕ
  pub dag : Dag

abbrev pub named_children : List Entry → Children → List DirEntry
named_children entries no_child = []
named_children [] (with_child d children) = []
named_children (entry ∷ entries) (with_child d children) =
    record { name = entry.name; dag = d } ∷ named_children entries children

-- a slot is an entry where it has a name, and else it has those of its child shard
abbrev pub slot_entries : Option (List ℕ) → Dag → List DirEntry → List DirEntry
slot_entries (Some name) d inner = record { name = name; dag = d } ∷ []
slot_entries None d inner = inner

-- the entries of a directory in link order, each child shard's in the child's place
abbrev mutual
  pub entries : Dag → List DirEntry
  entries (unopened cid) = []
  entries (bare section fault) = []
  entries (node section Raw children) = []
  entries (node section (File inline filesize parts) children) = []
  entries (node section (Basic es) children) = named_children es children
  entries (node section (Shard slots) children) = entries_of_slots slots children
  entries (node section (Symlink target) children) = []

  pub entries_of_slots : List Slot → Children → List DirEntry
  entries_of_slots slots no_child = []
  entries_of_slots [] (with_child d children) = []
  entries_of_slots (slot ∷ slots) (with_child d children) =
      slot_entries slot.name d (entries d) ++ entries_of_slots slots children
