-- A DAG shows a tree of files (UnixFS specification: File, Directory, HAMTDirectory, Symlink). Whether a folder is
-- sharded doesn't appear.
use Rattle.tg_tree.specs.declared.items.Sort.TheVariants as sorts
use Rattle.tg_tree.specs.declared.tree.Tree.TheOpen as trees
use Rattle.std.specs.Prelude.{Contains, List, None, Option, Some, [], map, ℕ, ⊤, ◌↔◌, ◌∷◌, ◌≡◌}
use Rattle.tg_tree.specs.Tree.{bytes_of, child, names_of, sort_of}
use Rattle.tg_tree.specs.declared.tree.Tree.{Tree, Tree-F, out-Tree}
use Rattle.tg_model.specs.Content.{DirEntry, content, entries}
use Rattle.tg_model.specs.Dag.{Dag, Children, bare, with_child, no_child, node, unopened}
use Rattle.tg_model.specs.declared.kinds.Entry.{Entry}
use Rattle.tg_model.specs.declared.kinds.Kind.TheVariants.{Basic, File, Raw, Shard, Symlink}
use Rattle.tg_model.specs.declared.kinds.Slot.{Slot}

-- the target of a symbolic link
abbrev pub target_within : Tree-F Tree → Option (List ℕ)
target_within (trees.File bytes) = None
target_within (trees.Folder entries) = None
target_within (trees.Symlink target) = Some target
target_within trees.Other = None

abbrev pub target_of : Tree → Option (List ℕ)
target_of tree = target_within (out-Tree tree)

-- a folder, of which the entries have just the names
pub record HasNamesOf (listed : List DirEntry) (tree : Tree) : Type 0 where
  pub folder : sort_of tree ≡ sorts.Folder
  pub names : (name : List ℕ)
      → (Contains (map (λ entry. entry.name) listed) name ↔ Contains (names_of (Some tree)) name)

-- an entry, or a child shard
abbrev pub SlotShows : (List ℕ → Type 0) → Type 0 → Option (List ℕ) → Type 0
SlotShows Entry Inside (Some name) = Entry name
SlotShows Entry Inside None = Inside

-- a file is shown by a raw block or a file with its bytes, a symbolic link by one with its target, and a folder by a
-- directory whose entries have just its names, each showing what has the name in the folder
abbrev mutual
  pub Shows : Dag → Tree → Type 0
  Shows (unopened cid) tree = ⊥
  Shows (bare section fault) tree = ⊥
  Shows (node section Raw children) tree = bytes_of (Some tree) ≡ Some section.block
  Shows (node section (File inline filesize parts) children) tree =
      bytes_of (Some tree) ≡ Some (content (node section (File inline filesize parts) children))
  Shows (node section (Basic es) children) tree =
      HasNamesOf (entries (node section (Basic es) children)) tree × EntriesShow es children tree
  Shows (node section (Shard slots) children) tree =
      HasNamesOf (entries (node section (Shard slots) children)) tree × SlotsShow slots children tree
  Shows (node section (Symlink target) children) tree = target_of tree ≡ Some target

  pub EntriesShow : List Entry → Children → Tree → Type 0
  EntriesShow es no_child tree = ⊤
  EntriesShow [] (with_child d children) tree = ⊤
  EntriesShow (entry ∷ es) (with_child d children) tree =
      ((below : Tree) × (child tree entry.name ≡ Some below) × Shows d below) × EntriesShow es children tree

  pub SlotsShow : List Slot → Children → Tree → Type 0
  SlotsShow slots no_child tree = ⊤
  SlotsShow [] (with_child d children) tree = ⊤
  SlotsShow (slot ∷ slots) (with_child d children) tree =
      SlotShows (λ name. (below : Tree) × (child tree name ≡ Some below) × Shows d below) (ShowsInside d tree) slot.name × SlotsShow slots children tree

  pub ShowsInside : Dag → Tree → Type 0
  ShowsInside (unopened cid) tree = ⊥
  ShowsInside (bare section fault) tree = ⊥
  ShowsInside (node section Raw children) tree = ⊥
  ShowsInside (node section (File inline filesize parts) children) tree = ⊥
  ShowsInside (node section (Basic es) children) tree = ⊥
  ShowsInside (node section (Shard slots) children) tree = SlotsShow slots children tree
  ShowsInside (node section (Symlink target) children) tree = ⊥
