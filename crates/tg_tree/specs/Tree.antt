-- Trees of files, and what stands in them at a path of names.
use Rattle.std.specs.Prelude.{◌≡◌, ℕ, IsTrue, List, [], ◌∷◌, length, map, Option, Some, None, option_map, ⊤}
use Rattle.std.specs.Option.{option_and_then}
use Rattle.std.specs.List.{AllAdjacentBelow, IsDistinct}
use Rattle.std.specs.Map.{keys_of, lookup}
use Rattle.std.specs.Str.{bytes_eq}
use Rattle.std.specs.Ordering.{is_le}
use Rattle.tg_bytes.specs.Order.{bytes_cmp}
use Rattle.tg_tree.specs.declared.items.Item.{Item}
use Rattle.tg_tree.specs.declared.items.Sort.{Sort}
use Rattle.tg_tree.specs.declared.items.Sort.TheVariants as sorts
use Rattle.tg_tree.specs.declared.tree.Tree.{Tree, Tree-F, out-Tree}
use Rattle.tg_tree.specs.declared.tree.Tree.TheOpen.{File, Folder, Symlink, Other}

-- what a tree is
abbrev pub sort_within : Tree-F Tree → Sort
sort_within (File bytes) = sorts.File
sort_within (Folder entries) = sorts.Folder
sort_within (Symlink target) = sorts.Symlink
sort_within Other = sorts.Other

abbrev pub sort_of : Tree → Sort
sort_of tree = sort_within (out-Tree tree)

-- the entries of a folder, each with its name; nothing else has any
abbrev pub entries_within : Tree-F Tree → List (List ℕ × Tree)
entries_within (File bytes) = []
entries_within (Folder entries) = entries.items
entries_within (Symlink target) = []
entries_within Other = []

abbrev pub entries_of : Tree → List (List ℕ × Tree)
entries_of tree = entries_within (out-Tree tree)

-- the bytes of a file
abbrev pub bytes_within : Tree-F Tree → Option (List ℕ)
bytes_within (File bytes) = Some bytes
bytes_within (Folder entries) = None
bytes_within (Symlink target) = None
bytes_within Other = None

abbrev pub bytes_of : Option Tree → Option (List ℕ)
bytes_of (Some tree) = bytes_within (out-Tree tree)
bytes_of None = None

-- the entry of that name in a folder; the first one where there are several
abbrev pub child : Tree → List ℕ → Option Tree
child tree name = lookup (bytes_eq name) (entries_of tree)

-- what stands at a path of names below a tree
abbrev pub below : Tree → List (List ℕ) → Option Tree
below tree [] = Some tree
below tree (name ∷ path) = option_and_then (λ found. below found path) (child tree name)

-- the same below a tree that may not be told
abbrev pub tree_at : Option Tree → List (List ℕ) → Option Tree
tree_at tree path = option_and_then (λ found. below found path) tree

-- what stands at a path is of that sort, as far as it is told
abbrev pub IsAt : Sort → Option Tree → List (List ℕ) → Type 0
IsAt sort (Some tree) path = option_map sort_of (below tree path) ≡ Some sort
IsAt sort None path = ⊤

-- at the path stands a folder, and a file, as far as it is told
abbrev pub HasFolderAt : Option Tree → List (List ℕ) → Type 0
HasFolderAt tree path = IsAt sorts.Folder tree path

abbrev pub HasFileAt : Option Tree → List (List ℕ) → Type 0
HasFileAt tree path = IsAt sorts.File tree path

-- the names in a folder
abbrev pub names_of : Option Tree → List (List ℕ)
names_of (Some tree) = keys_of (entries_of tree)
names_of None = []

-- in each folder of a tree the names differ
abbrev pub NamesDiffer : Tree → Type 0
NamesDiffer tree = (path : List (List ℕ)) → IsDistinct bytes_eq (names_of (below tree path))

-- a folder in which, and in each folder below, the names differ
abbrev pub IsFolderOfFiles : Tree → Type 0
IsFolderOfFiles tree = (sort_of tree ≡ sorts.Folder) × NamesDiffer tree

-- a name and what has it
abbrev pub item_of : List ℕ × Tree → Item
item_of entry = record { name = entry.0; sort = sort_of entry.1 }

abbrev pub items_of : Tree → List Item
items_of tree = map item_of (entries_of tree)

-- each name comes before the next in the order of their bytes, or is the same
abbrev pub NamesRise : List Item → Type 0
NamesRise items =
    AllAdjacentBelow (λ before next. IsTrue (is_le (bytes_cmp before.name next.name))) items (length items)
