-- What folders mean, what they list, and what became of one between two moments.
use Rattle.std.specs.Prelude.{◌≡◌, ◌≢◌, ℕ, ◌≤◌, List, [], ◌∷◌, ◌++◌, Contains, Option, Some, None, option_map, ⊤}
use Rattle.std.specs.List.Sorted.{IsPermutation}
use Rattle.std.specs.Option.{ForSome}
use Rattle.std.specs.Str.{IsUtf8}
use Rattle.tg_bytes.specs.Ascii.{slash}
use Rattle.tg_files.specs.declared.folders.FolderFault.{FolderFault}
use Rattle.tg_files.specs.declared.folders.FolderFault.TheVariants.{Failed, OutOfMemory}
use Rattle.tg_tree.specs.declared.items.Item.{Item}
use Rattle.tg_tree.specs.declared.tree.Tree.{Tree}
use Rattle.tg_faults.specs.Faults.{Rose, counted}
use Rattle.tg_tree.specs.Tree.{IsAt, NamesDiffer, HasFolderAt, items_of}

-- what a kind of folder says of its values: its whole tree, told or not; the path of the system at which it is
-- attached, by the last attach that answered Ok, and none before the first; how many calls failed; and how many were
-- made, told or not
pub record FolderMeaning (S : Type 0) : Type 1 where
  pub tree : S → Option Tree
  pub place : S → Option (List ℕ)
  pub faults : S → ℕ
  pub calls : S → Option ℕ

-- a folder before and after
pub record FolderStep : Type 0 where
  pub tree_old : Option Tree
  pub tree_new : Option Tree
  pub place_old : Option (List ℕ)
  pub place_new : Option (List ℕ)
  pub faults_old : ℕ
  pub faults_new : ℕ
  pub calls_old : Option ℕ
  pub calls_new : Option ℕ

abbrev pub folder_step : {S : Type 0} → FolderMeaning S → S → S → FolderStep
folder_step m old new = record {
  tree_old = m.tree old;
  tree_new = m.tree new;
  place_old = m.place old;
  place_new = m.place new;
  faults_old = m.faults old;
  faults_new = m.faults new;
  calls_old = m.calls old;
  calls_new = m.calls new;
}

-- it tells the tree that it told, and is attached where it was
pub record SameFolder (step : FolderStep) : Type 0 where
  pub tree : step.tree_new ≡ step.tree_old
  pub place : step.place_new ≡ step.place_old

-- it is attached at a path of the system
abbrev pub AttachedAt : List ℕ → FolderStep → Type 0
AttachedAt path step = step.place_new ≡ Some path

-- one call was made, as far as calls are told
abbrev pub FolderCalled : FolderStep → Type 0
FolderCalled step = step.calls_new ≡ option_map counted step.calls_old

-- no fault of the folder was counted, or one was
abbrev pub FolderQuiet : FolderStep → Type 0
FolderQuiet step = step.faults_new ≡ step.faults_old

pub record FolderRose (step : FolderStep) : Type 0 where
  pub rose : Rose step.faults_old step.faults_new
  pub counted : step.faults_old ≤ step.faults_new

-- a fault of the folder was counted, and want of memory was not
abbrev pub FolderCounts : FolderFault → FolderStep → Type 0
FolderCounts Failed step = FolderRose step
FolderCounts OutOfMemory step = FolderQuiet step

-- what is told is a folder in which, and in each folder below, the names differ
pub record TellsFolder (tree : Option Tree) : Type 0 where
  pub folder : HasFolderAt tree []
  pub names : ForSome tree NamesDiffer

-- these are the names in a folder, each with its sort, in some order
abbrev pub Lists : Option Tree → List Item → Type 0
Lists (Some tree) items = IsPermutation (items_of tree) items
Lists None items = ⊤

-- below the folder at a path the item's name leads to a tree of its sort
abbrev pub Leads : Option Tree → List (List ℕ) → Item → Type 0
Leads tree path item = IsAt item.sort tree (path ++ item.name ∷ [])

-- a name leads into a folder, and no further: it isn't empty, has no slash, and is neither one dot nor two
abbrev pub IsEntryName : List ℕ → Type 0
IsEntryName name = (name ≢ []) × (name ≢ 46 ∷ []) × (name ≢ 46 ∷ 46 ∷ []) × ¬ Contains name slash

-- and it is text
abbrev pub IsTextName : List ℕ → Type 0
IsTextName name = IsUtf8 name × IsEntryName name

-- the path of the system that names lead to below a root
abbrev pub path_below : List ℕ → List (List ℕ) → List ℕ
path_below root [] = root
path_below root (name ∷ names) = path_below (root ++ slash ∷ name) names

-- what a contract sees of a tree of files in memory that is read
pub record FolderState : Type 0 where
  pub tree : Tree
  pub place : Option (List ℕ)  -- the path at which it is attached
  pub fails : List ℕ  -- the numbers of the calls that fail, counted from 0
  pub calls : ℕ  -- how many calls were made
  pub faults : ℕ  -- how many of them failed

abbrev pub mem_folder : FolderMeaning FolderState
mem_folder = record {
  tree = λ f. Some f.tree;
  place = λ f. f.place;
  faults = λ f. f.faults;
  calls = λ f. Some f.calls;
}
