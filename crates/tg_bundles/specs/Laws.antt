-- What the records of a DAG say: its bundle, and the tree of files that it shows.
use Rattle.std.specs.Prelude.{Contains, List, Option, Some, [], ℕ, ◌↔◌, ◌≡◌}
use Rattle.tg_bundles.specs.Records.{Record, bundle_text, file, folder, link, path_text, records_of}
use Rattle.tg_model.specs.Answer.{all_text, bundle}
use Rattle.tg_model.specs.Dag.{Dag}
use Rattle.tg_model.specs.Lookup.{is_directory}
use Rattle.tg_model.specs.ShowsTree.{Shows, target_of}
use Rattle.tg_model.specs.Sound.{IsSound}
use Rattle.tg_tree.specs.Tree.{HasFolderAt, bytes_of, tree_at}
use Rattle.tg_tree.specs.declared.tree.Tree.{Tree}
use Rattle.std.specs.Prelude.{option_and_then, true}

-- the bundle of a sound DAG at a path is the text of its records there; of a directory at the top it is its answer of all
abbrev pub BundlesHaveRecords : Type 0
BundlesHaveRecords = (d : Dag) (path : List (List ℕ)) → IsSound d → bundle (path_text path) d ≡ bundle_text (records_of path d)

abbrev pub AnswersHaveRecords : Type 0
AnswersHaveRecords = (d : Dag) → IsSound d → is_directory d ≡ true → all_text d ≡ bundle_text (records_of [] d)

-- the target of what stands at a path
abbrev pub target_at : Tree → List (List ℕ) → Option (List ℕ)
target_at tree path = option_and_then target_of (tree_at (Some tree) path)

-- the records are just what stands in a tree: its folders, its files with their bytes, and its symbolic links with their targets
pub record AreRecordsOf (records : List Record) (tree : Tree) : Type 0 where
  pub folders : (path : List (List ℕ)) → Contains records (folder path) ↔ HasFolderAt (Some tree) path
  pub files : (path : List (List ℕ)) (bytes : List ℕ) → Contains records (file path bytes) ↔ (bytes_of (tree_at (Some tree) path) ≡ Some bytes)
  pub links : (path : List (List ℕ)) (target : List ℕ) → Contains records (link path target) ↔ (target_at tree path ≡ Some target)

-- so are those of a DAG that shows a tree
abbrev pub RecordsAreTree : Type 0
RecordsAreTree = (d : Dag) (tree : Tree) → Shows d tree → AreRecordsOf (records_of [] d) tree
