-- What was made of the answer of a sound DAG, or of a front of it, once it was told what the query's path leads to (UnixFS specification,
-- node types; Path Gateway specification, Path Resolution; bundles are this project's own).
use Rattle.std.specs.Prelude.{All, Contains, IfSome, List, Some, [], ℕ, ◌++◌, ◌≡◌, ◌⊎◌}
use Rattle.tg_bundles.specs.Laws.{AreRecordsOf}
use Rattle.tg_bundles.specs.Reading.{IsCounted}
use Rattle.tg_bundles.specs.Records.{Record, records_of}
use Rattle.tg_extract.specs.Extracts.{IsAtStage, IsBad, IsRead, IsStuck, kind_of, link_at, records_made, text_read}
use Rattle.tg_extract.specs.Laws.{HasFirst, HasFirstBad, HasFirstBytes, HasFirstLink}
use Rattle.tg_extract.specs.declared.extract.Stage.{Stage}
use Rattle.tg_model.specs.Answer.{answer}
use Rattle.tg_model.specs.Dag.{Dag, blocks}
use Rattle.tg_model.specs.Fits.{IsFrontOfAnswer}
use Rattle.tg_model.specs.Lookup.{lookup_path}
use Rattle.tg_model.specs.Lookup as lookups
use Rattle.tg_model.specs.Queries.{QueryParts}
use Rattle.tg_model.specs.ShowsTree.{Shows}
use Rattle.tg_model.specs.Sound.{IsSound}
use Rattle.tg_model.specs.declared.queries.Scope.TheVariants as scopes
use Rattle.tg_new_tree.specs.declared.made.Made.{Made}
use Rattle.tg_new_tree.specs.declared.made.Made.TheVariants.{File, Folder}
use Rattle.tg_tree.specs.Tree.{HasFolderAt, bytes_of, tree_at}
use Rattle.tg_tree.specs.declared.tree.Tree.{Tree}
use Rattle.tg_verify.specs.Terminals.{IsTerminalOf}
use Rattle.tg_verify.specs.declared.terminal.Terminal.{Terminal}

-- the length of each block has at most 64 digits; soundness limits that of no raw block
abbrev pub IsMeasured : Dag → Type 0
IsMeasured d = All IsCounted (blocks d)

-- this holds of the records of the node to which the query's path leads
abbrev pub MadeAt : QueryParts → Dag → (List Record → Type 0) → Type 0
MadeAt q d Holds = (at : Dag) × (lookup_path q.path d ≡ lookups.found at) × Holds (records_of [] at)

-- just these records were made, in order
abbrev pub IsAllMade : List Made → List Record → Type 0
IsAllMade made records = records_made made ≡ records

-- the first of them; or the first, and of the file behind them the first bytes
abbrev pub IsFrontMade : List Made → List Record → Type 0
IsFrontMade made records = HasFirst made records ⊎ ((left : ℕ) × HasFirstBytes made left records)

-- ---- what was made, by the text that came

-- of the whole answer, which was read, all that the node has
abbrev pub WholeAnswers : Type 0
WholeAnswers = (q : QueryParts) (d : Dag) (made : List Made) (stage : Stage) (t : Terminal) → IsSound d → IsMeasured d → q.scope ≡ scopes.All
    → IsAtStage made stage → kind_of stage ≡ Some t → IsTerminalOf d q.path t → IsRead stage → (IsStuck stage → ⊥)
    → answer q d ≡ Some (text_read made stage) → MadeAt q d (IsAllMade made)

-- of a front of it, of which some may not be read, a front of that
abbrev pub FrontAnswers : Type 0
FrontAnswers = (q : QueryParts) (d : Dag) (made : List Made) (stage : Stage) (unread : List ℕ) (t : Terminal) → IsSound d → IsMeasured d
    → q.scope ≡ scopes.All → IsAtStage made stage → kind_of stage ≡ Some t → IsTerminalOf d q.path t
    → IsFrontOfAnswer (text_read made stage ++ unread) (answer q d) → MadeAt q d (IsFrontMade made)

-- where a symbolic link comes next, the node has one there
abbrev pub LinkAnswers : Type 0
LinkAnswers = (q : QueryParts) (d : Dag) (made : List Made) (stage : Stage) (unread : List ℕ) (t : Terminal) → IsSound d → IsMeasured d
    → q.scope ≡ scopes.All → IsAtStage made stage → kind_of stage ≡ Some t → IsTerminalOf d q.path t
    → IsFrontOfAnswer (text_read made stage ++ unread) (answer q d) → IfSome (link_at stage) (λ path. MadeAt q d (HasFirstLink made path))

-- and where a line ended that is none of a record that is made, it has such a record there
abbrev pub BadAnswers : Type 0
BadAnswers = (q : QueryParts) (d : Dag) (made : List Made) (stage : Stage) (unread : List ℕ) (t : Terminal) → IsSound d → IsMeasured d
    → q.scope ≡ scopes.All → IsAtStage made stage → kind_of stage ≡ Some t → IsTerminalOf d q.path t
    → IsFrontOfAnswer (text_read made stage ++ unread) (answer q d) → IsBad stage → MadeAt q d (HasFirstBad made)

-- ---- trees

-- what was made stands in a tree: its folders, and the first bytes of its files
pub record IsPartOf (made : List Made) (tree : Tree) : Type 0 where
  pub folders : (path : List (List ℕ)) → Contains made (Folder path) → HasFolderAt (Some tree) path
  pub files : (path : List (List ℕ)) (bytes : List ℕ) → Contains made (File path bytes)
      → (rest : List ℕ) × (bytes_of (tree_at (Some tree) path) ≡ Some (bytes ++ rest))

-- all that a node has is the tree that it shows, and a front of it stands in that
abbrev pub WholeTrees : Type 0
WholeTrees = (d : Dag) (tree : Tree) (made : List Made) → Shows d tree → IsAllMade made (records_of [] d) → AreRecordsOf (records_made made) tree

abbrev pub FrontTrees : Type 0
FrontTrees = (d : Dag) (tree : Tree) (made : List Made) → Shows d tree → IsFrontMade made (records_of [] d) → IsPartOf made tree
