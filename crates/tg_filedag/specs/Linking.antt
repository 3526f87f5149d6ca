-- What the steps of linking subtrees do.
use Rattle.std.specs.Prelude.{List, [], length, slice_index, take, drop, ℕ, ◌++◌, ◌+◌, ◌-◌, ◌∷◌, ◌≡◌, ◌≤◌}
use Rattle.tg_bytes.specs.Lists.{joined}
use Rattle.tg_cid.specs.declared.cid.Codec.TheVariants.{DagPb}
use Rattle.tg_node_writing.specs.Keeping.{Keeps, StopsAfter, section_of}
use Rattle.tg_filedag.specs.MadeFile.{IsMadeFile}
use Rattle.tg_filedag.specs.State.{HasNoFullLevel, IsFrontFor, IsGrowing, heights}
use Rattle.tg_filedag.specs.Trees.{IsFileBlock, bottom_up, node_made}
use Rattle.tg_filedag.specs.declared.subtree.Subtree.{Subtree}
use Rattle.tg_model.specs.Dag.{Dag, Section}
use Rattle.tg_model.specs.Stores.{Keeping}
use Rattle.tg_model.specs.declared.kinds.Made.{Made}
use Rattle.tg_model.specs.declared.stores.KeepFault.{KeepFault}

-- the node over these links was kept
pub record IsKeptNode (links : List Subtree) (made : Made) (keeping : Keeping) : Type 0 where
  pub block : List ℕ
  pub written : IsFileBlock links block
  pub small : length block ≤ 524288
  pub made_is : made ≡ node_made links block
  pub keeps : Keeps (section_of DagPb block ∷ []) keeping

-- the node over the subtrees from `start` on was kept, and stands in their place
pub record Closes (old : List Subtree) (start height : ℕ) (new : List Subtree) (keeping : Keeping) : Type 0 where
  pub made : Made
  pub kept : IsKeptNode (drop start old) made keeping
  pub new_is : new ≡ take start old ++ record { height = height; made = made } ∷ []

-- the last `width` subtrees have one height
pub record HasFullLevel (width : ℕ) (subtrees : List Subtree) : Type 0 where
  pub enough : width ≤ length subtrees
  pub same : slice_index (heights subtrees) (length subtrees - width) ≡ slice_index (heights subtrees) (length subtrees - 1)

-- full levels were linked: for the chunks and sections that the subtrees stood for, further sections were kept
abbrev pub Raises : ℕ → List Subtree → List Subtree → Keeping → Type 0
Raises width old new keeping = (chunks : List (List ℕ)) (kept : List Section) → IsGrowing width old chunks kept
    → (sections : List Section) × Keeps sections keeping × IsGrowing width new chunks (kept ++ sections) × HasNoFullLevel width new

-- there is room for one more chunk
abbrev pub HasRoom : List (List ℕ) → List ℕ → Type 0
HasRoom chunks chunk = (length chunks + 1 ≤ 1099511627776) × (length (joined chunks) + length chunk ≤ 1099511627776)

-- a leaf was taken: the subtrees stand for one more chunk, and have no full level
abbrev pub TakesLeaf : ℕ → List Subtree → List Subtree → List ℕ → Keeping → Type 0
TakesLeaf width old new chunk keeping =
    (chunks : List (List ℕ)) (kept : List Section) → IsGrowing width old chunks kept → HasRoom chunks chunk
    → (sections : List Section) × Keeps sections keeping × IsGrowing width new (chunks ++ chunk ∷ []) (kept ++ sections) × HasNoFullLevel width new

-- all was linked into one file
abbrev pub MakesFile : ℕ → List Subtree → Made → Keeping → Type 0
MakesFile width old made keeping = (chunks : List (List ℕ)) (kept : List Section) → IsGrowing width old chunks kept
    → (sections : List Section) × (d : Dag) × Keeps sections keeping × IsMadeFile width chunks d made × (kept ++ sections ≡ bottom_up d)

-- linking stopped with a fault: the sections that were kept before it are a front of the file's
abbrev pub StopsLinking : ℕ → List Subtree → KeepFault → Keeping → Type 0
StopsLinking width old fault keeping = (chunks : List (List ℕ)) (kept : List Section) → IsGrowing width old chunks kept
    → (sections : List Section) × StopsAfter sections fault keeping × IsFrontFor width chunks kept sections

abbrev pub StopsLeaf : ℕ → List Subtree → List ℕ → KeepFault → Keeping → Type 0
StopsLeaf width old chunk fault keeping =
    (chunks : List (List ℕ)) (kept : List Section) → IsGrowing width old chunks kept → HasRoom chunks chunk
    → (sections : List Section) × StopsAfter sections fault keeping × IsFrontFor width (chunks ++ chunk ∷ []) kept sections
