-- What a contract sees of a file that is being linked, and the chunks and sections that it stands for.
use Rattle.std.specs.Prelude.{List, None, Option, [], length, map, ℕ, ◌++◌, ◌-◌, ◌≡◌, ◌≤◌, ◌⊎◌}
use Rattle.tg_bytes.specs.Lists.{joined}
use Rattle.tg_filedag.specs.Heights.{HasFew, IsFalling}
use Rattle.tg_filedag.specs.Trees.{AreOfFileParts, AreTrees, IsLastSubtree, IsSubtree, bottom_up, bottom_up_of_children}
use Rattle.tg_filedag.specs.declared.subtree.Subtree.{Subtree}
use Rattle.tg_model.specs.Dag.{Children, Dag, Section}
use Rattle.tg_model.specs.ImportLayout.{leaves_of_children}
use Rattle.tg_model.specs.Sound.{IsSound}
use Rattle.tg_model.specs.declared.stores.KeepFault.{KeepFault}
use Rattle.tg_node_writing.specs.BlockOrder.{AreBehindLinks}

-- the links a node has, how many chunks and bytes came, the fault after which nothing is taken, and the subtrees that
-- wait to be linked, from the topmost level down
pub record BalancedState : Type 0 where
  pub width : ℕ
  pub leaves : ℕ
  pub bytes : ℕ
  pub refused : Option KeepFault
  pub subtrees : List Subtree

abbrev pub heights : List Subtree → List ℕ
heights subtrees = map (λ subtree. subtree.height) subtrees

-- the subtrees stand for DAGs with these chunks as leaves, of which these sections were kept, each behind those below
-- it; their heights never rise, and but for the last subtree fewer than `width` have one height
pub record IsForest (Last : Subtree → Dag → Type 0) (width : ℕ) (subtrees : List Subtree) (chunks : List (List ℕ)) (kept : List Section) : Type 0 where
  pub trees : Children
  pub stand : AreTrees Last width subtrees trees
  pub chunks_are : leaves_of_children trees ≡ chunks
  pub kept_are : bottom_up_of_children trees ≡ kept
  pub falls : IsFalling (heights subtrees)
  pub few : HasFew width (heights subtrees) (length subtrees - 1)
  pub low : 2 ≤ width
  pub high : width ≤ 4096
  pub few_chunks : length chunks ≤ 1099511627776
  pub few_bytes : length (joined chunks) ≤ 1099511627776

abbrev pub IsGrowing : ℕ → List Subtree → List (List ℕ) → List Section → Type 0
IsGrowing width subtrees chunks kept = IsForest (IsSubtree width) width subtrees chunks kept

abbrev pub IsClosing : ℕ → List Subtree → List (List ℕ) → List Section → Type 0
IsClosing width subtrees chunks kept = IsForest (IsLastSubtree width) width subtrees chunks kept

-- before a fault no section was kept, or with those of before the sections of subtrees over these chunks: a front of
-- the file's
abbrev pub IsFrontFor : ℕ → List (List ℕ) → List Section → List Section → Type 0
IsFrontFor width chunks kept sections =
    (sections ≡ []) ⊎ ((subtrees : List Subtree) × IsClosing width subtrees chunks (kept ++ sections))

-- fewer than `width` subtrees have one height
abbrev pub HasNoFullLevel : ℕ → List Subtree → Type 0
HasNoFullLevel width subtrees = HasFew width (heights subtrees) (length subtrees)

-- the value stands for these chunks, of which these sections were kept
pub record StandsFor (state : BalancedState) (chunks : List (List ℕ)) (kept : List Section) : Type 0 where
  pub forest : IsGrowing state.width state.subtrees chunks kept
  pub levels : HasNoFullLevel state.width state.subtrees
  pub leaves_are : state.leaves ≡ length chunks
  pub bytes_are : state.bytes ≡ length (joined chunks)
  pub unrefused : state.refused ≡ None

-- a value that refused nothing stands for some chunks
abbrev pub IsBalanced : BalancedState → Type 0
IsBalanced state = state.refused ≡ None → (chunks : List (List ℕ)) × (kept : List Section) × StandsFor state chunks kept

-- the blocks of a sound DAG, from the lowest up, stand behind those to which they link; so do those for which a value
-- stands, and those that were kept before a fault, which are of parts of the file
pub record KeptInOrder : Type 0 where
  pub whole : (d : Dag) → IsSound d → AreBehindLinks [] (bottom_up d)
  pub stands : (state : BalancedState) (chunks : List (List ℕ)) (kept : List Section) → StandsFor state chunks kept
      → AreOfFileParts kept
  pub front : (state : BalancedState) (chunks more : List (List ℕ)) (kept sections : List Section)
      → StandsFor state chunks kept
      → IsFrontFor state.width more kept sections → AreOfFileParts (kept ++ sections)
