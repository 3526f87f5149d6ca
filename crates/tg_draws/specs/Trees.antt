-- Drawn files as a folder.
use Rattle.std.specs.Prelude.{List, Some, [], codes, ℕ, ◌%◌, ◌+◌, ◌/◌, ◌∷◌, ◌≡◌}
use Rattle.tg_draws.specs.declared.drawing.Drawn.{Drawn}
use Rattle.tg_tree.specs.Tree.{bytes_of, entries_of, sort_of}
use Rattle.tg_tree.specs.declared.items.Sort.TheVariants as sorts
use Rattle.tg_tree.specs.declared.tree.Tree.{Tree}

-- the byte of the decimal digit of a number that counts so many ones
abbrev pub digit_of : ℕ → ℕ → ℕ
digit_of ones number = 48 + number / ones % 10

-- the letter `f` and six decimal digits
abbrev pub file_name : ℕ → List ℕ
file_name number =
    102 ∷ digit_of 100000 number ∷ digit_of 10000 number ∷ digit_of 1000 number ∷ digit_of 100 number ∷ digit_of 10 number ∷ digit_of 1 number ∷ []

-- a file of these bytes, and a folder of these entries
abbrev pub IsFileOf : List ℕ → Tree → Type 0
IsFileOf bytes tree = bytes_of (Some tree) ≡ Some bytes

pub record IsFolderWith (entries : List (List ℕ × Tree)) (tree : Tree) : Type 0 where
  pub sort : sort_of tree ≡ sorts.Folder
  pub entries_are : entries_of tree ≡ entries

-- entries of these files, which are named by their numbers, the first of which this is
abbrev pub AreFilesFrom : ℕ → List (List ℕ) → List (List ℕ × Tree) → Type 0
AreFilesFrom number [] entries = entries ≡ []
AreFilesFrom number (bytes ∷ files) [] = ⊥
AreFilesFrom number (bytes ∷ files) (entry ∷ entries) =
    (entry.0 ≡ file_name number) × IsFileOf bytes entry.1 × AreFilesFrom (number + 1) files entries

-- the file `big`, the folder `many` of the others, the empty folder `empty`, and the file `none` of no bytes
pub record IsTreeOf (drawn : Drawn) (tree : Tree) : Type 0 where
  pub big : Tree
  pub many : Tree
  pub empty : Tree
  pub none : Tree
  pub is_folder : IsFolderWith ((codes "big", big) ∷ (codes "many", many) ∷ (codes "empty", empty) ∷ (codes "none", none) ∷ []) tree
  pub big_is : IsFileOf drawn.big big
  pub files : List (List ℕ × Tree)
  pub files_are : AreFilesFrom 0 drawn.many files
  pub many_is : IsFolderWith files many
  pub empty_is : IsFolderWith [] empty
  pub none_is : IsFileOf [] none
