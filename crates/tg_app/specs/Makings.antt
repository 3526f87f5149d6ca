-- An extract that a command is handed, which makes a folder of an answer.
use Rattle.std.specs.Prelude.{◌≡◌, List}
use Rattle.tg_extract.specs.Extracts.{ExtractState}
use Rattle.tg_new_tree.specs.NewTrees.{NewTreeMeaning, NewTreeStep, new_tree_step}
use Rattle.tg_new_tree.specs.declared.made.Made.{Made}

-- what became of an extract, and whether it is the one that it was
pub record Making : Type 1 where
  pub Tree : Type 0
  pub meaning : NewTreeMeaning Tree
  pub old : ExtractState Tree
  pub new : ExtractState Tree
  pub same : Type 0

abbrev pub making_between : {T : Type 0} → NewTreeMeaning T → ExtractState T → ExtractState T → Making
making_between {T = T} m old new = record { Tree = T; meaning = m; old = old; new = new; same = new ≡ old }

-- what became of its tree, and what was made in it since it was begun
abbrev pub step_of : Making → NewTreeStep
step_of making = new_tree_step making.meaning making.old.tree making.new.tree

abbrev pub made_in : Making → List Made
made_in making = making.meaning.made making.new.tree
