-- What trees of files that are made anew mean, and what became of one between two moments.
use Rattle.std.specs.Prelude.{◌≡◌, ℕ, ◌≤◌, Contains, List, [], ◌∷◌, ◌++◌, Option, Some, map, option_map}
use Rattle.tg_faults.specs.Faults.{Rose, counted}
use Rattle.tg_new_tree.specs.declared.made.Made.{Made}
use Rattle.tg_new_tree.specs.declared.made.Made.TheVariants.{File, Folder}

-- what a kind of new tree says of its values: what was made, in order, each file with the bytes that were added to it; the path of the
-- system at which its top is to stand, by the last begin that answered Ok, and none before the first; how many calls failed; and how many
-- were made, told or not
pub record NewTreeMeaning (S : Type 0) : Type 1 where
  pub made : S → List Made
  pub place : S → Option (List ℕ)
  pub faults : S → ℕ
  pub calls : S → Option ℕ

-- a new tree before and after
pub record NewTreeStep : Type 0 where
  pub made_old : List Made
  pub made_new : List Made
  pub place_old : Option (List ℕ)
  pub place_new : Option (List ℕ)
  pub faults_old : ℕ
  pub faults_new : ℕ
  pub calls_old : Option ℕ
  pub calls_new : Option ℕ

abbrev pub new_tree_step : {S : Type 0} → NewTreeMeaning S → S → S → NewTreeStep
new_tree_step m old new = record {
  made_old = m.made old;
  made_new = m.made new;
  place_old = m.place old;
  place_new = m.place new;
  faults_old = m.faults old;
  faults_new = m.faults new;
  calls_old = m.calls old;
  calls_new = m.calls new;
}

-- nothing is made yet, and its top is to stand at a path of the system
pub record BegunAt (path : List ℕ) (step : NewTreeStep) : Type 0 where
  pub made : step.made_new ≡ []
  pub place : step.place_new ≡ Some path

-- this was made, behind all that was made before
pub record MadeMore (more : Made) (step : NewTreeStep) : Type 0 where
  pub made : step.made_new ≡ step.made_old ++ more ∷ []
  pub place : step.place_new ≡ step.place_old

-- the bytes were added behind those of the file that was made last, after which nothing was made
pub record AddedTo (bytes : List ℕ) (step : NewTreeStep) : Type 0 where
  pub before : List Made
  pub path : List (List ℕ)
  pub held : List ℕ
  pub old : step.made_old ≡ before ++ File path held ∷ []
  pub new : step.made_new ≡ before ++ File path (held ++ bytes) ∷ []
  pub place : step.place_new ≡ step.place_old

-- a file, and the same with bytes behind those that it had
pub record MoreOf (before : Made) (bytes : List ℕ) (after : Made) : Type 0 where
  pub path : List (List ℕ)
  pub held : List ℕ
  pub was : before ≡ File path held
  pub is : after ≡ File path (held ++ bytes)

-- nothing was made and nothing added
pub record SameTree (step : NewTreeStep) : Type 0 where
  pub made : step.made_new ≡ step.made_old
  pub place : step.place_new ≡ step.place_old

-- one call was made, as far as calls are told
abbrev pub NewTreeCalled : NewTreeStep → Type 0
NewTreeCalled step = step.calls_new ≡ option_map counted step.calls_old

-- no fault was counted, or one was
abbrev pub NewTreeQuiet : NewTreeStep → Type 0
NewTreeQuiet step = step.faults_new ≡ step.faults_old

pub record NewTreeRose (step : NewTreeStep) : Type 0 where
  pub rose : Rose step.faults_old step.faults_new
  pub counted : step.faults_old ≤ step.faults_new

-- a failed call does nothing but count
pub record NewTreeFailed (step : NewTreeStep) : Type 0 where
  pub same : SameTree step
  pub rose : NewTreeRose step

-- where something was made
abbrev pub path_made : Made → List (List ℕ)
path_made (Folder path) = path
path_made (File path bytes) = path

abbrev pub paths_made : List Made → List (List (List ℕ))
paths_made made = map path_made made

-- the top is made first, and everything else in a folder that was made before
abbrev pub HasFolderFor : List Made → List (List ℕ) → Type 0
HasFolderFor made [] = made ≡ []
HasFolderFor made (name ∷ names) = (folder : List (List ℕ)) × (last : List ℕ) × (name ∷ names ≡ folder ++ last ∷ []) × Contains made (Folder folder)

-- something may be made at a path: nothing was yet, and its folder was
pub record IsFree (made : List Made) (path : List (List ℕ)) : Type 0 where
  pub anew : Contains (paths_made made) path → ⊥
  pub within : HasFolderFor made path

-- what a contract sees of a new tree in memory
pub record NewTreeState : Type 0 where
  pub made : List Made
  pub place : Option (List ℕ)  -- the path at which it was begun
  pub fails : List ℕ  -- the numbers of the calls that fail, counted from 0
  pub calls : ℕ  -- how many calls were made
  pub faults : ℕ  -- how many of them failed

abbrev pub mem_new_tree : NewTreeMeaning NewTreeState
mem_new_tree = record {
  made = λ t. t.made;
  place = λ t. t.place;
  faults = λ t. t.faults;
  calls = λ t. Some t.calls;
}
