-- What becomes of the record of a new tree by a call.
use Rattle.std.specs.Prelude.{◌≡◌, List, None, Option, Some, [], ⊤, ℕ, ◌++◌, ◌∷◌}
use Rattle.tg_new_tree.specs.declared.made.Made.{Made}
use Rattle.tg_new_tree.specs.declared.made.Made.TheVariants.{File, Folder}

-- bytes are added to what was made last, where it is a file
abbrev pub with_bytes : Made → List ℕ → Made
with_bytes (Folder path) bytes = Folder path
with_bytes (File path held) bytes = File path (held ++ bytes)

abbrev pub added_last : List Made → List ℕ → List Made
added_last [] bytes = []
added_last (last ∷ []) bytes = with_bytes last bytes ∷ []
added_last (made ∷ next ∷ more) bytes = made ∷ added_last (next ∷ more) bytes

-- a file was made last
pub record EndsWithFile (made : List Made) : Type 0 where
  pub before : List Made
  pub path : List (List ℕ)
  pub held : List ℕ
  pub is : made ≡ before ++ File path held ∷ []

-- where a file is open, it was made last
abbrev pub IsOpen : {F : Type 0} → Option F → List Made → Type 0
IsOpen None made = ⊤
IsOpen (Some file) made = EndsWithFile made

-- what a contract sees of a new tree of the system
pub record HostTreeState : Type 0 where
  pub made : List Made
  pub place : Option (List ℕ)
  pub faults : ℕ
