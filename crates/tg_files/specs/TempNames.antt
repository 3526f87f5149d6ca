-- Names of files that are put in the place of others once they are finished.
use Rattle.std.specs.Path.{path_with_file_name}
use Rattle.std.specs.Prelude.{◌≡◌, ℕ, List, ◌++◌, codes, decimal}

-- what the names of a program with this number begin with
abbrev pub temp_front : ℕ → List ℕ
temp_front number = codes ".tgate-" ++ (decimal number ++ codes "-")

-- the name before which so many were there already
abbrev pub temp_name : ℕ → ℕ → List ℕ
temp_name number count = temp_front number ++ (decimal count ++ codes ".tmp")

-- the name begins so
abbrev pub BeginsWith : List ℕ → List ℕ → Type 0
BeginsWith front name = (rest : List ℕ) × (name ≡ front ++ rest)

-- the path leads to one of these names in the folder in which what stands at the target is
abbrev pub IsBeside : ℕ → List ℕ → List ℕ → Type 0
IsBeside number target path = (count : ℕ) × (path ≡ path_with_file_name target (temp_name number count))
