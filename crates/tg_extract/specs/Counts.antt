-- How much was made.
use Rattle.std.specs.Prelude.{List, [], length, ℕ, ◌+◌, ◌∷◌}
use Rattle.tg_verify.specs.State.{told}
use Rattle.tg_extract.specs.declared.counts.Counts.{Counts}
use Rattle.tg_new_tree.specs.declared.made.Made.{Made}
use Rattle.tg_new_tree.specs.declared.made.Made.TheVariants.{File, Folder}

-- how many files there are among what was made, how many folders, and how many bytes the files have
abbrev pub files_in : List Made → ℕ
files_in [] = 0
files_in (Folder path ∷ made) = files_in made
files_in (File path bytes ∷ made) = files_in made + 1

abbrev pub folders_in : List Made → ℕ
folders_in [] = 0
folders_in (Folder path ∷ made) = folders_in made + 1
folders_in (File path bytes ∷ made) = folders_in made

abbrev pub bytes_in : List Made → ℕ
bytes_in [] = 0
bytes_in (Folder path ∷ made) = bytes_in made
bytes_in (File path bytes ∷ made) = length bytes + bytes_in made

abbrev pub counts_of : List Made → Counts
counts_of made = record { files = told (files_in made); folders = told (folders_in made); bytes = told (bytes_in made) }
