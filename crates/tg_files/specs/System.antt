-- What the system says of what stands at a path, and what is kept of it.
use Rattle.std.specs.Prelude.{◌≡◌, ℕ, zero, suc, List, [], ◌∷◌, ◌++◌, take, Option, None, String, string_cmp}
use Rattle.std.specs.BTreeMap.{BTreeMap, IsFromIterResult, get_by_text}
use Rattle.std.specs.Fs.{IsDir, IsFile, IsSymlink}
use Rattle.std.specs.List.{slice_get}
use Rattle.std.specs.Option.{option_and_then}
use Rattle.std.specs.declared.fs.attrs.FileType.{FileType}
use Rattle.tg_bytes.specs.Ascii.{slash}
use Rattle.tg_files.specs.declared.host_folder.Listed.{Listed}
use Rattle.tg_tree.specs.declared.items.Item.{Item}
use Rattle.tg_tree.specs.declared.items.Sort.{Sort}
use Rattle.tg_tree.specs.declared.items.Sort.TheVariants.{File, Folder, Symlink, Other}

-- a file of this type is of this sort, where a symbolic link isn't followed
abbrev pub HasSort : FileType → Sort → Type 0
HasSort t File = IsFile t
HasSort t Folder = IsDir t
HasSort t Symlink = IsSymlink t
HasSort t Other = (IsFile t → ⊥) × (IsDir t → ⊥) × (IsSymlink t → ⊥)

-- what was found at a path is in the folder, and the item says it
pub record IsEntryOf (folder : List ℕ) (item : Item) (path : List ℕ) (found : Listed) : Type 0 where
  pub path_is : path ≡ folder ++ slash ∷ item.name
  pub sort_is : item.sort ≡ found.sort

-- what stood at a path of so many names when the folder above it was listed: each folder on the way has one level
abbrev pub listed_at : {Y : Type 0} → List (BTreeMap (String Y) Listed) → ℕ → List ℕ → Option Listed
listed_at levels zero path = None
listed_at levels (suc above) path = option_and_then (λ level. get_by_text level path) (slice_get levels above)

-- what a folder listed stands behind the levels of the folders on the way to it, and nothing else does
pub record KeepsLevel {Y : Type 0} (depth : ℕ) (found : List (String Y × Listed)) (old new : List (BTreeMap (String Y) Listed)) : Type 0 where
  pub level : BTreeMap (String Y) Listed
  pub listed : IsFromIterResult string_cmp found level
  pub levels : new ≡ take depth old ++ level ∷ []
