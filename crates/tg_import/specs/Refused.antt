-- Why a folder isn't imported: the first place, depth first and in the order of the names' bytes, that can't be.
use Rattle.std.specs.List.{sum_by}
use Rattle.std.specs.Prelude.{Contains, IfSome, List, Option, [], cond, length, map, nat_lt, suc, zero, ℕ, ◌+◌, ◌++◌}
use Rattle.std.specs.Prelude.{◌<◌, ◌^◌, ◌∷◌, ◌≡◌, ◌≤◌, ◌⊎◌, ◌↔◌}
use Rattle.std.specs.declared.cmp.Ordering.TheVariants.{Less}
use Rattle.tg_bytes.specs.Order.{bytes_cmp}
use Rattle.tg_files.specs.Folders.{FolderQuiet, FolderRose, FolderStep}
use Rattle.tg_import.specs.Counting.{counts_of_children, one_file, one_folder, one_sharded, plus}
use Rattle.tg_import.specs.Imported.{AreEntryNames, AreImported, AreItemsOf}
use Rattle.tg_import.specs.declared.fault.ImportFault.{ImportFault}
use Rattle.tg_import.specs.declared.fault.ImportFault.TheVariants as faults
use Rattle.tg_import.specs.declared.summary.Options.{Options}
use Rattle.tg_import.specs.declared.summary.Summary.{Summary}
use Rattle.tg_import_file.specs.Files.{AreOfFile, max_file_len}
use Rattle.tg_model.specs.Dag.{Children, Section, blocks_of_children}
use Rattle.tg_model.specs.EntryNames.{IsGoodName}
use Rattle.tg_model.specs.ImportLayout.{tsizes_of}
use Rattle.tg_model.specs.Stores.{Keeping}
use Rattle.tg_model.specs.declared.stores.KeepFault.TheVariants as keep_faults
use Rattle.tg_model.specs.declared.stores.KeepFault.{KeepFault}
use Rattle.tg_murmur.specs.NameHash.{name_hash}
use Rattle.tg_tree.specs.Tree.{bytes_of, tree_at}
use Rattle.tg_tree.specs.declared.items.Item.{Item}
use Rattle.tg_tree.specs.declared.items.Sort.TheVariants as sorts
use Rattle.tg_tree.specs.declared.items.Sort.{Sort}
use Rattle.tg_tree.specs.declared.tree.Tree.{Tree}
use Rattle.tg_node_writing.specs.BlockOrder.{AreBehindLinks}
use Rattle.tg_node_writing.specs.Keeping.{Keeps, StopsAfter}

-- how many levels of folders are imported at most, the root being the first; how large a number of the summary and the
-- Tsizes of a directory are at most; and how many entries a directory has at most, and one
abbrev pub max_levels : ℕ
max_levels = 32

abbrev pub max_total : ℕ
max_total = 2 ^ 62

abbrev pub entry_limit : ℕ
entry_limit = 2 ^ 32

abbrev pub item_names : List Item → List (List ℕ)
item_names items = map (λ item. item.name) items

-- a number passes its limit
abbrev pub PassesTotal : Summary → Type 0
PassesTotal s = (max_total < s.files) ⊎ ((max_total < s.folders) ⊎ ((max_total < s.shards) ⊎ (max_total < s.bytes)))

-- the first name that may not stand in the folder: it isn't good or equals one before it; or it is too long
abbrev pub IsNameFault : List (List ℕ) → List Item → Item → ImportFault → Type 0
IsNameFault path before item (faults.BadName at) =
    (at ≡ path ++ item.name ∷ []) × ((IsGoodName item.name → ⊥) ⊎ Contains (item_names before) item.name)
IsNameFault path before item (faults.LongName at) =
    (at ≡ path ++ item.name ∷ []) × IsGoodName item.name × (255 < length item.name)
IsNameFault path before item other = ⊥

pub record HasNameFault (path : List (List ℕ)) (items : List Item) (fault : ImportFault) : Type 0 where
  pub before : List Item
  pub item : Item
  pub after : List Item
  pub whole : items ≡ before ++ item ∷ after
  pub good : AreEntryNames (item_names before)
  pub is : IsNameFault path before item fault

-- a file has too many bytes, or a number would pass its limit with it
abbrev pub IsTooLong : Summary → ℕ → Type 0
IsTooLong counted size = (max_file_len < size) ⊎ PassesTotal (plus counted (one_file size))

-- a file that can't be imported where so much was counted before: it has too many bytes, or a number would pass its
-- limit
abbrev pub IsFileFault : Option Tree → List (List ℕ) → Summary → List Section → ImportFault → Type 0
IsFileFault told path counted kept (faults.TooBig at) =
    (at ≡ path) × IfSome (bytes_of (tree_at told path)) (λ bytes. IsTooLong counted (length bytes)) × AreOfFile kept
IsFileFault told path counted kept other = ⊥

-- what isn't a file and no folder, of which nothing was kept
abbrev pub IsSortFault : List (List ℕ) → List Section → ImportFault → Type 0
IsSortFault path kept (faults.NotPlain at) = (at ≡ path) × (kept ≡ [])
IsSortFault path kept other = ⊥

-- why something at a path isn't imported where so much was counted before, and which of its sections were kept
abbrev pub Refusal : Type 1
Refusal = List (List ℕ) → Summary → List Section → ImportFault → Type 0

-- an entry that can't be imported, by its sort
abbrev pub sort_fault : Refusal → Option Tree → List (List ℕ) → Summary → Sort → List Section → ImportFault → Type 0
sort_fault FolderFault told path counted sorts.File kept fault = IsFileFault told path counted kept fault
sort_fault FolderFault told path counted sorts.Folder kept fault = FolderFault path counted kept fault
sort_fault FolderFault told path counted sorts.Symlink kept fault = IsSortFault path kept fault
sort_fault FolderFault told path counted sorts.Other kept fault = IsSortFault path kept fault

abbrev pub item_fault : Refusal → Option Tree → List (List ℕ) → Summary → Item → List Section → ImportFault → Type 0
item_fault FolderFault told path counted item kept fault =
    sort_fault FolderFault told (path ++ item.name ∷ []) counted item.sort kept fault

-- the sections are the blocks of these DAGs, repeats aside
abbrev pub AreBlocksOfAll : Children → List Section → Type 0
AreBlocksOfAll children sections =
    (section : Section) → (Contains (blocks_of_children children) section ↔ Contains sections section)

-- the first entry that can't be imported; those before it were, and of the sections that were kept the first are their
-- blocks
pub record HasItemFault (FolderFault : Refusal) (options : Options) (told : Option Tree) (path : List (List ℕ)) (counted : Summary) (items : List Item) (kept : List Section) (fault : ImportFault) : Type 0 where
  pub before : List Item
  pub item : Item
  pub after : List Item
  pub whole : items ≡ before ++ item ∷ after
  pub children : Children
  pub imported : AreImported options told path before children
  pub first : List Section
  pub rest : List Section
  pub kept_are : kept ≡ first ++ rest
  pub all : AreBlocksOfAll children first
  pub is : item_fault FolderFault told path (plus counted (counts_of_children children)) item rest fault

-- the lengths of the names and of the CIDs, 36 bytes each
abbrev pub weight_of_items : List Item → ℕ
weight_of_items items = sum_by (λ item. length item.name + 36) items

-- two names, in the order of their bytes, that have one hash
pub record HaveOneHash (items : List Item) (first second : List ℕ) : Type 0 where
  pub first_in : Contains (item_names items) first
  pub second_in : Contains (item_names items) second
  pub before : bytes_cmp first second ≡ Less
  pub same : name_hash first ≡ name_hash second

-- what the directory itself counts: one folder, and one sharded where its weight exceeds the threshold
abbrev pub own_count : Options → List Item → Summary
own_count options items = cond (nat_lt options.shard (weight_of_items items)) one_sharded one_folder

-- why the directory of entries that were all imported isn't made: their Tsizes or a number of the summary pass the
-- limit, or else two names have one hash and it is sharded
abbrev pub IsDirectoryFault : Options → List (List ℕ) → Summary → List Item → Children → ImportFault → Type 0
IsDirectoryFault options path counted items children (faults.TooBig at) =
    (at ≡ path) × ((max_total < tsizes_of children) ⊎ PassesTotal (plus (plus counted (counts_of_children children)) (own_count options items)))
IsDirectoryFault options path counted items children (faults.SameHash first second) =
    (options.shard < weight_of_items items) × HaveOneHash items first second × (max_total < tsizes_of children → ⊥)
    × (PassesTotal (plus (plus counted (counts_of_children children)) (own_count options items)) → ⊥)
IsDirectoryFault options path counted items children other = ⊥

-- the sections that were kept are the blocks of the entries
pub record HasDirectoryFault (options : Options) (told : Option Tree) (path : List (List ℕ)) (counted : Summary) (items : List Item) (kept : List Section) (fault : ImportFault) : Type 0 where
  pub children : Children
  pub imported : AreImported options told path items children
  pub all : AreBlocksOfAll children kept
  pub is : IsDirectoryFault options path counted items children fault

-- a folder that lists too many entries
abbrev pub IsCrowdedFault : List (List ℕ) → List Item → ImportFault → Type 0
IsCrowdedFault path items (faults.TooBig at) = (at ≡ path) × (entry_limit ≤ length items)
IsCrowdedFault path items other = ⊥

-- a folder that lies too deep
abbrev pub IsDeepFault : List (List ℕ) → ImportFault → Type 0
IsDeepFault path (faults.TooDeep at) = at ≡ path
IsDeepFault path other = ⊥

-- why the folder at a path isn't imported, where so many levels may still be gone into and so much was counted before:
-- it lies too deep; it lists too many entries; a name; an entry; or the directory of them. These sections were kept
-- before: none of the folder's where it lies too deep or its listing is refused, else the blocks of the entries that
-- were imported, and of the one that wasn't what is said of it
abbrev pub RefusesFolder : ℕ → Options → Option Tree → List (List ℕ) → Summary → List Section → ImportFault → Type 0
RefusesFolder zero options told path counted kept fault = (kept ≡ []) × IsDeepFault path fault
RefusesFolder (suc levels) options told path counted kept fault =
    (items : List Item) × AreItemsOf told path items
    × (((kept ≡ []) × IsCrowdedFault path items fault)
    ⊎ (((kept ≡ []) × HasNameFault path items fault)
    ⊎ (AreEntryNames (item_names items)
    × (HasItemFault (λ path counted kept fault. RefusesFolder levels options told path counted kept fault) options told path counted items kept fault
    ⊎ HasDirectoryFault options told path counted items kept fault))))

-- whatever was kept before
abbrev pub HasFolderFault : ℕ → Options → Option Tree → List (List ℕ) → Summary → ImportFault → Type 0
HasFolderFault levels options told path counted fault =
    (kept : List Section) × RefusesFolder levels options told path counted kept fault

-- these sections were kept, each behind those to which it links, and no more; or no more before this fault of the store
abbrev pub KeepsSome : Keeping → Type 0
KeepsSome keeping = (sections : List Section) × Keeps sections keeping × AreBehindLinks [] sections

abbrev pub StopsSome : KeepFault → Keeping → Type 0
StopsSome fault keeping = (sections : List Section) × StopsAfter sections fault keeping × AreBehindLinks [] sections

-- these were kept, and it is refused
abbrev pub KeepsRefused : (List Section → Type 0) → Keeping → Type 0
KeepsRefused Refused keeping =
    (sections : List Section) × Keeps sections keeping × AreBehindLinks [] sections × Refused sections

-- why an import stops: the folder or the store failed, memory is wanted, or it is refused; and what was kept before
abbrev pub IsCauseBy : (List Section → ImportFault → Type 0) → ImportFault → FolderStep → Keeping → Type 0
IsCauseBy Refused faults.Folder step keeping = FolderRose step × KeepsSome keeping
IsCauseBy Refused faults.Keep step keeping = FolderQuiet step × StopsSome keep_faults.Failed keeping
IsCauseBy Refused faults.OutOfMemory step keeping = FolderQuiet step × StopsSome keep_faults.OutOfMemory keeping
IsCauseBy Refused fault step keeping = FolderQuiet step × KeepsRefused (λ sections. Refused sections fault) keeping

-- why the import of the folder at a path stops
abbrev pub IsImportCause : ℕ → Options → Option Tree → List (List ℕ) → Summary → ImportFault → FolderStep → Keeping
    → Type 0
IsImportCause levels options told path counted fault step keeping =
    IsCauseBy (λ kept fault. RefusesFolder levels options told path counted kept fault) fault step keeping
