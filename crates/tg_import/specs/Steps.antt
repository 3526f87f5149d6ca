-- The steps of an import: what each did, and why it stopped.
use Rattle.std.specs.List.{IsDistinct, sum_by}
use Rattle.std.specs.Prelude.{All, List, Option, [], bytes_eq, cond, length, map, nat_lt, slice_index_or, ℕ, ⊤, ◌-◌}
use Rattle.std.specs.Prelude.{◌^◌, ◌<◌, ◌≡◌, ◌⊎◌}
use Rattle.tg_dir.specs.Made.{StopsDirectory}
use Rattle.tg_dir.specs.Weights.{weight_for}
use Rattle.tg_files.specs.Folders.{FolderQuiet, FolderRose, FolderStep}
use Rattle.tg_hamt.specs.Directories.{HaveSameHash}
use Rattle.tg_hamt.specs.Order.{IsGoodEntry}
use Rattle.tg_import.specs.Counting.{counts_of, one_folder, one_sharded, plus}
use Rattle.tg_import.specs.Imported.{AreItemsOf, AreOptions, KeepsImported}
use Rattle.tg_import.specs.Refused.{HasNameFault, IsCrowdedFault, PassesTotal, max_total}
use Rattle.tg_import.specs.declared.fault.ImportFault.TheVariants as faults
use Rattle.tg_import.specs.declared.fault.ImportFault.{ImportFault}
use Rattle.tg_import.specs.declared.summary.Options.{Options}
use Rattle.tg_import.specs.declared.summary.Summary.{Summary}
use Rattle.tg_import_file.specs.Files.{FileWriterState, IsReady}
use Rattle.tg_model.specs.Dag.{Dag, root_cid}
use Rattle.tg_model.specs.ImportLayout.{tsize_of}
use Rattle.tg_model.specs.Stores.{Keeping}
use Rattle.tg_model.specs.declared.kinds.Made.{Made}
use Rattle.tg_model.specs.declared.kinds.NewEntry.{NewEntry}
use Rattle.tg_model.specs.declared.stores.KeepFault.TheVariants as keep_faults
use Rattle.tg_tree.specs.declared.items.Item.{Item}
use Rattle.tg_tree.specs.declared.tree.Tree.{Tree}
use Rattle.tg_node_writing.specs.Keeping.{Keeps}

-- the writer of files is ready, for files as these options want them
pub record IsWriterFor (options : Options) (writer : FileWriterState) : Type 0 where
  pub given : AreOptions options
  pub ready : IsReady writer
  pub chunk : writer.chunker.size ≡ options.chunk
  pub width : writer.balanced.width ≡ options.width

-- what stands at the path was imported, where so much was counted before
pub record ImportsAs (options : Options) (told : Option Tree) (path : List (List ℕ)) (counted : Summary) (made : Made) (summary : Summary) (keeping : Keeping) : Type 0 where
  pub d : Dag
  pub kept : KeepsImported options told path d keeping
  pub cid : made.cid ≡ root_cid d
  pub tsize : made.tsize ≡ tsize_of d
  pub summary_is : summary ≡ plus counted (counts_of d)

-- the item has the name of the one before it
abbrev pub StandsBefore : List Item → ℕ → Type 0
StandsBefore items i = (0 < i) × ((d : Item) → (slice_index_or items (i - 1) d).name ≡ (slice_index_or items i d).name)

-- why names aren't taken
abbrev pub IsNamesCause : List (List ℕ) → List Item → ImportFault → Type 0
IsNamesCause path items faults.OutOfMemory = ⊤
IsNamesCause path items fault = HasNameFault path items fault

-- why a folder isn't listed
abbrev pub IsListCause : Option Tree → List (List ℕ) → ImportFault → FolderStep → Type 0
IsListCause told path faults.Folder step = FolderRose step
IsListCause told path faults.OutOfMemory step = FolderQuiet step
IsListCause told path fault step =
    FolderQuiet step × ((items : List Item) × AreItemsOf told path items × (IsCrowdedFault path items fault ⊎ HasNameFault path items fault))

-- the entries of a directory, whatever their Tsizes
pub record AreNewEntries (entries : List NewEntry) : Type 0 where
  pub each : All IsGoodEntry entries
  pub differ : IsDistinct bytes_eq (map (λ entry. entry.name) entries)
  pub few : length entries < 2 ^ 32

abbrev pub tsizes_for : List NewEntry → ℕ
tsizes_for entries = sum_by (λ entry. entry.tsize) entries

-- what a directory of these entries counts itself
abbrev pub own_count_for : ℕ → List NewEntry → Summary
own_count_for shard entries = cond (nat_lt shard (weight_for entries)) one_sharded one_folder

-- why the directory of these entries isn't made
abbrev pub IsEntriesCause : ℕ → List (List ℕ) → Summary → List NewEntry → ImportFault → Keeping → Type 0
IsEntriesCause shard path counted entries (faults.TooBig at) keeping =
    Keeps [] keeping × (at ≡ path) × ((max_total < tsizes_for entries) ⊎ PassesTotal (plus counted (own_count_for shard entries)))
IsEntriesCause shard path counted entries (faults.SameHash first second) keeping =
    Keeps [] keeping × (shard < weight_for entries) × HaveSameHash entries first second × (max_total < tsizes_for entries → ⊥)
    × (PassesTotal (plus counted (own_count_for shard entries)) → ⊥)
IsEntriesCause shard path counted entries faults.Keep keeping = StopsDirectory entries keep_faults.Failed keeping
IsEntriesCause shard path counted entries faults.OutOfMemory keeping =
    StopsDirectory entries keep_faults.OutOfMemory keeping
IsEntriesCause shard path counted entries fault keeping = ⊥
