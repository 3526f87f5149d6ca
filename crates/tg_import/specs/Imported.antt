-- What stands at a path of a folder, as a DAG in a store (UnixFS specification; the layout is this project's own
-- profile of it).
use Rattle.std.specs.List.Sorted.{IsPermutation}
use Rattle.std.specs.List.{IsDistinct}
use Rattle.std.specs.Prelude.{All, IfSome, List, Option, [], bytes_eq, length, ℕ, ⊤, ◌++◌, ◌∷◌, ◌≤◌}
use Rattle.tg_files.specs.Folders.{Leads, Lists}
use Rattle.tg_cid.specs.Limits.{max_block_len}
use Rattle.tg_import.specs.declared.summary.Options.{Options}
use Rattle.tg_import_file.specs.Files.{AreBlocksOf}
use Rattle.tg_model.specs.Dag.{Children, Dag, Section, blocks, no_child, with_child}
use Rattle.tg_model.specs.EntryNames.{IsGoodName}
use Rattle.tg_model.specs.ImportLayout.{HasPlainCid, IsLaidAt, LayoutOptions}
use Rattle.tg_model.specs.ShowsTree.{Shows}
use Rattle.tg_model.specs.Sound.{IsSound, top}
use Rattle.tg_model.specs.Stores.{Keeping}
use Rattle.tg_tree.specs.Tree.{NamesRise, tree_at}
use Rattle.tg_tree.specs.declared.items.Item.{Item}
use Rattle.tg_tree.specs.declared.tree.Tree.{Tree}
use Rattle.tg_node_writing.specs.BlockOrder.{AreBehindLinks}
use Rattle.tg_node_writing.specs.Keeping.{Keeps}

-- chunks of 1 to 2,097,152 bytes, 2 to 4,096 links a node, and a threshold up to 1,048,576
pub record AreOptions (options : Options) : Type 0 where
  pub chunk_low : 1 ≤ options.chunk
  pub chunk_high : options.chunk ≤ max_block_len
  pub width_low : 2 ≤ options.width
  pub width_high : options.width ≤ 4096
  pub shard_high : options.shard ≤ 1048576

abbrev pub layout : Options → LayoutOptions
layout options = record { chunk = options.chunk; width = options.width; shard = options.shard }

-- a sound DAG in the importer's layout shows what stands at the path, as far as it is told
pub record IsImported (options : Options) (told : Option Tree) (path : List (List ℕ)) (d : Dag) : Type 0 where
  pub sound : IsSound d
  pub laid : IsLaidAt (layout options) top d
  pub plain : All HasPlainCid (blocks d)
  pub shows : IfSome (tree_at told path) (Shows d)

-- and its blocks were kept, each behind those to which it links
pub record KeepsImported (options : Options) (told : Option Tree) (path : List (List ℕ)) (d : Dag) (keeping : Keeping) : Type 0 where
  pub imported : IsImported options told path d
  pub sections : List Section
  pub keeps : Keeps sections keeping
  pub all : AreBlocksOf d sections
  pub order : AreBehindLinks [] sections

-- the names in a folder at a path, in the order of their bytes
pub record AreItemsOf (told : Option Tree) (path : List (List ℕ)) (items : List Item) : Type 0 where
  pub listed : List Item
  pub lists : Lists (tree_at told path) listed
  pub leads : All (Leads told path) listed
  pub same : IsPermutation listed items
  pub rise : NamesRise items

-- a name that may stand in a directory: good, and of at most 255 bytes
pub record IsEntryName (name : List ℕ) : Type 0 where
  pub good : IsGoodName name
  pub short : length name ≤ 255

-- these names may stand in one directory: they differ
pub record AreEntryNames (names : List (List ℕ)) : Type 0 where
  pub each : All IsEntryName names
  pub differ : IsDistinct bytes_eq names

-- each of these items was imported as the DAG of its place
abbrev pub AreImported : Options → Option Tree → List (List ℕ) → List Item → Children → Type 0
AreImported options told path [] no_child = ⊤
AreImported options told path (item ∷ items) (with_child d children) =
    IsImported options told (path ++ item.name ∷ []) d × AreImported options told path items children
AreImported options told path [] (with_child d children) = ⊥
AreImported options told path (item ∷ items) no_child = ⊥
