-- The DAG of a file that is read from a folder (UnixFS specification, File; the layout is this project's own profile).
use Rattle.std.specs.Prelude.{All, Contains, IfSome, List, Option, Some, [], length, ℕ, ◌<◌, ◌↔◌, ◌≡◌, ◌⊎◌}
use Rattle.tg_filedag.specs.Chunks.{ChunkerState}
use Rattle.tg_filedag.specs.State.{BalancedState, StandsFor}
use Rattle.tg_filedag.specs.Trees.{AreOfFileParts}
use Rattle.tg_files.specs.Folders.{FolderQuiet, FolderRose, FolderStep}
use Rattle.tg_import_file.specs.declared.fault.FileFault.{FileFault}
use Rattle.tg_import_file.specs.declared.fault.FileFault.TheVariants as faults
use Rattle.tg_model.specs.Content.{content}
use Rattle.tg_model.specs.Dag.{Dag, Section, blocks, root_cid}
use Rattle.tg_model.specs.ImportLayout.{HasPlainCid, IsLaidAt, LayoutOptions, tsize_of}
use Rattle.tg_model.specs.ShowsTree.{Shows}
use Rattle.tg_model.specs.Sound.{IsSound, top}
use Rattle.tg_model.specs.Stores.{Keeping}
use Rattle.tg_model.specs.declared.kinds.Made.{Made}
use Rattle.tg_model.specs.declared.stores.KeepFault.{KeepFault}
use Rattle.tg_model.specs.declared.stores.KeepFault.TheVariants as keep_faults
use Rattle.tg_tree.specs.Tree.{bytes_of}
use Rattle.tg_tree.specs.declared.tree.Tree.{Tree}
use Rattle.tg_node_writing.specs.BlockOrder.{AreBehindLinks}
use Rattle.tg_node_writing.specs.Keeping.{Keeps, StopsAfter}

-- how many bytes an imported file has at most: 2^40
abbrev pub max_file_len : ℕ
max_file_len = 1099511627776

-- what a contract sees of a writer of files: its chunker, and the file that is being linked
pub record FileWriterState : Type 0 where
  pub chunker : ChunkerState
  pub balanced : BalancedState

-- no byte of a file was taken
pub record IsReady (writer : FileWriterState) : Type 0 where
  pub no_byte : writer.chunker.bytes ≡ []
  pub no_chunk : StandsFor writer.balanced [] []

-- the sections are the DAG's blocks, repeats aside
abbrev pub AreBlocksOf : Dag → List Section → Type 0
AreBlocksOf d sections = (section : Section) → (Contains (blocks d) section ↔ Contains sections section)

-- a sound file with these bytes, as far as they are told, in the importer's layout with this chunk size and width, of
-- which this is told
pub record IsFileOf (chunk width : ℕ) (bytes : Option (List ℕ)) (made : Made) (d : Dag) : Type 0 where
  pub sound : IsSound d
  pub laid : (options : LayoutOptions) → options.chunk ≡ chunk → options.width ≡ width → IsLaidAt options top d
  pub plain : All HasPlainCid (blocks d)
  pub content_is : IfSome bytes (λ bytes. content d ≡ bytes)
  pub shows : (tree : Tree) → bytes_of (Some tree) ≡ Some (content d) → Shows d tree
  pub cid : made.cid ≡ root_cid d
  pub size : made.content ≡ length (content d)
  pub tsize : made.tsize ≡ tsize_of d

-- the file was kept, each of its blocks behind those to which it links
pub record KeepsFile (chunk width : ℕ) (bytes : Option (List ℕ)) (made : Made) (keeping : Keeping) : Type 0 where
  pub d : Dag
  pub file : IsFileOf chunk width bytes made d
  pub sections : List Section
  pub keeps : Keeps sections keeping
  pub all : AreBlocksOf d sections
  pub order : AreBehindLinks [] sections

-- a fault of the store, and want of memory
abbrev pub fault_of_keep : KeepFault → FileFault
fault_of_keep keep_faults.Failed = faults.Keep
fault_of_keep keep_faults.OutOfMemory = faults.OutOfMemory

-- blocks of parts of a file were kept, each behind those to which it links: no more, or no more before this fault
abbrev pub KeepsParts : Keeping → Type 0
KeepsParts keeping = (sections : List Section) × Keeps sections keeping × AreOfFileParts sections

abbrev pub StopsParts : KeepFault → Keeping → Type 0
StopsParts fault keeping = (sections : List Section) × StopsAfter sections fault keeping × AreOfFileParts sections

-- the sections are blocks of parts of a file, or all blocks of a sound DAG
abbrev pub AreOfFile : List Section → Type 0
AreOfFile sections = AreOfFileParts sections ⊎ ((d : Dag) × IsSound d × AreBlocksOf d sections)

-- why a file isn't imported, and what was kept before
abbrev pub IsFileCause : Option (List ℕ) → FileFault → FolderStep → Keeping → Type 0
IsFileCause bytes faults.Folder step keeping = FolderRose step × KeepsParts keeping
IsFileCause bytes faults.Keep step keeping = FolderQuiet step × StopsParts keep_faults.Failed keeping
IsFileCause bytes faults.TooBig step keeping =
    FolderQuiet step × KeepsParts keeping × IfSome bytes (λ bytes. max_file_len < length bytes)
IsFileCause bytes faults.OutOfMemory step keeping = FolderQuiet step × StopsParts keep_faults.OutOfMemory keeping
