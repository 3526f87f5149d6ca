-- A folder's DAG in a pack, which is a CAR (CARv1 specification).
use Rattle.std.specs.Prelude.{IfSome, List, Option, [], ◌≡◌}
use Rattle.tg_cid.specs.Cid.{CidParts}
use Rattle.tg_files.specs.Folders.{FolderQuiet, FolderRose, FolderStep}
use Rattle.tg_files.specs.Packs.{PackQuiet, PackRose, PackStep}
use Rattle.tg_import.specs.Counting.{counts_of, nothing}
use Rattle.tg_import.specs.Imported.{IsImported}
use Rattle.tg_import.specs.Refused.{HasFolderFault, max_levels}
use Rattle.tg_import.specs.declared.fault.ImportFault.{ImportFault}
use Rattle.tg_import.specs.declared.fault.ImportFault.TheVariants as faults
use Rattle.tg_import.specs.declared.summary.Options.{Options}
use Rattle.tg_import.specs.declared.summary.Summary.{Summary}
use Rattle.tg_import_file.specs.Files.{AreBlocksOf}
use Rattle.tg_model.specs.Dag.{Dag, Section, root_cid}
use Rattle.tg_store.specs.Entries.{first_of_each}
use Rattle.tg_store.specs.Filling.{IsCarOfRoot}
use Rattle.tg_node_writing.specs.BlockOrder.{AreBehindLinks}
use Rattle.tg_tree.specs.declared.tree.Tree.{Tree}

-- the folder was imported, and the pack, as far as it is told, is a CAR of its DAG with its root, in which no link
-- comes before its block
pub record IsPacked (options : Options) (told : Option Tree) (root : CidParts) (summary : Summary) (step : PackStep) : Type 0 where
  pub d : Dag
  pub imported : IsImported options told [] d
  pub root_is : root ≡ root_cid d
  pub counts : summary ≡ counts_of d
  pub sections : List Section
  pub all : AreBlocksOf d sections
  pub order : AreBehindLinks [] (first_of_each sections)
  pub content : IfSome step.content_new (IsCarOfRoot root sections)
  pub quiet : PackQuiet step

-- why a folder isn't imported into a pack: the folder or the pack failed and counted it; memory was wanted; or a cause
-- in the folder
abbrev pub IsPackingCause : Options → Option Tree → ImportFault → FolderStep → PackStep → Type 0
IsPackingCause options told faults.Folder folder pack = FolderRose folder × PackQuiet pack
IsPackingCause options told faults.Keep folder pack = FolderQuiet folder × PackRose pack
IsPackingCause options told faults.OutOfMemory folder pack = FolderQuiet folder × PackQuiet pack
IsPackingCause options told fault folder pack =
    FolderQuiet folder × PackQuiet pack × HasFolderFault max_levels options told [] nothing fault
