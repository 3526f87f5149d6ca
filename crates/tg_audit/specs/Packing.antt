-- A folder in memory, imported into a pack in memory, which is attached as a store.
use Rattle.std.specs.Prelude.{List, None, Option, Some, [], ⊤, ℕ, ◌≡◌}
use Rattle.tg_audit.specs.declared.fault.AuditFault.{AuditFault}
use Rattle.tg_audit.specs.declared.fault.AuditFault.TheVariants as audits
use Rattle.tg_audit.specs.declared.packing.Packed.{Packed}
use Rattle.tg_files.specs.Packs.{PackState, mem_pack}
use Rattle.tg_import.specs.Counting.{counts_of, nothing}
use Rattle.tg_import.specs.Imported.{IsImported}
use Rattle.tg_import.specs.Refused.{HasFolderFault, max_levels}
use Rattle.tg_import.specs.declared.summary.Options.{Options}
use Rattle.tg_import_file.specs.Files.{AreBlocksOf}
use Rattle.tg_store.specs.Filling.{IsCarOfRoot}
use Rattle.tg_model.specs.Dag.{Dag, Section, root_cid}
use Rattle.tg_store.specs.AttachedPacks.{IsAttachedIn}
use Rattle.tg_store.specs.Attaching.{HasPackCause}
use Rattle.tg_store.specs.Packs.{PackStoreState, stored_in}
use Rattle.tg_tree.specs.declared.tree.Tree.{Tree}

-- chunks of 1,048,576 bytes, 1,024 links a node, and sharded directories above a weight of 16,384
abbrev pub audit_options : Options
audit_options = record { chunk = 1048576; width = 1024; shard = 16384 }

-- a pack with the content is a CAR of the blocks of a sound DAG that shows the tree, in the importer's layout
pub record HoldsImported (tree : Tree) (d : Dag) (content : List ℕ) : Type 0 where
  pub imported : IsImported audit_options (Some tree) [] d
  pub sections : List Section
  pub all : AreBlocksOf d sections
  pub car : IsCarOfRoot (root_cid d) sections content

-- so does the pack in memory
pub record IsPackedOf (tree : Tree) (packed : Packed) : Type 0 where
  pub d : Dag
  pub content : List ℕ
  pub told : packed.pack.content ≡ Some content
  pub holds : HoldsImported tree d content
  pub root : packed.root ≡ root_cid d
  pub counts : packed.summary ≡ counts_of d

-- why the tree isn't imported: a cause of its own; want of memory is free
abbrev pub IsUnpacked : Tree → AuditFault → Type 0
IsUnpacked tree (audits.Import fault) = HasFolderFault max_levels audit_options (Some tree) [] nothing fault
IsUnpacked tree audits.OutOfMemory = ⊤
IsUnpacked tree other = ⊥

-- the store of what the pack holds
abbrev pub IsAttachedOf : PackState → PackStoreState PackState → Type 0
IsAttachedOf pack store = IsAttachedIn pack.content (stored_in (mem_pack.content store.pack) store.places)

-- why it isn't attached: a cause of its content, as far as that is told; want of memory is free
abbrev pub CauseIn : Option (List ℕ) → AuditFault → Type 0
CauseIn told audits.OutOfMemory = ⊤
CauseIn None (audits.Pack fault) = ⊤
CauseIn (Some content) (audits.Pack fault) = HasPackCause content fault
CauseIn told other = ⊥

abbrev pub IsUnattached : PackState → AuditFault → Type 0
IsUnattached pack fault = CauseIn pack.content fault
