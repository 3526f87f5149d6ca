-- Why the import of a folder into a pack stops, and what was kept before.
use Rattle.std.proofs.Common.{ℕ, List, [], Option}
use Rattle.tg_files.specs.Folders.{FolderStep}
use Rattle.tg_files.specs.Packs.{PackQuiet, PackRose, PackStep}
use Rattle.tg_import.specs.Counting.{nothing}
use Rattle.tg_import.specs.Refused.{IsImportCause, max_levels}
use Rattle.tg_import.specs.declared.fault.ImportFault.{ImportFault}
use Rattle.tg_import.specs.declared.fault.ImportFault.TheVariants as faults
use Rattle.tg_import.specs.declared.summary.Options.{Options}
use Rattle.tg_import.specs.declared.summary.Summary.{Summary}
use Rattle.tg_import.specs.Packing.{IsPackingCause}
use Rattle.tg_model.specs.Dag.{Section}
use Rattle.tg_model.specs.Stores.{Keeping, KeepingQuiet, KeepingRose}
use Rattle.tg_tree.specs.declared.tree.Tree.{Tree}

-- why the import of a folder stops, as why that into a pack does
pub packing_cause : (options : Options) (told : Option Tree) (fault : ImportFault) (step : FolderStep) (keeping : Keeping) (pack : PackStep)
    → IsImportCause max_levels options told [] nothing fault step keeping → (KeepingQuiet keeping → PackQuiet pack) → (KeepingRose keeping → PackRose pack)
    → IsPackingCause options told fault step pack
packing_cause options told faults.Folder step keeping pack h quiet rose = (h.0, quiet h.1.1.quiet)
packing_cause options told faults.Keep step keeping pack h quiet rose = (h.0, rose h.1.1.counted)
packing_cause options told faults.OutOfMemory step keeping pack h quiet rose = (h.0, quiet h.1.1.counted)
packing_cause options told (faults.TooDeep at) step keeping pack h quiet rose = (h.0, quiet h.1.1.quiet, (h.1.0, h.1.3))
packing_cause options told (faults.BadName at) step keeping pack h quiet rose = (h.0, quiet h.1.1.quiet, (h.1.0, h.1.3))
packing_cause options told (faults.LongName at) step keeping pack h quiet rose = (h.0, quiet h.1.1.quiet, (h.1.0, h.1.3))
packing_cause options told (faults.SameHash first second) step keeping pack h quiet rose = (h.0, quiet h.1.1.quiet, (h.1.0, h.1.3))
packing_cause options told (faults.NotPlain at) step keeping pack h quiet rose = (h.0, quiet h.1.1.quiet, (h.1.0, h.1.3))
packing_cause options told (faults.TooBig at) step keeping pack h quiet rose = (h.0, quiet h.1.1.quiet, (h.1.0, h.1.3))

-- the sections that were kept before an import was refused
pub sections_of_cause : (levels : ℕ) (options : Options) (told : Option Tree) (path : List (List ℕ)) (counted : Summary) (fault : ImportFault) (step : FolderStep) (keeping : Keeping)
    → IsImportCause levels options told path counted fault step keeping → (sections : List Section) × keeping.kept sections
sections_of_cause levels options told path counted faults.Folder step keeping h = (h.1.0, h.1.1.kept.moved)
sections_of_cause levels options told path counted faults.Keep step keeping h = (h.1.0, h.1.1.moved)
sections_of_cause levels options told path counted faults.OutOfMemory step keeping h = (h.1.0, h.1.1.moved)
sections_of_cause levels options told path counted (faults.TooDeep at) step keeping h = (h.1.0, h.1.1.kept.moved)
sections_of_cause levels options told path counted (faults.BadName at) step keeping h = (h.1.0, h.1.1.kept.moved)
sections_of_cause levels options told path counted (faults.LongName at) step keeping h = (h.1.0, h.1.1.kept.moved)
sections_of_cause levels options told path counted (faults.SameHash first second) step keeping h = (h.1.0, h.1.1.kept.moved)
sections_of_cause levels options told path counted (faults.NotPlain at) step keeping h = (h.1.0, h.1.1.kept.moved)
sections_of_cause levels options told path counted (faults.TooBig at) step keeping h = (h.1.0, h.1.1.kept.moved)
