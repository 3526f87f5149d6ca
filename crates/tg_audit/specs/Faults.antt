-- The faults of the crates below as faults of an audit: those of a folder, a pack, a store and a dial in memory come for want of
-- memory alone.
use Rattle.tg_audit.specs.declared.fault.AuditFault.{AuditFault}
use Rattle.tg_audit.specs.declared.fault.AuditFault.TheVariants as audits
use Rattle.tg_fetch.specs.declared.fault.FetchFault.{FetchFault}
use Rattle.tg_fetch.specs.declared.fault.FetchFault.TheVariants as fetches
use Rattle.tg_import.specs.declared.fault.ImportFault.{ImportFault}
use Rattle.tg_import.specs.declared.fault.ImportFault.TheVariants as imports
use Rattle.tg_store.specs.declared.fault.PackFault.{PackFault}
use Rattle.tg_store.specs.declared.fault.PackFault.TheVariants as packs

abbrev pub fault_of_import : ImportFault → AuditFault
fault_of_import imports.Folder = audits.OutOfMemory
fault_of_import imports.Keep = audits.OutOfMemory
fault_of_import imports.OutOfMemory = audits.OutOfMemory
fault_of_import fault = audits.Import fault

abbrev pub fault_of_pack : PackFault → AuditFault
fault_of_pack packs.Failed = audits.OutOfMemory
fault_of_pack packs.OutOfMemory = audits.OutOfMemory
fault_of_pack fault = audits.Pack fault

abbrev pub fault_of_fetch : FetchFault → AuditFault
fault_of_fetch fetches.PeerFault = audits.OutOfMemory
fault_of_fetch fetches.OutOfMemory = audits.OutOfMemory
fault_of_fetch fault = audits.Client fault
