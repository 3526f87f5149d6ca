-- `audit`: a folder that a seed draws is imported, served and fetched in memory, and the text that tells it goes to out.
use Rattle.std.specs.Prelude.{Err, None, Ok, Option, Result, Some, ⊤, ℕ, ◌≡◌}
use Rattle.tg_commands.specs.Exports.{IsExportRefusal}
use Rattle.tg_app.specs.Fetches.{IsFetchRefusal}
use Rattle.tg_commands.specs.Imports.{IsImportRefusal}
use Rattle.tg_commands.specs.declared.fault.CommandFault.{CommandFault}
use Rattle.tg_commands.specs.declared.fault.CommandFault.TheVariants as refusals
use Rattle.tg_audit.specs.Audits.{AuditEnds}
use Rattle.tg_audit.specs.declared.fault.AuditFault.{AuditFault}
use Rattle.tg_audit.specs.declared.fault.AuditFault.TheVariants as faults
use Rattle.tg_export.specs.declared.fault.ExportFault.TheVariants as exports
use Rattle.tg_model.specs.declared.limits.LimitKind.TheVariants as kinds
use Rattle.tg_streams.specs.Streams.{Output}
use Rattle.tg_words.specs.AuditLines.{AuditParts}

-- the refusal that tells why an audit ended: that of an import, of a pack that can't be attached, or of a reply that isn't
-- accepted; or of a query by its number
abbrev pub IsAuditRefusal : AuditFault → CommandFault → Type 0
IsAuditRefusal (faults.Import fault) refusal = IsImportRefusal fault refusal
IsAuditRefusal (faults.Pack fault) refusal = IsExportRefusal (exports.Pack fault) refusal
IsAuditRefusal (faults.Client fault) refusal = IsFetchRefusal fault refusal
IsAuditRefusal (faults.Limit number) refusal = refusal ≡ refusals.Limit kinds.Received number
IsAuditRefusal (faults.Differs query) refusal = refusal ≡ refusals.Differs query
IsAuditRefusal faults.SinkFault refusal = refusal ≡ refusals.SinkFault
IsAuditRefusal faults.OutOfMemory refusal = refusal ≡ refusals.OutOfMemory

abbrev pub IsAuditEnd : Result ⊤ AuditFault → Option CommandFault → Type 0
IsAuditEnd (Ok done) end = end ≡ None
IsAuditEnd (Err fault) end = (refusal : CommandFault) × (end ≡ Some refusal) × IsAuditRefusal fault refusal

-- the audit ended so
pub record AuditAnswers (parts : AuditParts) (out : Output) (end : Option CommandFault) : Type 0 where
  pub result : Result ⊤ AuditFault
  pub end_is : IsAuditEnd result end
  pub ends : AuditEnds parts.seed parts.files out result

-- at 3: a reply was refused, or an answer was another than the expected one
abbrev pub IsDenial : AuditFault → Type 0
IsDenial (faults.Client fault) = ⊤
IsDenial (faults.Differs query) = ⊤
IsDenial other = ⊥

pub record AuditDenied (parts : AuditParts) (out : Output) : Type 0 where
  pub fault : AuditFault
  pub denial : IsDenial fault
  pub ends : AuditEnds parts.seed parts.files out (Err fault)
