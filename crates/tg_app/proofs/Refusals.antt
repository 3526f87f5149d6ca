-- The refusals of the commands but `swarm`: none is that of peers that were all refused.
use Rattle.std.proofs.Common.{◌≡◌, inl, inr}
use Rattle.tg_app.proofs.Statuses.{IsOwn}
use Rattle.tg_app.specs.Audits.{IsAuditRefusal}
use Rattle.tg_app.specs.Fetches.{IsFetchRefusal}
use Rattle.tg_app.specs.Mirrors.{IsMirrorRefusal}
use Rattle.tg_audit.specs.declared.fault.AuditFault.{AuditFault}
use Rattle.tg_audit.specs.declared.fault.AuditFault.TheVariants as audits
use Rattle.tg_client.specs.declared.fault.ClientFault.{ClientFault}
use Rattle.tg_client.specs.declared.fault.ClientFault.TheVariants as clients
use Rattle.tg_commands.specs.Exports.{IsExportRefusal, TellsExport}
use Rattle.tg_commands.specs.Imports.{IsImportRefusal, refusal_of_import}
use Rattle.tg_commands.specs.Verify.{IsVerifyRefusal, TellsVerify}
use Rattle.tg_commands.specs.declared.fault.CommandFault.{CommandFault}
use Rattle.tg_export.specs.declared.fault.ExportFault.{ExportFault}
use Rattle.tg_export.specs.declared.fault.ExportFault.TheVariants as exports
use Rattle.tg_fetch.specs.declared.fault.FetchFault.{FetchFault}
use Rattle.tg_fetch.specs.declared.fault.FetchFault.TheVariants as fetches
use Rattle.tg_import.specs.declared.fault.ImportFault.{ImportFault}
use Rattle.tg_import.specs.declared.fault.ImportFault.TheVariants as imports
use Rattle.tg_mirror.specs.declared.fault.MirrorFault.{MirrorFault}
use Rattle.tg_mirror.specs.declared.fault.MirrorFault.TheVariants as mirrors
use Rattle.tg_model.specs.declared.stores.BlocksFault.TheVariants as stores
use Rattle.tg_store.specs.declared.fault.PackFault.TheVariants as packs
use Rattle.tg_verify.specs.declared.fault.Refusal.TheVariants as verifiers
use Rattle.tg_walk.specs.declared.fault.ResolveFault.TheVariants as paths
use Rattle.tg_walk.specs.declared.fault.WalkFault.TheVariants as walks

tells_verify_own : (fault : ClientFault) (refusal : CommandFault) → TellsVerify fault refusal → IsOwn refusal
tells_verify_own (clients.Refused (verifiers.BadDigest cid)) refusal (text, is_text, is) = λ words status e. cc
tells_verify_own (clients.Refused (verifiers.WrongBlock want got)) refusal (first, second, is_first, is_second, is) = λ words status e. cc
tells_verify_own (clients.Refused (verifiers.BadBlock cid fault)) refusal (text, is_text, is) = λ words status e. cc
tells_verify_own (clients.Refused (verifiers.Truncated want sections)) refusal (text, is_text, is) = λ words status e. cc
tells_verify_own (clients.Refused fault) refusal is = λ words status e. cc
tells_verify_own fault refusal is = λ words status e. cc

pub verify_own : (fault : ClientFault) (refusal : CommandFault) → IsVerifyRefusal fault refusal → IsOwn refusal
verify_own fault refusal (inl tells) = tells_verify_own fault refusal tells
verify_own fault refusal (inr memory) = λ words status e. let is = memory.1 in cc

pub fetch_own : (fault : FetchFault) (refusal : CommandFault) → IsFetchRefusal fault refusal → IsOwn refusal
fetch_own (fetches.Refused fault) refusal tells = verify_own (clients.Refused fault) refusal tells
fetch_own fault refusal is = λ words status e. cc

pub mirror_refusal_own : (fault : MirrorFault) (refusal : CommandFault) → IsMirrorRefusal fault refusal → IsOwn refusal
mirror_refusal_own (mirrors.Client fault) refusal tells = fetch_own fault refusal tells
mirror_refusal_own (mirrors.Pack fault) refusal is = λ words status e. cc

tells_export_own : (fault : ExportFault) (refusal : CommandFault) → TellsExport fault refusal → IsOwn refusal
tells_export_own (exports.Pack (packs.NotCar at)) refusal is = λ words status e. cc
tells_export_own (exports.Pack fault) refusal is = λ words status e. cc
tells_export_own (exports.Resolve (paths.BadBlock cid fault)) refusal (text, is_text, is) = λ words status e. cc
tells_export_own (exports.Resolve (paths.Gone cid)) refusal (text, is_text, is) = λ words status e. cc
tells_export_own (exports.Resolve (paths.Store (stores.Changed want got))) refusal is = λ words status e. cc
tells_export_own (exports.Resolve (paths.Store fault)) refusal is = λ words status e. cc
tells_export_own (exports.Resolve fault) refusal is = λ words status e. cc
tells_export_own (exports.Walk (walks.BadBlock cid fault)) refusal (text, is_text, is) = λ words status e. cc
tells_export_own (exports.Walk (walks.Gone cid)) refusal (text, is_text, is) = λ words status e. cc
tells_export_own (exports.Walk (walks.Store (stores.Changed want got))) refusal is = λ words status e. cc
tells_export_own (exports.Walk (walks.Store fault)) refusal is = λ words status e. cc
tells_export_own (exports.Walk fault) refusal is = λ words status e. cc
tells_export_own fault refusal is = λ words status e. cc

pub export_refusal_own : (fault : ExportFault) (refusal : CommandFault) → IsExportRefusal fault refusal → IsOwn refusal
export_refusal_own fault refusal (inl tells) = tells_export_own fault refusal tells
export_refusal_own fault refusal (inr memory) = λ words status e. let is = memory.1 in cc

tells_import_own : (fault : ImportFault) (refusal : CommandFault) → refusal ≡ refusal_of_import fault → IsOwn refusal
tells_import_own imports.Folder refusal is = λ words status e. cc
tells_import_own fault refusal is = λ words status e. cc

pub import_refusal_own : (fault : ImportFault) (refusal : CommandFault) → IsImportRefusal fault refusal → IsOwn refusal
import_refusal_own fault refusal (inl is) = tells_import_own fault refusal is
import_refusal_own fault refusal (inr memory) = λ words status e. let is = memory.1 in cc

pub audit_refusal_own : (fault : AuditFault) (refusal : CommandFault) → IsAuditRefusal fault refusal → IsOwn refusal
audit_refusal_own (audits.Import fault) refusal tells = import_refusal_own fault refusal tells
audit_refusal_own (audits.Pack fault) refusal tells = export_refusal_own (exports.Pack fault) refusal tells
audit_refusal_own (audits.Client fault) refusal tells = fetch_own fault refusal tells
audit_refusal_own fault refusal is = λ words status e. cc
