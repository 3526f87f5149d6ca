-- What each exit status says of `audit`.
use Rattle.std.proofs.Common.{◌≡◌, ◌≢◌, ◌⊎◌, ◌∙◌, Err, Ok, Option, Some, ap, inl, inr, refl, subst, sym, ℕ}
use Rattle.std.specs.Prelude.{Result, ⊤}
use Rattle.tg_app.proofs.FetchEndings.{no_fetch_refusal}
use Rattle.tg_app.proofs.Refusals.{audit_refusal_own}
use Rattle.tg_app.proofs.Statuses.{IsOwn, differs, not_zero}
use Rattle.tg_app.specs.Audits.{AuditAnswers, AuditDenied, IsAuditEnd, IsAuditRefusal}
use Rattle.tg_commands.specs.Blocks.{OutputUntouched}
use Rattle.tg_commands.specs.Exports.{IsExportRefusal, TellsExport}
use Rattle.tg_commands.specs.Imports.{IsImportRefusal, refusal_of_import}
use Rattle.tg_commands.specs.Lines.{exit_status, status_of}
use Rattle.tg_commands.specs.declared.fault.CommandFault.{CommandFault}
use Rattle.tg_commands.specs.declared.fault.CommandFault.TheVariants as refusals
use Rattle.tg_audit.specs.Audits.{AuditEnds, Audited}
use Rattle.tg_audit.specs.declared.fault.AuditFault.{AuditFault}
use Rattle.tg_audit.specs.declared.fault.AuditFault.TheVariants as faults
use Rattle.tg_export.specs.declared.fault.ExportFault.TheVariants as exports
use Rattle.tg_import.specs.declared.fault.ImportFault.{ImportFault}
use Rattle.tg_import.specs.declared.fault.ImportFault.TheVariants as imports
use Rattle.tg_store.specs.declared.fault.PackFault.{PackFault}
use Rattle.tg_store.specs.declared.fault.PackFault.TheVariants as packs
use Rattle.tg_streams.specs.Streams.{Output, OutputQuiet}
use Rattle.tg_words.specs.AuditLines.{AuditParts}

-- ---- statuses that none has

-- of an import's refusal, and of a pack's
abbrev IsNever : ℕ → Type 0
IsNever n = (n ≡ 2) ⊎ (n ≡ 3)

never : (m n : ℕ) → (m ≡ n) → IsNever n → (m ≡ 2 → ⊥) → (m ≡ 3 → ⊥) → ⊥
never m n e (inl two) no_two no_three = no_two (e ∙ two)
never m n e (inr three) no_two no_three = no_three (e ∙ three)

import_never : (n : ℕ) (fault : ImportFault) → IsNever n → status_of (refusal_of_import fault) ≡ n → ⊥
import_never n imports.Folder which e = never 6 n e which (differs 6 2 refl) (differs 6 3 refl)
import_never n imports.Keep which e = never 6 n e which (differs 6 2 refl) (differs 6 3 refl)
import_never n (imports.TooDeep path) which e = never 7 n e which (differs 7 2 refl) (differs 7 3 refl)
import_never n (imports.BadName path) which e = never 6 n e which (differs 6 2 refl) (differs 6 3 refl)
import_never n (imports.LongName path) which e = never 7 n e which (differs 7 2 refl) (differs 7 3 refl)
import_never n (imports.SameHash first second) which e = never 6 n e which (differs 6 2 refl) (differs 6 3 refl)
import_never n (imports.NotPlain path) which e = never 6 n e which (differs 6 2 refl) (differs 6 3 refl)
import_never n (imports.TooBig path) which e = never 7 n e which (differs 7 2 refl) (differs 7 3 refl)
import_never n imports.OutOfMemory which e = never 8 n e which (differs 8 2 refl) (differs 8 3 refl)

pack_never : (n : ℕ) (fault : PackFault) (refusal : CommandFault) → IsNever n → TellsExport (exports.Pack fault) refusal → status_of refusal ≡ n → ⊥
pack_never n (packs.NotCar at) refusal which tells e = never 6 n (sym (ap status_of tells) ∙ e) which (differs 6 2 refl) (differs 6 3 refl)
pack_never n (packs.BadDigest at) refusal which tells e = never 6 n (sym (ap status_of tells) ∙ e) which (differs 6 2 refl) (differs 6 3 refl)
pack_never n packs.Unfinished refusal which tells e = never 6 n (sym (ap status_of tells) ∙ e) which (differs 6 2 refl) (differs 6 3 refl)
pack_never n (packs.Truncated at) refusal which tells e = never 6 n (sym (ap status_of tells) ∙ e) which (differs 6 2 refl) (differs 6 3 refl)
pack_never n packs.Failed refusal which tells e = never 6 n (sym (ap status_of tells) ∙ e) which (differs 6 2 refl) (differs 6 3 refl)
pack_never n (packs.BlockLimit at) refusal which tells e = never 7 n (sym (ap status_of tells) ∙ e) which (differs 7 2 refl) (differs 7 3 refl)
pack_never n packs.OutOfMemory refusal which tells e = never 8 n (sym (ap status_of tells) ∙ e) which (differs 8 2 refl) (differs 8 3 refl)

pack_refused_never : (n : ℕ) (fault : PackFault) (refusal : CommandFault) → IsNever n → IsExportRefusal (exports.Pack fault) refusal → status_of refusal ≡ n → ⊥
pack_refused_never n fault refusal which (inl tells) e = pack_never n fault refusal which tells e
pack_refused_never n fault refusal which (inr memory) e = never 8 n (sym (ap status_of memory.1) ∙ e) which (differs 8 2 refl) (differs 8 3 refl)

import_refused_never : (n : ℕ) (fault : ImportFault) (refusal : CommandFault) → IsNever n → IsImportRefusal fault refusal → status_of refusal ≡ n → ⊥
import_refused_never n fault refusal which (inl tells) e = import_never n fault which (sym (ap status_of tells) ∙ e)
import_refused_never n fault refusal which (inr memory) e = never 8 n (sym (ap status_of memory.1) ∙ e) which (differs 8 2 refl) (differs 8 3 refl)

-- ---- status 2

no_usage_for : (fault : AuditFault) → IsAuditRefusal fault refusals.Usage → ⊥
no_usage_for (faults.Import fault) h = import_refused_never 2 fault refusals.Usage (inl refl) h refl
no_usage_for (faults.Pack fault) h = pack_refused_never 2 fault refusals.Usage (inl refl) h refl
no_usage_for (faults.Client fault) h = no_fetch_refusal fault h
no_usage_for (faults.Limit number) h = differs 2 7 refl (ap status_of h)
no_usage_for (faults.Differs query) h = differs 2 3 refl (ap status_of h)
no_usage_for faults.SinkFault h = differs 2 6 refl (ap status_of h)
no_usage_for faults.OutOfMemory h = differs 2 8 refl (ap status_of h)

no_usage_by : (result : Result ⊤ AuditFault) → IsAuditEnd result (Some refusals.Usage) → ⊥
no_usage_by (Ok done) is = differs 2 0 refl (ap exit_status is)
no_usage_by (Err fault) (refusal, is, tells) = no_usage_for fault (subst (IsAuditRefusal fault) (sym (some_is is)) tells)
  where
    some_is : {a b : CommandFault} → Some a ≡ Some b → a ≡ b
    some_is e = cc

pub no_audit_usage : (parts : AuditParts) (out : Output) → AuditAnswers parts out (Some refusals.Usage) → ⊥
no_audit_usage parts out h = no_usage_by h.result h.end_is

-- ---- a status of its own

own_by : (result : Result ⊤ AuditFault) (refusal : CommandFault) → IsAuditEnd result (Some refusal) → IsOwn refusal
own_by (Ok done) refusal is = λ words status e. cc
own_by (Err fault) refusal (told, is, tells) = λ words status e. audit_refusal_own fault told tells words status (cc)

pub audit_own : (parts : AuditParts) (out : Output) (refusal : CommandFault) → AuditAnswers parts out (Some refusal) → IsOwn refusal
audit_own parts out refusal h = own_by h.result refusal h.end_is

-- ---- status 6

sink_is_6 : (end : Option CommandFault) → IsAuditEnd (Err faults.SinkFault) end → exit_status end ≡ 6
sink_is_6 end (refusal, is, tells) = ap exit_status is ∙ ap status_of tells

quiet_by : (seed files : ℕ) (out : Output) (result : Result ⊤ AuditFault) (end : Option CommandFault) → exit_status end ≢ 6 → IsAuditEnd result end → AuditEnds seed files out result → OutputQuiet out
quiet_by seed files out (Ok done) end ne is h = h.quiet
quiet_by seed files out (Err faults.SinkFault) end ne is h = absurd (ne (sink_is_6 end is))
quiet_by seed files out (Err (faults.Import fault)) end ne is h = h.quiet
quiet_by seed files out (Err (faults.Pack fault)) end ne is h = h.quiet
quiet_by seed files out (Err (faults.Client fault)) end ne is h = h.quiet
quiet_by seed files out (Err (faults.Limit number)) end ne is h = h.quiet
quiet_by seed files out (Err (faults.Differs query)) end ne is h = h.quiet
quiet_by seed files out (Err faults.OutOfMemory) end ne is h = h.quiet

pub audit_quiet : (parts : AuditParts) (out : Output) (end : Option CommandFault) → exit_status end ≢ 6 → AuditAnswers parts out end → OutputQuiet out
audit_quiet parts out end ne h = quiet_by parts.seed parts.files out h.result end ne h.end_is h.ends

-- ---- status 0

audited_by : (seed files : ℕ) (out : Output) (result : Result ⊤ AuditFault) (end : Option CommandFault) → exit_status end ≡ 0 → IsAuditEnd result end → AuditEnds seed files out result → Audited seed files out
audited_by seed files out (Ok done) end e is h = h
audited_by seed files out (Err fault) end e (refusal, is, tells) h = absurd (not_zero refusal (audit_refusal_own fault refusal tells) (sym (ap exit_status is) ∙ e))

pub audited_of : (parts : AuditParts) (out : Output) (end : Option CommandFault) → exit_status end ≡ 0 → AuditAnswers parts out end → Audited parts.seed parts.files out
audited_of parts out end e h = audited_by parts.seed parts.files out h.result end e h.end_is h.ends

-- ---- status 3

denied_by : (parts : AuditParts) (out : Output) (result : Result ⊤ AuditFault) (end : Option CommandFault) → exit_status end ≡ 3 → IsAuditEnd result end → AuditEnds parts.seed parts.files out result → AuditDenied parts out
denied_by parts out (Ok done) end e is h = absurd (differs 0 3 refl (sym (ap exit_status is) ∙ e))
denied_by parts out (Err (faults.Client fault)) end e is h = record { fault = faults.Client fault; denial = tt; ends = h }
denied_by parts out (Err (faults.Differs query)) end e is h = record { fault = faults.Differs query; denial = tt; ends = h }
denied_by parts out (Err (faults.Import fault)) end e (refusal, is, tells) h = absurd (import_refused_never 3 fault refusal (inr refl) tells (sym (ap exit_status is) ∙ e))
denied_by parts out (Err (faults.Pack fault)) end e (refusal, is, tells) h = absurd (pack_refused_never 3 fault refusal (inr refl) tells (sym (ap exit_status is) ∙ e))
denied_by parts out (Err (faults.Limit number)) end e (refusal, is, tells) h = absurd (differs 7 3 refl (sym (ap exit_status is ∙ ap status_of tells) ∙ e))
denied_by parts out (Err faults.SinkFault) end e is h = absurd (differs 6 3 refl (sym (sink_is_6 end is) ∙ e))
denied_by parts out (Err faults.OutOfMemory) end e (refusal, is, tells) h = absurd (differs 8 3 refl (sym (ap exit_status is ∙ ap status_of tells) ∙ e))

pub denied_of : (parts : AuditParts) (out : Output) (end : Option CommandFault) → exit_status end ≡ 3 → AuditAnswers parts out end → AuditDenied parts out
denied_of parts out end e h = denied_by parts out h.result end e h.end_is h.ends

-- ---- want of memory for the words

pub unaudited : (parts : AuditParts) (out : Output) → OutputUntouched out → AuditAnswers parts out (Some refusals.OutOfMemory)
unaudited parts out unput = record {
  result = Err faults.OutOfMemory;
  end_is = (refusals.OutOfMemory, refl, refl);
  ends = record { cause = tt; denial = tt; unput = unput.unput; quiet = unput.quiet };
}
