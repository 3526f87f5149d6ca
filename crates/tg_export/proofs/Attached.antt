-- The store of a pack that was attached, and why one wasn't.
use Rattle.std.proofs.Common.{Err, List, None, Ok, Option, Some, ap, subst, ℕ, ◌≡◌}
use Rattle.std.specs.Prelude.{Result, ⊤}
use Rattle.tg_cid.specs.Cid.{CidParts}
use Rattle.tg_export.specs.Cars.{IsOtherwiseWhole}
use Rattle.tg_export.specs.Packed.{IsExportedElse, fault_of_pack}
use Rattle.tg_export.specs.declared.fault.ExportFault.{ExportFault}
use Rattle.tg_export.specs.declared.fault.ExportFault.TheVariants as faults
use Rattle.tg_files.specs.Packs.{PackStep}
use Rattle.tg_model.specs.Stores.{Store}
use Rattle.tg_store.specs.AttachedPacks.{IsAttachedIn}
use Rattle.tg_store.specs.Attaching.{HasCauseIn, HasPackCause, IsAttached, IsRefusal}
use Rattle.tg_store.specs.declared.fault.PackFault.{PackFault}
use Rattle.tg_store.specs.declared.fault.PackFault.TheVariants as pack_faults

-- stores that are attached of one content are one
abbrev pub AttachAlike : Type 0
AttachAlike = (content : List ℕ) (s t : Store) (cid : CidParts) → IsAttached content s → IsAttached content t → s cid ≡ t cid

-- and no cause holds of that content
abbrev pub AttachSound : Type 0
AttachSound = (content : List ℕ) (store : Store) (fault : PackFault) → IsAttached content store → HasPackCause content fault → ⊥

told_store : (content : List ℕ) (told : Option Store) (store : Store) → AttachAlike → IsAttachedIn (Some content) told → IsAttached content store → told ≡ Some store
told_store content None store same a b = absurd a
told_store content (Some other) store same a b = ap Some (λ i cid. same content other store cid a b i)

pub attached_store : (held : Option (List ℕ)) (content : List ℕ) (told : Option Store) (store : Store) → AttachAlike → held ≡ Some content → IsAttachedIn held told → IsAttached content store → told ≡ Some store
attached_store held content told store same e a b = told_store content told store same (subst (λ (h : Option (List ℕ)). IsAttachedIn h told) e a) b

pub exported_else : (end : Result ⊤ ExportFault) → IsOtherwiseWhole end → IsExportedElse end
exported_else (Ok done) h = h
exported_else (Err (faults.Pack fault)) h = absurd h
exported_else (Err (faults.Resolve fault)) h = h
exported_else (Err (faults.Walk fault)) h = h
exported_else (Err faults.SinkFault) h = h
exported_else (Err faults.OutOfMemory) h = h

no_cause : (step : PackStep) (content : List ℕ) (store : Store) (fault : PackFault) → AttachSound → step.content_old ≡ Some content → IsAttached content store → HasCauseIn step.content_old fault → ⊥
no_cause step content store fault sound e a h = sound content store fault a (subst (λ (held : Option (List ℕ)). HasCauseIn held fault) e h)

pub refused_else : (step : PackStep) (content : List ℕ) (store : Store) (fault : PackFault) → AttachSound → step.content_old ≡ Some content → IsAttached content store → IsRefusal step fault
    → IsExportedElse (Err (fault_of_pack fault))
refused_else step content store (pack_faults.NotCar at) sound e a h = absurd (no_cause step content store (pack_faults.NotCar at) sound e a h.1)
refused_else step content store (pack_faults.BadDigest at) sound e a h = absurd (no_cause step content store (pack_faults.BadDigest at) sound e a h.1)
refused_else step content store pack_faults.Unfinished sound e a h = absurd (no_cause step content store pack_faults.Unfinished sound e a h.1)
refused_else step content store (pack_faults.Truncated at) sound e a h = absurd (no_cause step content store (pack_faults.Truncated at) sound e a h.1)
refused_else step content store pack_faults.Failed sound e a h = tt
refused_else step content store (pack_faults.BlockLimit at) sound e a h = absurd (no_cause step content store (pack_faults.BlockLimit at) sound e a h.1)
refused_else step content store pack_faults.OutOfMemory sound e a h = tt
