-- A query's answer as a CAR from a pack.
use Rattle.std.specs.Prelude.{Err, List, None, Option, Result, ⊤, ℕ, ◌≡◌, ◌⊎◌}
use Rattle.tg_cid.specs.Cid.{CidParts}
use Rattle.tg_export.specs.Cars.{CarEnds, IsOtherwiseWhole, PutNothing}
use Rattle.tg_export.specs.declared.fault.ExportFault.{ExportFault}
use Rattle.tg_export.specs.declared.fault.ExportFault.TheVariants as faults
use Rattle.tg_faults.specs.Faults.{Rose}
use Rattle.tg_files.specs.Packs.{PackQuiet, PackStep}
use Rattle.tg_model.specs.Queries.{QueryParts}
use Rattle.tg_model.specs.Stores.{IsChanged, Store}
use Rattle.tg_model.specs.declared.stores.BlocksFault.{BlocksFault}
use Rattle.tg_model.specs.declared.stores.BlocksFault.TheVariants as store_faults
use Rattle.tg_store.specs.AttachedPacks.{IsAttachedIn, IsGivenFor}
use Rattle.tg_store.specs.Attaching.{IsRefusal}
use Rattle.tg_store.specs.declared.fault.PackFault.{PackFault}
use Rattle.tg_store.specs.declared.fault.PackFault.TheVariants as pack_faults
use Rattle.tg_streams.specs.Streams.{Output}
use Rattle.tg_walk.specs.declared.fault.ResolveFault.TheVariants as refusals
use Rattle.tg_walk.specs.declared.fault.WalkFault.TheVariants as walks

-- the pack was attached as a store, of which the query's CAR ended so
pub record StoreEnds (q : QueryParts) (content : Option (List ℕ)) (out : Output) (end : Result ⊤ ExportFault) : Type 0 where
  pub told : Option Store
  pub attached : IsAttachedIn content told
  pub ends : CarEnds q told out end

-- how an export ends: the pack is refused, and nothing is put; or it is attached
abbrev pub ExportEnds : QueryParts → PackStep → Output → Result ⊤ ExportFault → Type 0
ExportEnds q step out (Err (faults.Pack fault)) = IsRefusal step fault × PutNothing out
ExportEnds q step out (Err faults.OutOfMemory) =
    PutNothing out ⊎ StoreEnds q step.content_old out (Err faults.OutOfMemory)
ExportEnds q step out end = StoreEnds q step.content_old out end

-- the pack failed and counted it, or a stored block isn't any more what it was, which no pack shows that tells its
-- content
abbrev pub IsStoreCause : PackStep → BlocksFault → Type 0
IsStoreCause step (store_faults.Changed want got) =
    (step.content_old ≡ None) × ((cid : CidParts) × IsChanged cid want got) × PackQuiet step
IsStoreCause step store_faults.Failed = Rose step.faults_old step.faults_new
IsStoreCause step store_faults.OutOfMemory = PackQuiet step

-- a fault of the attached store comes as it came, but where out then fails in what was gathered before it; no other end
-- hides a fault of the pack
abbrev pub HasPackedCause : PackStep → Result ⊤ ExportFault → Type 0
HasPackedCause step (Err (faults.Pack fault)) = ⊤
HasPackedCause step (Err (faults.Resolve (refusals.Store fault))) = IsStoreCause step fault
HasPackedCause step (Err (faults.Walk (walks.Store fault))) = IsStoreCause step fault
HasPackedCause step (Err faults.SinkFault) = PackQuiet step ⊎ ((fault : BlocksFault) × IsStoreCause step fault)
HasPackedCause step end = PackQuiet step

-- where a cause of a pack's refusal holds, it comes, or the pack failed or memory was wanted
abbrev pub IsRefusedFor : PackFault → Result ⊤ ExportFault → Type 0
IsRefusedFor fault (Err (faults.Pack given)) = IsGivenFor fault given
IsRefusedFor fault (Err faults.OutOfMemory) = ⊤
IsRefusedFor fault end = ⊥

-- where the whole traversal can be given, no end comes but it, a counted fault, or want of memory
abbrev pub IsExportedElse : Result ⊤ ExportFault → Type 0
IsExportedElse (Err (faults.Pack pack_faults.Failed)) = ⊤
IsExportedElse end = IsOtherwiseWhole end

-- a refusal of a pack; want of memory is the export's own
abbrev pub fault_of_pack : PackFault → ExportFault
fault_of_pack pack_faults.OutOfMemory = faults.OutOfMemory
fault_of_pack fault = faults.Pack fault
