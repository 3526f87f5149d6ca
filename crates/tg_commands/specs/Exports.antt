-- `export`: the CAR of a query goes from a pack to out.
use Rattle.std.specs.Prelude.{◌≡◌, ◌⊎◌, ℕ, ⊤, [], ◌∷◌, List, Option, Some, None, Ok, Err, false}
use Rattle.tg_commands.specs.Blocks.{IsTextOf, OutputUntouched}
use Rattle.tg_commands.specs.declared.fault.CommandFault.{CommandFault}
use Rattle.tg_commands.specs.declared.fault.CommandFault.TheVariants as refusals
use Rattle.tg_cid.specs.Cid.{CidParts}
use Rattle.tg_export.specs.Packed.{ExportEnds, HasPackedCause, IsExportedElse, StoreEnds}
use Rattle.tg_export.specs.declared.fault.ExportFault.{ExportFault}
use Rattle.tg_export.specs.declared.fault.ExportFault.TheVariants as faults
use Rattle.tg_faults.specs.Faults.{Rose}
use Rattle.tg_files.specs.Packs.{Did, PackQuiet, PackRose, PackStep, SameContent}
use Rattle.tg_files.specs.Packs.PackWrite.{attach}
use Rattle.tg_model.specs.Dag.{Dag, Section}
use Rattle.tg_model.specs.PathWalk.{whole}
use Rattle.tg_model.specs.Queries.{QueryParts}
use Rattle.tg_model.specs.Stores.{Store}
use Rattle.tg_model.specs.declared.stores.BlocksFault.{BlocksFault}
use Rattle.tg_model.specs.declared.stores.BlocksFault.TheVariants as stores
use Rattle.tg_model_laws.specs.Stores.{Holds}
use Rattle.tg_store.specs.Attaching.{IsAttached}
use Rattle.tg_store.specs.declared.fault.PackFault.{PackFault}
use Rattle.tg_store.specs.declared.fault.PackFault.TheVariants as packs
use Rattle.tg_streams.specs.Streams.{Output}
use Rattle.tg_walk.specs.Walks.{HasEnded, max_depth}
use Rattle.tg_walk.specs.declared.fault.ResolveFault.TheVariants as paths
use Rattle.tg_walk.specs.declared.fault.WalkFault.TheVariants as walks

-- a refusal that shows a CID, by its text in version 1
abbrev pub ShowsCid : (List ℕ → CommandFault) → CidParts → CommandFault → Type 0
ShowsCid of cid refusal = (text : List ℕ) × IsTextOf cid text × (refusal ≡ of text)

-- or memory is wanted for it
abbrev pub ShowsOrWants : (List ℕ → CommandFault) → CidParts → CommandFault → Type 0
ShowsOrWants of cid refusal = ShowsCid of cid refusal ⊎ (refusal ≡ refusals.OutOfMemory)

-- the refusal for a fault of the store
abbrev pub store_refusal : BlocksFault → CommandFault
store_refusal (stores.Changed want got) = refusals.Changed
store_refusal stores.Failed = refusals.PackFault
store_refusal stores.OutOfMemory = refusals.OutOfMemory

-- the refusal for a pack that can't be attached
abbrev pub pack_refusal : PackFault → CommandFault
pack_refusal (packs.NotCar at) = refusals.NotCar at
pack_refusal (packs.BadDigest at) = refusals.BadPack at
pack_refusal packs.Unfinished = refusals.Unfinished
pack_refusal (packs.Truncated at) = refusals.TornPack at
pack_refusal packs.Failed = refusals.PackFault
pack_refusal (packs.BlockLimit at) = refusals.PackLimit at
pack_refusal packs.OutOfMemory = refusals.OutOfMemory

-- the refusal that tells why an export ended: by its kind alone, with its place, segment or CID
abbrev pub TellsExport : ExportFault → CommandFault → Type 0
TellsExport (faults.Pack (packs.NotCar at)) refusal = refusal ≡ refusals.NotCar at
TellsExport (faults.Pack (packs.BadDigest at)) refusal = refusal ≡ refusals.BadPack at
TellsExport (faults.Pack packs.Unfinished) refusal = refusal ≡ refusals.Unfinished
TellsExport (faults.Pack (packs.Truncated at)) refusal = refusal ≡ refusals.TornPack at
TellsExport (faults.Pack packs.Failed) refusal = refusal ≡ refusals.PackFault
TellsExport (faults.Pack (packs.BlockLimit at)) refusal = refusal ≡ refusals.PackLimit at
TellsExport (faults.Pack packs.OutOfMemory) refusal = refusal ≡ refusals.OutOfMemory
TellsExport (faults.Resolve paths.NoRoot) refusal = refusal ≡ refusals.NoRoot
TellsExport (faults.Resolve (paths.NotThere segment)) refusal = refusal ≡ refusals.NotThere segment
TellsExport (faults.Resolve (paths.NotFolder segment)) refusal = refusal ≡ refusals.NotFolder segment
TellsExport (faults.Resolve (paths.BadBlock cid fault)) refusal =
    ShowsCid (λ text. refusals.BadStored text fault) cid refusal
TellsExport (faults.Resolve (paths.Gone cid)) refusal = ShowsCid refusals.Gone cid refusal
TellsExport (faults.Resolve (paths.Store fault)) refusal = refusal ≡ store_refusal fault
TellsExport (faults.Resolve paths.OutOfMemory) refusal = refusal ≡ refusals.OutOfMemory
TellsExport (faults.Walk (walks.NotThere segment)) refusal = refusal ≡ refusals.NotThere segment
TellsExport (faults.Walk (walks.NotFolder segment)) refusal = refusal ≡ refusals.NotFolder segment
TellsExport (faults.Walk (walks.BadBlock cid fault)) refusal =
    ShowsCid (λ text. refusals.BadStored text fault) cid refusal
TellsExport (faults.Walk (walks.Gone cid)) refusal = ShowsCid refusals.Gone cid refusal
TellsExport (faults.Walk walks.TooDeep) refusal = refusal ≡ refusals.TooDeep
TellsExport (faults.Walk (walks.Store fault)) refusal = refusal ≡ store_refusal fault
TellsExport (faults.Walk walks.OutOfMemory) refusal = refusal ≡ refusals.OutOfMemory
TellsExport faults.SinkFault refusal = refusal ≡ refusals.SinkFault
TellsExport faults.OutOfMemory refusal = refusal ≡ refusals.OutOfMemory

-- where the text of a CID has to be shown, memory may be wanted for it
abbrev pub HasCid : ExportFault → Type 0
HasCid (faults.Resolve (paths.BadBlock cid fault)) = ⊤
HasCid (faults.Resolve (paths.Gone cid)) = ⊤
HasCid (faults.Walk (walks.BadBlock cid fault)) = ⊤
HasCid (faults.Walk (walks.Gone cid)) = ⊤
HasCid other = ⊥

-- the refusal of an export that ended with this fault
abbrev pub IsExportRefusal : ExportFault → CommandFault → Type 0
IsExportRefusal fault refusal = TellsExport fault refusal ⊎ (HasCid fault × (refusal ≡ refusals.OutOfMemory))

-- the pack was attached as it stands at a path of the system, and nothing more was done to it
abbrev pub IsAttachedPack : List ℕ → PackStep → Type 0
IsAttachedPack path step = Did (attach path false ∷ []) step

-- the content has the whole traversal, none of it too deep
pub record HasAnswer (q : QueryParts) (content : Option (List ℕ)) : Type 0 where
  pub bytes : List ℕ
  pub told : content ≡ Some bytes
  pub store : Store
  pub attached : IsAttached bytes store
  pub sections : List Section
  pub ended : HasEnded q store max_depth sections whole

-- the content holds the blocks of the DAG
pub record HoldsDag (content : Option (List ℕ)) (d : Dag) : Type 0 where
  pub bytes : List ℕ
  pub told : content ≡ Some bytes
  pub store : Store
  pub attached : IsAttached bytes store
  pub holds : Holds store d

-- it isn't refused so where all of the answer is there
abbrev pub IsNotForMissing : QueryParts → PackStep → ExportFault → Type 0
IsNotForMissing q step fault = HasAnswer q step.content_old → IsExportedElse (Err fault)

-- the export ended with a fault
pub record ExportRefused (path : List ℕ) (q : QueryParts) (step : PackStep) (out : Output) (refusal : CommandFault) : Type 0 where
  pub attached : IsAttachedPack path step
  pub fault : ExportFault
  pub tells : IsExportRefusal fault refusal
  pub ends : ExportEnds q step out (Err fault)
  pub cause : HasPackedCause step (Err fault)
  pub else : IsNotForMissing q step fault

-- the pack can't be attached at its path
pub record NotAttached (step : PackStep) (out : Output) (refusal : CommandFault) : Type 0 where
  pub same : SameContent step
  pub rose : PackRose step
  pub unput : OutputUntouched out
  pub is : refusal ≡ refusals.PackFault

-- it was done
pub record Exported (path : List ℕ) (q : QueryParts) (step : PackStep) (out : Output) : Type 0 where
  pub attached : IsAttachedPack path step
  pub done : ⊤
  pub ends : StoreEnds q step.content_old out (Ok done)
  pub quiet : PackQuiet step

-- nothing was done for want of memory
pub record ExportUnbegun (same_pack : Type 0) (out : Output) (refusal : CommandFault) : Type 0 where
  pub same : same_pack
  pub unput : OutputUntouched out
  pub is : refusal ≡ refusals.OutOfMemory

-- how `export` from the pack at a path of the system ends
abbrev pub ExportAnswers : List ℕ → QueryParts → PackStep → Type 0 → Output → Option CommandFault → Type 0
ExportAnswers path q step same_pack out None = Exported path q step out
ExportAnswers path q step same_pack out (Some refusal) =
    ExportRefused path q step out refusal ⊎ (NotAttached step out refusal ⊎ ExportUnbegun same_pack out refusal)

-- the path leads nowhere
abbrev pub LeadsNowhere : ExportFault → Type 0
LeadsNowhere (faults.Resolve paths.NoRoot) = ⊤
LeadsNowhere (faults.Resolve (paths.NotThere segment)) = ⊤
LeadsNowhere (faults.Resolve (paths.NotFolder segment)) = ⊤
LeadsNowhere (faults.Walk (walks.NotThere segment)) = ⊤
LeadsNowhere (faults.Walk (walks.NotFolder segment)) = ⊤
LeadsNowhere other = ⊥

-- `export` at status 9: the path leads nowhere
pub record ExportedNothing (q : QueryParts) (step : PackStep) (out : Output) : Type 0 where
  pub fault : ExportFault
  pub nowhere : LeadsNowhere fault
  pub ends : ExportEnds q step out (Err fault)

-- a fault of the pack was counted
abbrev pub IsRisen : PackStep → Type 0
IsRisen step = Rose step.faults_old step.faults_new
