-- A query's answer over a store as a CAR (CARv1 specification, Header and Data; Trustless Gateway specification, CAR
-- responses).
use Rattle.std.specs.Prelude.{All, Err, IfSome, List, Ok, Option, Result, map, ⊤, ℕ, ◌++◌, ◌≡◌, ◌≤◌, ◌⊎◌, length}
use Rattle.tg_car.specs.CarText.{SectionsText}
use Rattle.tg_car.specs.Writing.{HeaderOf}
use Rattle.tg_cid.specs.Cid.{CidParts}
use Rattle.tg_cid.specs.Limits.{max_block_len}
use Rattle.tg_cid.specs.Names.{Names}
use Rattle.tg_export.specs.declared.fault.ExportFault.{ExportFault}
use Rattle.tg_export.specs.declared.fault.ExportFault.TheVariants as faults
use Rattle.tg_model.specs.Dag.{Section}
use Rattle.tg_model.specs.PathWalk.{whole}
use Rattle.tg_model.specs.Queries.{QueryParts}
use Rattle.tg_model.specs.Stores.{IsCauseOf, Lookups, LookupsQuiet, Store}
use Rattle.tg_model.specs.declared.stores.BlocksFault.{BlocksFault}
use Rattle.tg_model.specs.declared.stores.BlocksFault.TheVariants as store_faults
use Rattle.tg_store.specs.Packs.{in_car}
use Rattle.tg_store.specs.declared.fault.PackFault.TheVariants as pack_faults
use Rattle.tg_streams.specs.Streams.{Output, OutputQuiet, Put, PutFront, Unput}
use Rattle.tg_walk.specs.Resolving.{IsResolvedTo}
use Rattle.tg_walk.specs.Walks.{HasEnded, HasWalkCause, IsFront, max_depth}
use Rattle.tg_walk.specs.declared.fault.ResolveFault.{ResolveFault}
use Rattle.tg_walk.specs.declared.fault.ResolveFault.TheVariants as refusals
use Rattle.tg_walk.specs.declared.fault.WalkFault.{WalkFault}
use Rattle.tg_walk.specs.declared.fault.WalkFault.TheVariants as walks

-- the CAR with this root, in its version 1 form, and these sections
pub record IsCarOf (root : CidParts) (sections : List Section) (bytes : List ℕ) : Type 0 where
  pub header : List ℕ
  pub rest : List ℕ
  pub whole : bytes ≡ header ++ rest
  pub header_is : HeaderOf root header
  pub sections_are : SectionsText (map in_car sections) rest

-- a section's CID names its block, which is no larger than a block may be
pub record IsGoodSection (section : Section) : Type 0 where
  pub named : Names section.cid section.block
  pub small : length section.block ≤ max_block_len

-- the CAR of the root and of named blocks, of which this holds over the store, as far as it is told, and with which
-- this was done
pub record HasCar (root : CidParts) (told : Option Store) (holds : Store → List Section → Type 0) (done : List ℕ → Type 0) : Type 0 where
  pub sections : List Section
  pub bytes : List ℕ
  pub named : All IsGoodSection sections
  pub car : IsCarOf root sections bytes
  pub is_so : IfSome told (λ store. holds store sections)
  pub is_done : done bytes

-- the bytes were put, and no fault of out was counted
pub record PutWhole (out : Output) (bytes : List ℕ) : Type 0 where
  pub put : Put bytes out
  pub quiet : OutputQuiet out

-- nothing was put, and no fault of out was counted
pub record PutNothing (out : Output) : Type 0 where
  pub unput : Unput out
  pub quiet : OutputQuiet out

-- the path leads to a stored block
pub record HasResolved (store : Store) (q : QueryParts) : Type 0 where
  pub cid : CidParts
  pub leads : IsResolvedTo store q.root q.path (Ok cid)

-- how a query's CAR over a store ends: the CAR of the traversal; or, without a byte, where the path leads nowhere; or
-- the CAR of a front of the traversal, with the cause of the walk's end; or out failed in the CAR of a front
abbrev pub CarEnds : QueryParts → Option Store → Output → Result ⊤ ExportFault → Type 0
CarEnds q told out (Ok done) =
    HasCar q.root told (λ store sections. HasResolved store q × HasEnded q store max_depth sections whole) (PutWhole out)
CarEnds q told out (Err (faults.Resolve fault)) =
    PutNothing out × IfSome told (λ store. IsResolvedTo store q.root q.path (Err fault))
CarEnds q told out (Err (faults.Walk fault)) =
    HasCar q.root told (λ store sections. HasResolved store q × HasWalkCause q store max_depth sections fault) (PutWhole out)
CarEnds q told out (Err faults.SinkFault) =
    HasCar q.root told (λ store sections. HasResolved store q × IsFront q store sections) (λ bytes. PutFront bytes out)
CarEnds q told out (Err faults.OutOfMemory) =
    PutNothing out ⊎ HasCar q.root told (λ store sections. HasResolved store q × IsFront q store sections) (PutWhole out)
CarEnds q told out (Err (faults.Pack fault)) = ⊥

-- a fault of the store was counted, or a stored block isn't any more what it was
pub record HasStoreFault (told : Option Store) (lookups : Lookups) : Type 0 where
  pub cid : CidParts
  pub fault : BlocksFault
  pub cause : IsCauseOf told cid lookups.faults_old lookups.faults_new fault

-- a fault of the store comes as it came, but where out then fails in what was gathered before it; no other end hides one
abbrev pub HasCarCause : Option Store → Lookups → Result ⊤ ExportFault → Type 0
HasCarCause told lookups (Err (faults.Resolve (refusals.Store fault))) =
    (cid : CidParts) × IsCauseOf told cid lookups.faults_old lookups.faults_new fault
HasCarCause told lookups (Err (faults.Walk (walks.Store fault))) =
    (cid : CidParts) × IsCauseOf told cid lookups.faults_old lookups.faults_new fault
HasCarCause told lookups (Err faults.SinkFault) = LookupsQuiet lookups ⊎ HasStoreFault told lookups
HasCarCause told lookups end = LookupsQuiet lookups

-- where the whole traversal can be given, no end comes but it, a counted fault, or want of memory
abbrev pub IsOtherwiseWhole : Result ⊤ ExportFault → Type 0
IsOtherwiseWhole (Ok done) = ⊤
IsOtherwiseWhole (Err faults.SinkFault) = ⊤
IsOtherwiseWhole (Err faults.OutOfMemory) = ⊤
IsOtherwiseWhole (Err (faults.Resolve (refusals.Store store_faults.Failed))) = ⊤
IsOtherwiseWhole (Err (faults.Walk (walks.Store store_faults.Failed))) = ⊤
IsOtherwiseWhole (Err other) = ⊥

-- no inner fault is want of memory
abbrev pub HasOwnMemory : Result ⊤ ExportFault → Type 0
HasOwnMemory (Err (faults.Pack pack_faults.OutOfMemory)) = ⊥
HasOwnMemory (Err (faults.Resolve refusals.OutOfMemory)) = ⊥
HasOwnMemory (Err (faults.Resolve (refusals.Store store_faults.OutOfMemory))) = ⊥
HasOwnMemory (Err (faults.Walk walks.OutOfMemory)) = ⊥
HasOwnMemory (Err (faults.Walk (walks.Store store_faults.OutOfMemory))) = ⊥
HasOwnMemory end = ⊤

-- a refusal of a path, and of a walk; want of memory is the export's own
abbrev pub fault_of_path : ResolveFault → ExportFault
fault_of_path refusals.OutOfMemory = faults.OutOfMemory
fault_of_path (refusals.Store store_faults.OutOfMemory) = faults.OutOfMemory
fault_of_path fault = faults.Resolve fault

abbrev pub fault_of_walk : WalkFault → ExportFault
fault_of_walk walks.OutOfMemory = faults.OutOfMemory
fault_of_walk (walks.Store store_faults.OutOfMemory) = faults.OutOfMemory
fault_of_walk fault = faults.Walk fault
