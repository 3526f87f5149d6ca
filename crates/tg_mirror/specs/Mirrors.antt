-- A DAG that is mirrored: the call to the gateway, and what the pack holds of it (Trustless Gateway specification, CAR
-- responses; CARv1 specification).
use Rattle.std.specs.List.{sum_by}
use Rattle.std.specs.Prelude.{Bool, Err, IfSome, List, None, Ok, Result, [], length, map, true, ℕ, ⊤, ◌++◌, ◌∷◌, ◌≡◌, ◌⊎◌}
use Rattle.tg_car.specs.CarText.{CarText}
use Rattle.tg_cid.specs.Cid.{CidParts}
use Rattle.tg_dials.specs.Dials.{Dialling}
use Rattle.tg_fetch.specs.Calls.{FetchEnds, HeardAnswer, HeardOpen, HeardRefused}
use Rattle.tg_fetch.specs.Keeping.{IsAnswerCar, IsUnasked}
use Rattle.tg_fetch.specs.Laws.{IsOwnFault}
use Rattle.tg_fetch.specs.Received.{HeardIn}
use Rattle.tg_fetch.specs.declared.fault.FetchFault.{FetchFault}
use Rattle.tg_fetch.specs.declared.fault.FetchFault.TheVariants as fetches
use Rattle.tg_files.specs.Packs.{PackQuiet, PackRose, PackStep}
use Rattle.tg_mirror.specs.declared.fault.MirrorFault.{MirrorFault}
use Rattle.tg_mirror.specs.declared.fault.MirrorFault.TheVariants as faults
use Rattle.tg_mirror.specs.declared.mirrored.Mirrored.{Mirrored}
use Rattle.tg_mirror_laws.specs.Mirrored.{CollisionWithin, ServesAs}
use Rattle.tg_model.specs.Dag.{Dag, Section, root_cid}
use Rattle.tg_model.specs.Fits.{CollisionPair}
use Rattle.tg_model.specs.LimitNumbers.{LimitNumbers}
use Rattle.tg_model.specs.Queries.{QueryParts}
use Rattle.tg_model.specs.Sound.{IsSound}
use Rattle.tg_model.specs.Stores.{Store}
use Rattle.tg_model.specs.declared.queries.Form.TheVariants as forms
use Rattle.tg_model.specs.declared.queries.Scope.TheVariants as scopes
use Rattle.tg_store.specs.Attaching.{IsAttached}
use Rattle.tg_store.specs.Entries.{first_of_each}
use Rattle.tg_store.specs.Filling.{IsCarOfRoot}
use Rattle.tg_store.specs.Packs.{in_car, unfinished_root}
use Rattle.tg_store.specs.declared.fault.PackFault.TheVariants as packs
use Rattle.tg_streams.specs.Streams.{Output}
use Rattle.tg_verify.specs.declared.fault.Refusal.TheVariants as refusals

-- the query for all of a root's DAG, each block at each of its places
abbrev pub mirror_query : CidParts → QueryParts
mirror_query root = record { root = root; path = []; form = forms.Car; scope = scopes.All; span = None; dups = true }

-- what the DAG says is dropped
abbrev pub dropped : Output
dropped = record { wrote = λ _. ⊤; held_old = None; held_new = None; faults_old = 0; faults_new = 0 }

-- ---- the call

-- the peer was called once, and its reply was accepted or refused so; where the pack failed it was called and its reply
-- accepted, or the dial was untouched; and memory may be wanted behind an accepted reply
abbrev pub MirrorCalls : CidParts → LimitNumbers → List ℕ → Type 0 → Dialling → Result Mirrored MirrorFault → Type 0
MirrorCalls root limits addr untouched dial (Ok mirrored) = FetchEnds (mirror_query root) limits addr dial dropped (Ok tt)
MirrorCalls root limits addr untouched dial (Err (faults.Pack fault)) =
    untouched ⊎ FetchEnds (mirror_query root) limits addr dial dropped (Ok tt)
MirrorCalls root limits addr untouched dial (Err (faults.Client fetches.OutOfMemory)) =
    FetchEnds (mirror_query root) limits addr dial dropped (Err fetches.OutOfMemory)
    ⊎ FetchEnds (mirror_query root) limits addr dial dropped (Ok tt)
MirrorCalls root limits addr untouched dial (Err (faults.Client fault)) = FetchEnds (mirror_query root) limits addr dial dropped (Err fault)

-- a fault of the pack comes where one was counted, and nowhere else; and none is of a sink
abbrev pub HasMirrorCause : PackStep → Result Mirrored MirrorFault → Type 0
HasMirrorCause step (Err (faults.Pack packs.Failed)) = PackRose step
HasMirrorCause step (Err (faults.Pack fault)) = ⊥
HasMirrorCause step (Err (faults.Client fetches.KeepFault)) = PackRose step
HasMirrorCause step (Err (faults.Client (fetches.Refused refusals.SinkFault))) = ⊥
HasMirrorCause step result = PackQuiet step

-- ---- the pack

-- a CAR with the root, which is attached as a store, and has the block of the first of these sections under each CID with
-- sha2-256; so many are told, and so many bytes
pub record HoldsMirror (root : CidParts) (sections : List Section) (mirrored : Mirrored) (content : List ℕ) : Type 0 where
  pub car : IsCarOfRoot root sections content
  pub attached : (store : Store) × IsAttached content store
  pub blocks : mirrored.blocks ≡ length (first_of_each sections)
  pub bytes : mirrored.bytes ≡ sum_by (λ (section : Section). length section.block) (first_of_each sections)

-- each store that is attached of it, which are alike, has each block of the DAG with sha2-256, and serves as any store that
-- holds the DAG
abbrev pub ServesContent : Dag → List ℕ → Type 0
ServesContent d content = (store : Store) → IsAttached content store → ServesAs store d

-- the reply was accepted, and the pack is the CAR of its sections; and it serves each sound DAG with the root, or a received
-- section and a block of the DAG are a collision pair, or two blocks of the DAG collide
pub record IsMirrored (root : CidParts) (limits : LimitNumbers) (dial : Dialling) (step : PackStep) (mirrored : Mirrored) : Type 0 where
  pub heard : List ℕ
  pub heard_in : HeardIn dial heard
  pub over : Bool
  pub answer : HeardAnswer (mirror_query root) limits heard over dropped
  pub pack : IfSome step.content_new (HoldsMirror root answer.sections mirrored)
  pub serves : (d : Dag) → IsSound d → root_cid d ≡ root
      → IfSome step.content_new (ServesContent d) ⊎ (CollisionPair answer.sections d ⊎ CollisionWithin d)

-- ---- a refusal

-- these of a reply's sections were kept until it was refused: all; or all but the one that its CID doesn't name
abbrev pub AreNamedOf : FetchFault → List Section → List Section → Type 0
AreNamedOf (fetches.Refused (refusals.BadDigest cid)) sections came = (last : Section) × (sections ≡ came ++ last ∷ []) × (last.cid ≡ cid)
AreNamedOf fault sections came = came ≡ sections

-- none where none came, nor of a reply that isn't the answer's CAR
pub data AreKeptOfReply (root : CidParts) (heard : List ℕ) (fault : FetchFault) (sections came : List Section) : Type 0 where
  none : sections ≡ [] → came ≡ [] → AreKeptOfReply root heard fault sections came
  outside : (IsAnswerCar (mirror_query root) heard → ⊥) → came ≡ [] → AreKeptOfReply root heard fault sections came
  inside : IsAnswerCar (mirror_query root) heard → AreNamedOf fault sections came → AreKeptOfReply root heard fault sections came

-- the sections that were kept: none before a reply was heard; those of one that was refused, or of the front that came before
-- the link failed; and all of one that was accepted, behind which memory was wanted
pub data CameUntil (root : CidParts) (limits : LimitNumbers) (dial : Dialling) (fault : FetchFault) (came : List Section) : Type 0 where
  unheard : IsUnasked (Err fault) → came ≡ [] → CameUntil root limits dial fault came
  refused : (heard : List ℕ) (over : Bool) → HeardIn dial heard → (refused : HeardRefused (mirror_query root) limits heard over dropped fault)
      → AreKeptOfReply root refused.front fault refused.sections came → CameUntil root limits dial fault came
  cut_off : (heard : List ℕ) → fault ≡ fetches.PeerFault → HeardIn dial heard → (here : HeardOpen (mirror_query root) limits heard dropped)
      → AreKeptOfReply root heard fault here.sections came → CameUntil root limits dial fault came
  accepted : (heard : List ℕ) (over : Bool) → fault ≡ fetches.OutOfMemory → HeardIn dial heard
      → (answer : HeardAnswer (mirror_query root) limits heard over dropped) → came ≡ answer.sections → CameUntil root limits dial fault came

-- the pack isn't finished, and holds the first of them under each CID
pub record HoldsUntil (root : CidParts) (limits : LimitNumbers) (dial : Dialling) (fault : FetchFault) (content : List ℕ) : Type 0 where
  pub came : List Section
  pub until : CameUntil root limits dial fault came
  pub text : CarText (unfinished_root ∷ []) (map in_car (first_of_each came)) content

-- one that failed where it was begun or finished tells nothing any more
abbrev pub StopsHolding : CidParts → LimitNumbers → Dialling → MirrorFault → List ℕ → Type 0
StopsHolding root limits dial (faults.Client fault) content = HoldsUntil root limits dial fault content
StopsHolding root limits dial (faults.Pack fault) content = ⊥

-- ---- replies that are mirrored

-- but for a fault of the peer or of the pack, and for want of memory
abbrev pub IsMirroredElse : Result Mirrored MirrorFault → Type 0
IsMirroredElse (Ok mirrored) = ⊤
IsMirroredElse (Err (faults.Client fault)) = IsOwnFault fault
IsMirroredElse (Err (faults.Pack fault)) = ⊤
