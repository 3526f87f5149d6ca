-- What is kept of the sections that come in one step.
use Rattle.std.proofs.Common.{◌≡◌, ℕ, List, [], ◌∷◌, ◌++◌, ◌<◌, ◌≤◌, Option, Some, None, length, refl, ap, sym, subst, append-nil, arith}
use Rattle.std.proofs.lemmas.List.Elements.{All-cons, All-nil}
use Rattle.tg_car.specs.declared.fault.CarFault.{CarFault}
use Rattle.tg_car.specs.declared.fault.CarFault.TheVariants as cars
use Rattle.tg_cid.specs.Cid.{CidParts}
use Rattle.tg_cid.specs.Names.{Names}
use Rattle.tg_client.specs.Body.{IsStoppedAt}
use Rattle.tg_client.specs.Ends.{fault_of_car, fault_of_refusal}
use Rattle.tg_client.specs.Keeping.{AreKept, AreKeptAt, AreKeptButLast, AreKeptUntilFault, StoppedKeeping}
use Rattle.tg_client.specs.declared.fault.ClientFault.{ClientFault}
use Rattle.tg_model.specs.Dag.{Section}
use Rattle.tg_model.specs.LimitNumbers.{LimitNumbers}
use Rattle.tg_model.specs.Queries.{QueryParts}
use Rattle.tg_model.specs.Stores.{AreKeptAs, KeepMeaning, Keeping, KeepingQuiet, KeepingRose, Kept, KeptNothing, KeptSame, Store, kept_in}
use Rattle.tg_model.specs.declared.limits.LimitKind.TheVariants as kinds
use Rattle.tg_model_laws.specs.Stores.{MayKeep}
use Rattle.tg_streams.specs.Streams.{Output}
use Rattle.tg_verify.specs.Refusals.{HasNameCause}
use Rattle.tg_verify.specs.declared.fault.Refusal.{Refusal}
use Rattle.tg_verify.specs.declared.fault.Refusal.TheVariants as refusals

-- ---- nothing

pub none_as : (store : Option Store) → AreKeptAs store store []
none_as None = refl
none_as (Some store) = refl

pub none_kept : {K : Type 0} (m : KeepMeaning K) (a : K) → m.kept a a [] → AreKept [] (kept_in m a a)
none_kept m a rests = record { may = All-nil MayKeep; kept = record { moved = rests; stored = none_as (m.stored a) }; quiet = refl }

-- for want of memory
pub same_kept : (keeping : Keeping) → KeptSame keeping → KeepingQuiet keeping → AreKept [] keeping
same_kept keeping same quiet = record {
  may = All-nil MayKeep;
  kept = record { moved = same.moved; stored = subst (λ (store : Option Store). AreKeptAs keeping.stored_old store []) (sym same.stored) (none_as keeping.stored_old) };
  quiet = quiet;
}

-- for a fault of the keeper
pub none_until_fault : (keeping : Keeping) → KeptNothing keeping → KeepingRose keeping → AreKeptUntilFault [] keeping
none_until_fault keeping nothing rose = record {
  may = All-nil MayKeep;
  moved = nothing.moved;
  told = keeping.stored_old;
  stored = none_as keeping.stored_old;
  left = nothing.stored;
  rose = rose;
}

-- since its CID doesn't name the block
pub none_but_last : (section : Section) (keeping : Keeping) → AreKept [] keeping → (Names section.cid section.block → ⊥) → AreKeptButLast (section ∷ []) section.cid keeping
none_but_last section keeping none misnamed = record {
  named = [];
  last = section;
  sections_are = refl;
  kept = none;
  cid_is = refl;
  misnamed = misnamed;
}

-- ---- one section

pub one_kept : (section : Section) (keeping : Keeping) → MayKeep section → Kept (section ∷ []) keeping → KeepingQuiet keeping → AreKept (section ∷ []) keeping
one_kept section keeping may kept quiet = record { may = All-cons MayKeep section [] may (All-nil MayKeep); kept = kept; quiet = quiet }

-- ---- at a refusal

pub car_kept : (fault : CarFault) (sections : List Section) (keeping : Keeping) → AreKept sections keeping → AreKeptAt (fault_of_car fault) sections keeping
car_kept (cars.BadHeader place) sections keeping h = h
car_kept (cars.BadSection place) sections keeping h = h
car_kept (cars.BlockLimit place number) sections keeping h = h
car_kept (cars.Torn place) sections keeping h = h
car_kept cars.OutOfMemory sections keeping h = h

pub refusal_kept : (fault : Refusal) (sections : List Section) (keeping : Keeping) → ((cid : CidParts) → fault ≡ refusals.BadDigest cid → ⊥) → AreKept sections keeping
    → AreKeptAt (fault_of_refusal fault) sections keeping
refusal_kept (refusals.Extra number) sections keeping named h = h
refusal_kept (refusals.Limit kind number) sections keeping named h = h
refusal_kept (refusals.BadDigest cid) sections keeping named h = absurd (named cid refl)
refusal_kept (refusals.WrongBlock want got) sections keeping named h = h
refusal_kept (refusals.BadBlock cid fault) sections keeping named h = h
refusal_kept (refusals.BadSize declared actual) sections keeping named h = h
refusal_kept (refusals.NotFolder segment) sections keeping named h = h
refusal_kept (refusals.NotThere segment) sections keeping named h = h
refusal_kept refusals.SinkFault sections keeping named h = h
refusal_kept (refusals.Truncated want number) sections keeping named h = h
refusal_kept refusals.OutOfMemory sections keeping named h = h

-- a block within the limit isn't too large, and so the CID doesn't name it
pub misnamed_by : (limits : LimitNumbers) (section : Section) (fault : Refusal) → length section.block ≤ limits.block → HasNameCause limits section fault
    → (fault ≡ refusals.BadDigest section.cid) × (Names section.cid section.block → ⊥)
misnamed_by limits section (refusals.Limit kinds.Block number) small h =
    let is : number ≡ limits.block = h.number_is in
    let large : number < length section.block = h.large in
    absurd (omega (arith, small, is, large))
misnamed_by limits section (refusals.BadDigest cid) small h = (ap (λ (c : CidParts). refusals.BadDigest c) h.0, h.1.misnamed)
misnamed_by limits section (refusals.Extra number) small h = absurd h
misnamed_by limits section (refusals.Limit kinds.Depth number) small h = absurd h
misnamed_by limits section (refusals.Limit kinds.Entries number) small h = absurd h
misnamed_by limits section (refusals.Limit kinds.Names number) small h = absurd h
misnamed_by limits section (refusals.Limit kinds.Received number) small h = absurd h
misnamed_by limits section (refusals.Limit kinds.Output number) small h = absurd h
misnamed_by limits section (refusals.Limit kinds.SeenBlocks number) small h = absurd h
misnamed_by limits section (refusals.Limit kinds.SeenBytes number) small h = absurd h
misnamed_by limits section (refusals.Limit kinds.Reused number) small h = absurd h
misnamed_by limits section (refusals.WrongBlock want got) small h = absurd h
misnamed_by limits section (refusals.BadBlock cid fault) small h = absurd h
misnamed_by limits section (refusals.BadSize declared actual) small h = absurd h
misnamed_by limits section (refusals.NotFolder segment) small h = absurd h
misnamed_by limits section (refusals.NotThere segment) small h = absurd h
misnamed_by limits section refusals.SinkFault small h = absurd h
misnamed_by limits section (refusals.Truncated want number) small h = absurd h
misnamed_by limits section refusals.OutOfMemory small h = absurd h

-- nothing of the piece was heard
pub stops_before : (q : QueryParts) (limits : LimitNumbers) (taken : ℕ) (heard piece : List ℕ) (sections : List Section) (written : List ℕ) (out : Output) (keeping : Keeping) (fault : ClientFault)
    → IsStoppedAt q limits taken heard piece sections written out fault → AreKeptAt fault [] keeping → StoppedKeeping q limits taken heard piece sections written out keeping fault
stops_before q limits taken heard piece sections written out keeping fault stopped kept = record {
  front = [];
  unheard = piece;
  whole = refl;
  came = [];
  stopped = subst (λ (s : List Section). IsStoppedAt q limits taken (heard ++ []) piece s written out fault) (sym (append-nil sections))
      (subst (λ (b : List ℕ). IsStoppedAt q limits taken b piece sections written out fault) (sym (append-nil heard)) stopped);
  kept = kept;
}
