-- A store that is looked up in, from one moment to the next, and the causes of a CAR's end.
use Rattle.std.proofs.Common.{Err, List, Ok, Option, [], inl, inr, refl, subst, ℕ, ◌++◌, ◌∙◌, ◌≡◌}
use Rattle.std.proofs.lemmas.List.Elements.{All-append, All-nil}
use Rattle.std.specs.Prelude.{Result, ⊤, ◌⊎◌}
use Rattle.tg_cid.specs.Cid.{CidParts}
use Rattle.tg_cid.specs.declared.cid.HashKind.TheVariants.{Sha256}
use Rattle.tg_export.specs.Cars.{HasCarCause, HasStoreFault, PutNothing, fault_of_path, fault_of_walk}
use Rattle.tg_export.specs.declared.fault.ExportFault.{ExportFault}
use Rattle.tg_export.specs.declared.fault.ExportFault.TheVariants as faults
use Rattle.tg_model.specs.Queries.{QueryParts}
use Rattle.tg_model.specs.Stores.{BlocksMeaning, IsCauseOf, Lookups, LookupsQuiet, Store, looked_in}
use Rattle.tg_model.specs.declared.stores.BlocksFault.{BlocksFault}
use Rattle.tg_model.specs.declared.stores.BlocksFault.TheVariants as store_faults
use Rattle.tg_streams.specs.Streams.{SinkMeaning, into}
use Rattle.tg_walk.specs.Resolving.{HasResolveCause}
use Rattle.tg_walk.specs.Walks.{HasLookedUp, HasStoreCause, HaveLookedUp}
use Rattle.tg_walk.specs.declared.fault.ResolveFault.{ResolveFault}
use Rattle.tg_walk.specs.declared.fault.ResolveFault.TheVariants as refusals
use Rattle.tg_walk.specs.declared.fault.WalkFault.{WalkFault}
use Rattle.tg_walk.specs.declared.fault.WalkFault.TheVariants as walks

-- ---- sinks

pub puts_nothing : {S : Type 0} (m : SinkMeaning S) (a : S) → m.wrote a a [] → PutNothing (into m a a)
puts_nothing m a rests = record { unput = record { moved = rests; held = refl }; quiet = refl }

-- ---- stores

-- CIDs were looked up, and no fault was counted
pub record HasLooked (lookups : Lookups) : Type 0 where
  pub up : HaveLookedUp lookups
  pub quiet : LookupsQuiet lookups

abbrev pub LooksJoin : (S : Type 0) → BlocksMeaning S → Type 0
LooksJoin S m = (a b c : S) (u v : List CidParts) → m.looked a b u → m.looked b c v → m.looked a c (u ++ v)

pub looks_nothing : {S : Type 0} (m : BlocksMeaning S) (a : S) → m.looked a a [] → HasLooked (looked_in m a a)
looks_nothing m a rests = record { up = record { cids = []; looked = record { moved = rests; stored = refl }; hashed = All-nil (λ (cid : CidParts). cid.hash ≡ Sha256) }; quiet = refl }

pub looks_both : {S : Type 0} (m : BlocksMeaning S) (a b c : S) → LooksJoin S m → HaveLookedUp (looked_in m a b) → HaveLookedUp (looked_in m b c) → HaveLookedUp (looked_in m a c)
looks_both m a b c joins p q = record {
  cids = p.cids ++ q.cids;
  looked = record { moved = joins a b c p.cids q.cids p.looked.moved q.looked.moved; stored = q.looked.stored ∙ p.looked.stored };
  hashed = All-append (λ (cid : CidParts). cid.hash ≡ Sha256) p.cids q.cids p.hashed q.hashed;
}

-- a walk's look-ups, told alone
pub looked_by : (q : QueryParts) (result : Result (Option (CidParts × List ℕ)) WalkFault) (lookups : Lookups) → HasLookedUp q result lookups → HaveLookedUp lookups
looked_by q result lookups p = record { cids = p.cids; looked = p.looked; hashed = p.hashed }

pub looks_on : {S : Type 0} (m : BlocksMeaning S) (a b c : S) → LooksJoin S m → HasLooked (looked_in m a b) → HaveLookedUp (looked_in m b c) → LookupsQuiet (looked_in m b c) → HasLooked (looked_in m a c)
looks_on m a b c joins p q quiet = record { up = looks_both m a b c joins p.up q; quiet = quiet ∙ p.quiet }

-- ---- causes

-- the cause of a fault behind look-ups that counted none
cause_since : {S : Type 0} (m : BlocksMeaning S) (a b c : S) (cid : CidParts) (fault : BlocksFault) → HasLooked (looked_in m a b)
    → IsCauseOf (m.stored b) cid (m.faults b) (m.faults c) fault → IsCauseOf (m.stored a) cid (m.faults a) (m.faults c) fault
cause_since m a b c cid fault p q =
    subst (λ (told : Option Store). IsCauseOf told cid (m.faults a) (m.faults c) fault) p.up.looked.stored
    (subst (λ (n : ℕ). IsCauseOf (m.stored b) cid n (m.faults c) fault) p.quiet q)

pub path_cause : (told : Option Store) (lookups : Lookups) (fault : ResolveFault) → HasResolveCause (Err fault) told lookups → HasCarCause told lookups (Err (fault_of_path fault))
path_cause told lookups refusals.NoRoot h = h
path_cause told lookups (refusals.NotThere i) h = h
path_cause told lookups (refusals.NotFolder i) h = h
path_cause told lookups (refusals.BadBlock cid fault) h = h
path_cause told lookups (refusals.Gone cid) h = h
path_cause told lookups (refusals.Store (store_faults.Changed want got)) h = h
path_cause told lookups (refusals.Store store_faults.Failed) h = h
path_cause told lookups (refusals.Store store_faults.OutOfMemory) h = h.1
path_cause told lookups refusals.OutOfMemory h = h

pub walk_cause : {S : Type 0} (m : BlocksMeaning S) (a b c : S) (fault : WalkFault) → HasLooked (looked_in m a b) → HasStoreCause (Err fault) (m.stored b) (looked_in m b c)
    → HasCarCause (m.stored a) (looked_in m a c) (Err (fault_of_walk fault))
walk_cause m a b c (walks.BadBlock cid fault) p h = h ∙ p.quiet
walk_cause m a b c (walks.Gone cid) p h = h ∙ p.quiet
walk_cause m a b c walks.TooDeep p h = h ∙ p.quiet
walk_cause m a b c (walks.Store (store_faults.Changed want got)) p h = (h.0, cause_since m a b c h.0 (store_faults.Changed want got) p h.1)
walk_cause m a b c (walks.Store store_faults.Failed) p h = (h.0, cause_since m a b c h.0 store_faults.Failed p h.1)
walk_cause m a b c (walks.Store store_faults.OutOfMemory) p h = h.1 ∙ p.quiet
walk_cause m a b c (walks.NotThere i) p h = h ∙ p.quiet
walk_cause m a b c (walks.NotFolder i) p h = h ∙ p.quiet
walk_cause m a b c walks.OutOfMemory p h = h ∙ p.quiet

-- out fails, behind a fault of the store or none
sink_cause_since : {S : Type 0} (m : BlocksMeaning S) (a b c : S) → HasLooked (looked_in m a b) → LookupsQuiet (looked_in m b c) ⊎ HasStoreFault (m.stored b) (looked_in m b c)
    → LookupsQuiet (looked_in m a c) ⊎ HasStoreFault (m.stored a) (looked_in m a c)
sink_cause_since m a b c p (inl quiet) = inl (quiet ∙ p.quiet)
sink_cause_since m a b c p (inr h) = inr (record { cid = h.cid; fault = h.fault; cause = cause_since m a b c h.cid h.fault p h.cause })

pub car_cause : {S : Type 0} (m : BlocksMeaning S) (a b c : S) (end : Result ⊤ ExportFault) → HasLooked (looked_in m a b) → HasCarCause (m.stored b) (looked_in m b c) end
    → HasCarCause (m.stored a) (looked_in m a c) end
car_cause m a b c (Ok done) p h = h ∙ p.quiet
car_cause m a b c (Err (faults.Pack fault)) p h = h ∙ p.quiet
car_cause m a b c (Err faults.SinkFault) p h = sink_cause_since m a b c p h
car_cause m a b c (Err faults.OutOfMemory) p h = h ∙ p.quiet
car_cause m a b c (Err (faults.Resolve refusals.NoRoot)) p h = h ∙ p.quiet
car_cause m a b c (Err (faults.Resolve (refusals.NotThere i))) p h = h ∙ p.quiet
car_cause m a b c (Err (faults.Resolve (refusals.NotFolder i))) p h = h ∙ p.quiet
car_cause m a b c (Err (faults.Resolve (refusals.BadBlock cid fault))) p h = h ∙ p.quiet
car_cause m a b c (Err (faults.Resolve (refusals.Gone cid))) p h = h ∙ p.quiet
car_cause m a b c (Err (faults.Resolve (refusals.Store fault))) p h = (h.0, cause_since m a b c h.0 fault p h.1)
car_cause m a b c (Err (faults.Resolve refusals.OutOfMemory)) p h = h ∙ p.quiet
car_cause m a b c (Err (faults.Walk (walks.BadBlock cid fault))) p h = h ∙ p.quiet
car_cause m a b c (Err (faults.Walk (walks.Gone cid))) p h = h ∙ p.quiet
car_cause m a b c (Err (faults.Walk walks.TooDeep)) p h = h ∙ p.quiet
car_cause m a b c (Err (faults.Walk (walks.Store fault))) p h = (h.0, cause_since m a b c h.0 fault p h.1)
car_cause m a b c (Err (faults.Walk (walks.NotThere i))) p h = h ∙ p.quiet
car_cause m a b c (Err (faults.Walk (walks.NotFolder i))) p h = h ∙ p.quiet
car_cause m a b c (Err (faults.Walk walks.OutOfMemory)) p h = h ∙ p.quiet

-- whatever ended the CAR, out then failed
pub sink_cause : (told : Option Store) (lookups : Lookups) (end : Result ⊤ ExportFault) → HasCarCause told lookups end → HasCarCause told lookups (Err faults.SinkFault)
sink_cause told lookups (Ok done) h = inl h
sink_cause told lookups (Err (faults.Pack fault)) h = inl h
sink_cause told lookups (Err faults.SinkFault) h = h
sink_cause told lookups (Err faults.OutOfMemory) h = inl h
sink_cause told lookups (Err (faults.Resolve refusals.NoRoot)) h = inl h
sink_cause told lookups (Err (faults.Resolve (refusals.NotThere i))) h = inl h
sink_cause told lookups (Err (faults.Resolve (refusals.NotFolder i))) h = inl h
sink_cause told lookups (Err (faults.Resolve (refusals.BadBlock cid fault))) h = inl h
sink_cause told lookups (Err (faults.Resolve (refusals.Gone cid))) h = inl h
sink_cause told lookups (Err (faults.Resolve (refusals.Store fault))) h = inr (record { cid = h.0; fault = fault; cause = h.1 })
sink_cause told lookups (Err (faults.Resolve refusals.OutOfMemory)) h = inl h
sink_cause told lookups (Err (faults.Walk (walks.BadBlock cid fault))) h = inl h
sink_cause told lookups (Err (faults.Walk (walks.Gone cid))) h = inl h
sink_cause told lookups (Err (faults.Walk walks.TooDeep)) h = inl h
sink_cause told lookups (Err (faults.Walk (walks.Store fault))) h = inr (record { cid = h.0; fault = fault; cause = h.1 })
sink_cause told lookups (Err (faults.Walk (walks.NotThere i))) h = inl h
sink_cause told lookups (Err (faults.Walk (walks.NotFolder i))) h = inl h
sink_cause told lookups (Err (faults.Walk walks.OutOfMemory)) h = inl h
