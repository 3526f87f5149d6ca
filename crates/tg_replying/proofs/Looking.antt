-- A store that is looked up in from one moment to the next, and what came of it where a walk gives no more.
use Rattle.std.proofs.Common.{Err, List, Option, Some, [], refl, subst, ℕ, ◌++◌, ◌∙◌, ◌≡◌}
use Rattle.std.proofs.lemmas.List.Elements.{All-append, All-nil}
use Rattle.std.specs.Prelude.{Result}
use Rattle.tg_cid.specs.Cid.{CidParts}
use Rattle.tg_cid.specs.declared.cid.HashKind.TheVariants.{Sha256}
use Rattle.tg_model.specs.Queries.{QueryParts}
use Rattle.tg_model.specs.Stores.{BlocksMeaning, IsCauseOf, Lookups, LookupsQuiet, Store, looked_in}
use Rattle.tg_model.specs.declared.stores.BlocksFault.{BlocksFault}
use Rattle.tg_replying.specs.Bodies.{HasEndCause}
use Rattle.tg_walk.specs.Walks.{HasLookedUp, HasStoreCause, HaveLookedUp}
use Rattle.tg_walk.specs.declared.fault.WalkFault.{WalkFault}
use Rattle.tg_walk.specs.declared.fault.WalkFault.TheVariants as walks

-- CIDs were looked up, and no fault was counted
pub record HasLooked (lookups : Lookups) : Type 0 where
  pub up : HaveLookedUp lookups
  pub quiet : LookupsQuiet lookups

abbrev pub LooksJoin : (S : Type 0) → BlocksMeaning S → Type 0
LooksJoin S m = (a b c : S) (u v : List CidParts) → m.looked a b u → m.looked b c v → m.looked a c (u ++ v)

pub looks_nothing : {S : Type 0} (m : BlocksMeaning S) (a : S) → m.looked a a [] → HasLooked (looked_in m a a)
looks_nothing m a rests = record {
  up = record {
    cids = [];
    looked = record { moved = rests; stored = refl };
    hashed = All-nil (λ (cid : CidParts). cid.hash ≡ Sha256);
  };
  quiet = refl;
}

pub looks_both : {S : Type 0} (m : BlocksMeaning S) (a b c : S) → LooksJoin S m → HaveLookedUp (looked_in m a b)
    → HaveLookedUp (looked_in m b c) → HaveLookedUp (looked_in m a c)
looks_both m a b c joins p q = record {
  cids = p.cids ++ q.cids;
  looked = record {
    moved = joins a b c p.cids q.cids p.looked.moved q.looked.moved;
    stored = q.looked.stored
        ∙ p.looked.stored;
  };
  hashed = All-append (λ (cid : CidParts). cid.hash ≡ Sha256) p.cids q.cids p.hashed q.hashed;
}

-- a walk's look-ups, told alone
pub looked_by : (q : QueryParts) (result : Result (Option (CidParts × List ℕ)) WalkFault) (lookups : Lookups)
    → HasLookedUp q result lookups → HaveLookedUp lookups
looked_by q result lookups p = record { cids = p.cids; looked = p.looked; hashed = p.hashed }

pub looks_on : {S : Type 0} (m : BlocksMeaning S) (a b c : S) → LooksJoin S m → HasLooked (looked_in m a b)
    → HaveLookedUp (looked_in m b c) → LookupsQuiet (looked_in m b c) → HasLooked (looked_in m a c)
looks_on m a b c joins p q quiet = record { up = looks_both m a b c joins p.up q; quiet = quiet ∙ p.quiet }

-- the cause of a fault behind look-ups that counted none
cause_since : {S : Type 0} (m : BlocksMeaning S) (a b c : S) (cid : CidParts) (fault : BlocksFault)
    → HasLooked (looked_in m a b)
    → IsCauseOf (m.stored b) cid (m.faults b) (m.faults c) fault → IsCauseOf (m.stored a) cid (m.faults a) (m.faults
    c) fault
cause_since m a b c cid fault p q =
    subst (λ (told : Option Store). IsCauseOf told cid (m.faults a) (m.faults c) fault) p.up.looked.stored
    (subst (λ (n : ℕ). IsCauseOf (m.stored b) cid n (m.faults c) fault) p.quiet q)

pub end_cause : {S : Type 0} (m : BlocksMeaning S) (a b c : S) (fault : WalkFault) → HasLooked (looked_in m a b)
    → HasStoreCause (Err fault) (m.stored b) (looked_in m b c)
    → HasEndCause (m.stored a) (looked_in m a c) (Some fault)
end_cause m a b c (walks.BadBlock cid fault) p h = h ∙ p.quiet
end_cause m a b c (walks.Gone cid) p h = h ∙ p.quiet
end_cause m a b c walks.TooDeep p h = h ∙ p.quiet
end_cause m a b c (walks.Store fault) p h = (h.0, cause_since m a b c h.0 fault p h.1)
end_cause m a b c (walks.NotThere i) p h = h ∙ p.quiet
end_cause m a b c (walks.NotFolder i) p h = h ∙ p.quiet
end_cause m a b c walks.OutOfMemory p h = h ∙ p.quiet
