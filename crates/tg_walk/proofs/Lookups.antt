-- What is looked up for the block at a place.
use Rattle.std.proofs.Common.{Err, List, None, Ok, OnOk, Option, Result, Some, [], ap, arith, cond, inl, inr, length, refl, subst, sym, ℕ, ◌∙◌, ◌∷◌, ◌≡◌, ◌≤◌}
use Rattle.std.proofs.lemmas.List.Elements.{All-nil}
use Rattle.tg_cid.specs.Cid.{CidParts}
use Rattle.tg_cid.specs.declared.cid.HashKind.{HashKind}
use Rattle.tg_cid.specs.declared.cid.HashKind.TheVariants.{Identity, Sha256}
use Rattle.tg_model.specs.Stores.{BlocksMeaning, Lookups, LookupsQuiet, looked_in}
use Rattle.tg_model.specs.Traversal.{is_hashed}
use Rattle.tg_model.specs.declared.stores.BlocksFault.{BlocksFault}
use Rattle.tg_model.specs.declared.stores.BlocksFault.TheVariants as store_faults
use Rattle.tg_model_laws.specs.ListFronts.{FrontOf, front-length}
use Rattle.tg_traversal.specs.Left.{LeftState, WantedAt}
use Rattle.tg_traversal.specs.declared.position.Miss.{Miss}
use Rattle.tg_traversal.specs.declared.position.Miss.TheVariants as misses
use Rattle.tg_walk.specs.Walks.{AreFetchedBy, HasFetched, HasLookedOnce, IsAloneIn, IsNextPlace, IsOpened, fault_of_miss, fault_of_store, looked_of}
use Rattle.tg_walk.specs.declared.fault.WalkFault.{WalkFault}
use Rattle.tg_walk.specs.declared.fault.WalkFault.TheVariants as faults

-- ---- of one CID

abbrev looked_by : CidParts → HashKind → List CidParts
looked_by cid hash = cond (is_hashed hash) (cid ∷ []) []

pub looked_hashed : (cid : CidParts) → cid.hash ≡ Sha256 → looked_of (cid ∷ []) ≡ cid ∷ []
looked_hashed cid e = ap (looked_by cid) e

pub looked_none : (cid : CidParts) → cid.hash ≡ Identity → looked_of (cid ∷ []) ≡ []
looked_none cid e = ap (looked_by cid) e

few : (cid : CidParts) (hash : HashKind) → length (looked_by cid hash) ≤ 1
few cid Sha256 = omega arith
few cid Identity = omega arith

pub looked_few : (cid : CidParts) → length (looked_of (cid ∷ [])) ≤ 1
looked_few cid = few cid cid.hash

front_few : (cid : CidParts) (cids : List CidParts) → FrontOf cids (looked_of (cid ∷ [])) → length cids ≤ 1
front_few cid cids h =
    let short : length cids ≤ length (looked_of (cid ∷ [])) = front-length cids (looked_of (cid ∷ [])) h in
    let one : length (looked_of (cid ∷ [])) ≤ 1 = looked_few cid in
    omega (arith, short, one)

-- ---- in a step

on_ok : {T : Type 0} (result : Result T WalkFault) (P : Type 0) → P → OnOk result P
on_ok (Ok done) P p = p
on_ok (Err fault) P p = tt

pub once_nothing : {S : Type 0} (m : BlocksMeaning S) (a : S) (result : Result (Option (CidParts × List ℕ)) WalkFault) → m.looked a a [] → IsAloneIn result [] → HasLookedOnce result (looked_in m a a)
once_nothing m a result rests alone = record {
  cids = [];
  looked = record { moved = rests; stored = refl };
  hashed = All-nil (λ (cid : CidParts). cid.hash ≡ Sha256);
  alone = alone;
  quiet = on_ok result (LookupsQuiet (looked_in m a a)) refl;
}

pub alone_before : (old new : LeftState) (fault : WalkFault) → IsNextPlace old (Err fault) new → IsAloneIn (Err fault) []
alone_before old new fault (inl memory) = subst (λ (f : WalkFault). IsAloneIn (Err f) []) (sym memory) (omega arith)
alone_before old new fault (inr (miss, more, g, t)) = subst (λ (f : WalkFault). IsAloneIn (Err f) []) (sym g) (by miss)
  where
    by : (miss : Miss) → IsAloneIn (Err (fault_of_miss miss)) []
    by (misses.NoEntry i) = refl
    by (misses.NoDirectory i) = refl

failed_alone : (cid : CidParts) (fault : BlocksFault) (cids : List CidParts) → AreFetchedBy cid (Err fault) cids → IsAloneIn (Err (fault_of_store fault)) cids
failed_alone cid (store_faults.Changed want got) cids h = h
failed_alone cid store_faults.Failed cids h = h
failed_alone cid store_faults.OutOfMemory cids h = front_few cid cids h

pub once_failed : (cid : CidParts) (fault : BlocksFault) (lookups : Lookups) → HasFetched cid (Err fault) lookups → HasLookedOnce (Err (fault_of_store fault)) lookups
once_failed cid fault lookups h = record { cids = h.cids; looked = h.looked; hashed = h.hashed; alone = failed_alone cid fault h.cids h.just; quiet = tt }

-- where no block is stored the CID was looked up
pub is_hashed_cid : (hash : HashKind) (digest : List ℕ) (found : Option (List ℕ)) → (hash ≡ Identity → found ≡ Some digest) → found ≡ None → hash ≡ Sha256
is_hashed_cid Sha256 digest found i n = refl
is_hashed_cid Identity digest found i n = absurd (let s = i refl in cc)

pub once_gone : (cid : CidParts) (found : Option (List ℕ)) (lookups : Lookups) → HasFetched cid (Ok found) lookups → (cid.hash ≡ Identity → found ≡ Some cid.digest) → found ≡ None
    → HasLookedOnce (Err (faults.Gone cid)) lookups
once_gone cid found lookups h i n = record {
  cids = h.cids;
  looked = h.looked;
  hashed = h.hashed;
  alone = h.just ∙ looked_hashed cid (is_hashed_cid cid.hash cid.digest found i n);
  quiet = tt;
}

-- a block that can't be opened, or not for want of memory
bad_alone : (old : LeftState) (at : WantedAt) (block : List ℕ) (fault : WalkFault) (new : LeftState) (cids : List CidParts) → IsOpened old at block (Err fault) new → cids ≡ looked_of (at.cid ∷ []) → IsAloneIn (Err fault) cids
bad_alone old at block fault new cids (inl memory) h =
    subst (λ (f : WalkFault). IsAloneIn (Err f) cids) (sym memory) (subst (λ (l : List CidParts). length l ≤ 1) (sym h) (looked_few at.cid))
bad_alone old at block fault new cids (inr (bad, g, there)) h = subst (λ (f : WalkFault). IsAloneIn (Err f) cids) (sym g) h

pub once_bad : (cid : CidParts) (found : Option (List ℕ)) (lookups : Lookups) (old new : LeftState) (at : WantedAt) (block : List ℕ) (fault : WalkFault) → HasFetched cid (Ok found) lookups → at.cid ≡ cid
    → IsOpened old at block (Err fault) new → HasLookedOnce (Err fault) lookups
once_bad cid found lookups old new at block fault h e opened = record {
  cids = h.cids;
  looked = h.looked;
  hashed = h.hashed;
  alone = bad_alone old at block fault new h.cids opened (h.just ∙ ap (λ (c : CidParts). looked_of (c ∷ [])) (sym e));
  quiet = tt;
}
