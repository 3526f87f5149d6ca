-- Copies of blocks, and what is sought among them.
use Rattle.std.proofs.Common.{◌≡◌, Bool, true, Err, IfOk, IfSome, List, MatchResult, Ok, OnErr, OnOk, Option, Result, Some, None, [], ◌∷◌, ◌⊎◌, ap, inl, inr, sym, subst, ◌∙◌, ℕ, Contains}
use Rattle.std.specs.Map.{lookup}
use Rattle.lru.proofs.CallerLemmas.{Contains-lookup, Contains-promoted, Contains-put_entries}
use Rattle.lru.specs.LruCache.{LruCache, lru_cache, promoted, put_entries}
use Rattle.tg_cid.specs.Cid.{CidParts}
use Rattle.tg_lanes.specs.Caches.{AreStored, CachedState, cached_blocks, none_left, passed, taken}
use Rattle.tg_lanes.specs.CacheLaws.{gotten_of_form}
use Rattle.tg_model.specs.Stores.{BlocksMeaning, IsGotten, IsToldStore, LookedUp, Store, as_v1, looked_in}
use Rattle.tg_model.specs.declared.stores.BlocksFault.{BlocksFault}

-- a copy that is used is still a copy
pub promoted_stored : (told : Option Store) (test : CidParts → Bool) (kept now : List (CidParts × List ℕ)) → now ≡ promoted test kept
    → AreStored told kept → AreStored told now
promoted_stored told test kept now e h cid block c =
    h cid block (Contains-promoted test kept (cid, block) (subst (λ (l : List (CidParts × List ℕ)). Contains l (cid, block)) e c))

-- what is found is gotten
pub found_gotten : (told : Option Store) (test : CidParts → Bool) (kept : List (CidParts × List ℕ)) (form cid : CidParts) (block : List ℕ) → IsToldStore told
    → ((k : CidParts) → test k ≡ true → form ≡ k) → form ≡ as_v1 cid → lookup test kept ≡ Some block → AreStored told kept → IsGotten told cid (Some block)
found_gotten told test kept form cid block is means v1 found h =
    let there = Contains-lookup test kept block found in
    let key : there.0 ≡ as_v1 cid = sym (means there.0 there.2) ∙ v1 in
    gotten_of_form told cid block is (subst (λ (k : CidParts). IsGotten told k (Some block)) key (h there.0 block there.1))

pub copy_gotten : (result : Result (Option (List ℕ)) BlocksFault) (block : List ℕ) (P : List ℕ → Type 0) (fault : BlocksFault)
    → MatchResult result (λ found. found ≡ Some block) (λ f. f ≡ fault) → P block → IfOk result (λ found. IfSome found P)
copy_gotten (Ok (Some b)) block P fault e p = let same : block ≡ b = cc in subst P same p
copy_gotten (Ok None) block P fault e p = tt
copy_gotten (Err f) block P fault e p = tt

-- a copy that is kept besides
pub put_stored : {R E : Type 0} (result : Result R E) (told : Option Store) (eq : CidParts → CidParts → Bool) (old new : LruCache CidParts (List ℕ)) (key : CidParts) (block : List ℕ)
    → ((a b : CidParts) → eq a b ≡ true → a ≡ b)
    → OnOk result (new ≡ lru_cache (put_entries eq old key block) old.cap) → OnErr result (new ≡ old)
    → IsGotten told key (Some block) → AreStored told old.entries → AreStored told new.entries
put_stored (Ok r) told eq old new key block means put same gotten h cid other c =
    elim (Contains-put_entries eq old key block (cid, other) (subst (λ (n : LruCache CidParts (List ℕ)). Contains n.entries (cid, other)) put c)) [
      | inl was ↦ h cid other was
      | inr is ↦ subst (λ (b : List ℕ). IsGotten told cid (Some b)) (sym is.0) (by is.1)
    ]
  where
    by : (cid ≡ key) ⊎ ((w : List ℕ) × Contains old.entries (cid, w) × (eq key cid ≡ true)) → IsGotten told cid (Some block)
    by (inl e) = subst (λ (k : CidParts). IsGotten told k (Some block)) (sym e) gotten
    by (inr found) = subst (λ (k : CidParts). IsGotten told k (Some block)) (means key cid found.2) gotten
put_stored (Err e) told eq old new key block means put same gotten h cid other c =
    h cid other (subst (λ (n : LruCache CidParts (List ℕ)). Contains n.entries (cid, other)) same c)

pub on_err : {R E X : Type 0} (result : Result R E) → X → OnErr result X
on_err (Ok r) x = tt
on_err (Err e) x = x

module _ {B : Type 0} (m : BlocksMeaning B) (a b : CachedState B) where
  -- nothing was sought in the store
  pub sought_none : ((s : B) → m.looked s s []) → b.blocks ≡ a.blocks → b.room ≡ a.room → LookedUp [] (looked_in (cached_blocks m) a b)
  sought_none rests same room = record {
    moved = record { sought = []; among = none_left; moved = subst (λ (s : B). m.looked a.blocks s []) (sym same) (rests a.blocks); same_room = room };
    stored = ap m.stored same;
  }

  -- a copy was found
  pub sought_copy : ((s : B) → m.looked s s []) → b.blocks ≡ a.blocks → b.room ≡ a.room → (cid : CidParts) → LookedUp (cid ∷ []) (looked_in (cached_blocks m) a b)
  sought_copy rests same room cid = record {
    moved = record { sought = []; among = passed cid [] [] none_left; moved = subst (λ (s : B). m.looked a.blocks s []) (sym same) (rests a.blocks); same_room = room };
    stored = ap m.stored same;
  }

  -- the store was asked
  pub sought_there : (between now : B) (cid : CidParts) → between ≡ a.blocks → b.blocks ≡ now → b.room ≡ a.room → LookedUp (cid ∷ []) (looked_in m between now)
      → LookedUp (cid ∷ []) (looked_in (cached_blocks m) a b)
  sought_there between now cid same is room h = record {
    moved = record {
      sought = cid ∷ [];
      among = taken cid [] [] none_left;
      moved = subst (λ (s : B). m.looked a.blocks s (cid ∷ [])) (sym is) (subst (λ (s : B). m.looked s now (cid ∷ [])) same h.moved);
      same_room = room;
    };
    stored = ap m.stored is ∙ h.stored ∙ ap m.stored same;
  }

  -- and gave no answer
  pub sought_failed : (between now : B) → between ≡ a.blocks → b.blocks ≡ now → b.room ≡ a.room → LookedUp [] (looked_in m between now)
      → LookedUp [] (looked_in (cached_blocks m) a b)
  sought_failed between now same is room h = record {
    moved = record {
      sought = [];
      among = none_left;
      moved = subst (λ (s : B). m.looked a.blocks s []) (sym is) (subst (λ (s : B). m.looked s now []) same h.moved);
      same_room = room;
    };
    stored = ap m.stored is ∙ h.stored ∙ ap m.stored same;
  }

-- copies of blocks of a store that tells what it told
pub stored_still : {B : Type 0} (m : BlocksMeaning B) (a b : B) (cids : List CidParts) (kept : List (CidParts × List ℕ)) → LookedUp cids (looked_in m a b)
    → AreStored (m.stored a) kept → AreStored (m.stored b) kept
stored_still m a b cids kept h stored = subst (λ (told : Option Store). AreStored told kept) (sym h.stored) stored
