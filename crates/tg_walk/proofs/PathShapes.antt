-- Which refusals come of a root and a path.
use Rattle.std.proofs.Common.{Err, List, None, Option, Some, [], ap, inl, inr, refl, subst, sym, true, ℕ, ◌+◌, ◌∙◌, ◌≡◌}
use Rattle.std.specs.Prelude.{◌≢◌}
use Rattle.tg_cid.specs.Cid.{CidParts}
use Rattle.tg_cid.specs.declared.cid.HashKind.{HashKind}
use Rattle.tg_cid.specs.declared.cid.HashKind.TheVariants.{Identity, Sha256}
use Rattle.tg_model.specs.Stores.{Store}
use Rattle.tg_model.specs.declared.stores.BlocksFault.{BlocksFault}
use Rattle.tg_model.specs.declared.stores.BlocksFault.TheVariants as store_faults
use Rattle.tg_traversal.specs.Left.{LeftState, WantedAt, tasks_left}
use Rattle.tg_traversal.specs.Places.{missing_of}
use Rattle.tg_traversal.specs.declared.position.Miss.{Miss}
use Rattle.tg_traversal.specs.declared.position.Miss.TheVariants as misses
use Rattle.tg_traversal.specs.declared.position.Wanted.{Wanted}
use Rattle.tg_model_laws.specs.Tasks.{is_read_at, path_want}
use Rattle.tg_walk.proofs.PathSteps.{IsAlong, IsPlaceAlong, no_miss_first, place_then}
use Rattle.tg_walk.specs.Resolving.{HasResolveShape, refusal_of_store, refusal_of_walk}
use Rattle.tg_walk.specs.Walks.{IsNextPlace, IsOpened, fault_of_miss}
use Rattle.tg_walk.specs.declared.fault.WalkFault.{WalkFault}

-- ---- a segment leads nowhere

miss_shape : (root : CidParts) (path : List (List ℕ)) (miss : Miss) → path ≢ [] → HasResolveShape root path (Err (refusal_of_walk (fault_of_miss miss)))
miss_shape root path (misses.NoEntry i) n = n
miss_shape root path (misses.NoDirectory i) n = n

pub before_shape : (root : CidParts) (path : List (List ℕ)) (told : Option Store) (passed : ℕ) (old mid : LeftState) (fault : WalkFault) → IsAlong root path told passed old
    → IsNextPlace old (Err fault) mid → HasResolveShape root path (Err (refusal_of_walk fault))
before_shape root path told passed old mid fault on (inl g) = subst (λ (f : WalkFault). HasResolveShape root path (Err (refusal_of_walk f))) (sym g) _
before_shape root path told passed old mid fault on (inr (miss, more, g, t)) =
    subst (λ (f : WalkFault). HasResolveShape root path (Err (refusal_of_walk f))) (sym g)
    (miss_shape root path miss
    (λ z. no_miss_first (path_want 0 path 1) root (missing_of miss) more (sym (on.first (on.only z)) ∙ sym (place_then (passed + 1) (tasks_left old) on.place) ∙ t)))

-- ---- a block isn't stored

pub store_shape : (root : CidParts) (path : List (List ℕ)) (fault : BlocksFault) → HasResolveShape root path (Err (refusal_of_store fault))
store_shape root path (store_faults.Changed want got) = _
store_shape root path store_faults.Failed = _
store_shape root path store_faults.OutOfMemory = _

hashed : (hash : HashKind) (digest : List ℕ) (found : Option (List ℕ)) → (hash ≡ Identity → found ≡ Some digest) → found ≡ None → hash ≡ Sha256
hashed Sha256 digest found i n = refl
hashed Identity digest found i n = absurd (let s = i refl in cc)

pub no_root_shape : (root : CidParts) (path : List (List ℕ)) (told : Option Store) (passed : ℕ) (mid : LeftState) (wanted : Wanted) (found : Option (List ℕ))
    → IsPlaceAlong root path told passed mid wanted → passed ≡ 0 → (wanted.cid.hash ≡ Identity → found ≡ Some wanted.cid.digest) → found ≡ None → root.hash ≡ Sha256
no_root_shape root path told passed mid wanted found there z i n =
    ap (λ (cid : CidParts). cid.hash) (sym (there.cid_is ∙ there.first z)) ∙ hashed wanted.cid.hash wanted.cid.digest found i n

-- ---- a block of the path can't be opened

pub block_shape : (root : CidParts) (path : List (List ℕ)) (told : Option Store) (passed : ℕ) (mid new : LeftState) (wanted : Wanted) (block : List ℕ) (fault : WalkFault)
    → IsPlaceAlong root path told passed mid wanted → ((at : WantedAt) → mid.wanted ≡ Some at → is_read_at mid.query at.want ≡ true)
    → ((at : WantedAt) → mid.wanted ≡ Some at → IsOpened mid at block (Err fault) new) → HasResolveShape root path (Err (refusal_of_walk fault))
block_shape root path told passed mid new wanted block fault there r opened_there = by (opened_there there.at there.wanted_is)
  where
    segmented : path ≢ []
    segmented z =
        let read = ap (λ q. is_read_at q there.at.want) (sym there.query) ∙ r there.at there.wanted_is in
        let unread = there.unread z in cc

    by : IsOpened mid there.at block (Err fault) new → HasResolveShape root path (Err (refusal_of_walk fault))
    by (inl g) = subst (λ (f : WalkFault). HasResolveShape root path (Err (refusal_of_walk f))) (sym g) _
    by (inr (bad, g, h)) = subst (λ (f : WalkFault). HasResolveShape root path (Err (refusal_of_walk f))) (sym g) segmented
