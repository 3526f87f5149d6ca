-- What a store gives once a block was kept.
use Rattle.std.proofs.Common.{◌≡◌, ◌∙◌, ap, ℕ, List, [], ◌∷◌, Option, Some, None, IfOk, IfSome, Result, Ok, Err, unwrap_or, refl}
use Rattle.tg_cid.specs.Cid.{CidParts}
use Rattle.tg_model.specs.Stores.{AreKeptAs, IsGotten, Store}

-- what a store that tells its blocks gives once a block was kept
pub kept_found : {E : Type 0} (told now : Option Store) (cid : CidParts) (block : List ℕ) (result : Result (Option (List ℕ)) E)
    → AreKeptAs told now (record { cid = cid; block = block } ∷ []) → IfOk result (λ found. IsGotten now cid found)
    → IfOk result (λ found. IfSome told (λ held. found ≡ Some (unwrap_or (held cid) block)))
kept_found told now cid block (Err fault) kept gotten = tt
kept_found None now cid block (Ok found) kept gotten = tt
kept_found (Some held) None cid block (Ok found) kept gotten = absurd kept
kept_found (Some held) (Some new) cid block (Ok found) kept gotten = gotten.stored ∙ ap (λ (store : Store). store cid) kept.2 ∙ kept.1.here cid refl

-- where nothing was stored, that is the kept block
pub first_found : {E : Type 0} (told : Option Store) (cid : CidParts) (block : List ℕ) (result : Result (Option (List ℕ)) E)
    → IfOk result (λ found. IfSome told (λ held. found ≡ Some (unwrap_or (held cid) block)))
    → IfOk result (λ found. IfSome told (λ held. held cid ≡ None → found ≡ Some block))
first_found told cid block (Err fault) h = tt
first_found None cid block (Ok found) h = tt
first_found (Some held) cid block (Ok found) h = λ nothing. h ∙ ap (λ (o : Option (List ℕ)). Some (unwrap_or o block)) nothing
