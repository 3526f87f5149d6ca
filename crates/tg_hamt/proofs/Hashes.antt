-- The entries in the order of their names' hashes, and the slots of hashes that rise.
use Rattle.std.proofs.Common.{◌≡◌, ℕ, ◌+◌, ◌<◌, List, [], ◌∷◌, ◌++◌, length, get_or, take, ap, sym, ◌∙◌, arith}
use Rattle.std.proofs.lemmas.List.{length-take, take_more}
use Rattle.tg_hamt.specs.Order.{hashed_from}
use Rattle.tg_hamt.specs.declared.order.Hashed.{Hashed}
use Rattle.tg_model.specs.declared.kinds.NewEntry.{NewEntry}
use Rattle.tg_murmur.specs.NameHash.{name_hash}

-- one more entry
hashed_push : (n : ℕ) (es : List NewEntry) (e : NewEntry) → hashed_from n (es ++ e ∷ []) ≡ hashed_from n es ++ record { hash = name_hash e.name; index = n + length es } ∷ []
hashed_push n [] e = let same : n ≡ n + 0 = omega arith in ap (λ (k : ℕ). record { hash = name_hash e.name; index = k } ∷ []) same
hashed_push n (x ∷ es) e =
    let same : n + 1 + length es ≡ n + length (x ∷ es) = omega arith in
    ap (λ (l : List Hashed). record { hash = name_hash x.name; index = n } ∷ l)
    (hashed_push (n + 1) es e ∙ ap (λ (k : ℕ). hashed_from (n + 1) es ++ record { hash = name_hash e.name; index = k } ∷ []) same)

pub hashed_more : (es : List NewEntry) (i : ℕ) (items : List Hashed) (e : NewEntry) (hash : ℕ) → i < length es → e ≡ get_or es i e → hash ≡ name_hash e.name
    → items ≡ hashed_from 0 (take i es) → items ++ record { hash = hash; index = i } ∷ [] ≡ hashed_from 0 (take (i + 1) es)
hashed_more es i items e hash lt is hash_is items_are =
    let count : 0 + length (take i es) ≡ i = omega (arith, length-take i es) in
    let item : record { hash = hash; index = i } ≡ record { hash = name_hash e.name; index = 0 + length (take i es) } = λ j. record { hash = hash_is j; index = sym count j } in
    ap (λ (l : List Hashed). l ++ record { hash = hash; index = i } ∷ []) items_are
    ∙ ap (λ (x : Hashed). hashed_from 0 (take i es) ++ x ∷ []) item
    ∙ sym (hashed_push 0 (take i es) e)
    ∙ ap (λ (x : NewEntry). hashed_from 0 (take i es ++ x ∷ [])) is
    ∙ ap (hashed_from 0) (sym (take_more es i e lt))
