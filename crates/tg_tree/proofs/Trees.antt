-- Places in trees, and trees in which the names differ.
use Rattle.std.proofs.Common.{◌≡◌, ℕ, zero, suc, ◌<◌, ◌+◌, List, [], ◌∷◌, ◌++◌, length, take, drop, get_or, true, false, Option, Some, None, IfSome, All, is_some, option_copied, ap, sym, refl, ◌∙◌, subst, drop-cons}
use Rattle.std.proofs.lemmas.Cmp.{nat_list_eq_equiv}
use Rattle.std.proofs.lemmas.Map.Entries.{All-lookup, lookup_from_place}
use Rattle.std.proofs.lemmas.List.Elements.{All-push}
use Rattle.std.proofs.lemmas.Map.Keys.{IsDistinct-head, IsDistinct-tail, IsDistinct-push}
use Rattle.std.proofs.lemmas.Map.Made.{is_some-lookup}
use Rattle.std.proofs.lemmas.List.{take_more}
use Rattle.std.proofs.lemmas.Option.{slice_get_read}
use denote.Ref.{Bor}
use Rattle.std.specs.List.{IsDistinct, AllByRecursion, list_any, slice_get}
use Rattle.std.specs.Map.{keys_of, lookup}
use Rattle.std.specs.Str.{bytes_eq}
use Rattle.tg_tree.specs.declared.tree.Tree.{Tree}
use Rattle.tg_tree.specs.Tree.{NamesDiffer, below, entries_of, names_of, tree_at}

-- a path leads nowhere where one of its names does
pub led_nowhere : (start : Option Tree) (found : Tree) (path : List (List ℕ)) (i : ℕ) (name : List ℕ) → i < length path → name ≡ get_or path i name → start ≡ tree_at (Some found) (drop i path) → lookup (bytes_eq name) (entries_of found) ≡ None → start ≡ None
led_nowhere start found path i name h at so none =
    let here : drop i path ≡ name ∷ drop (suc i) path = drop-cons path i name h ∙ ap (λ n. n ∷ drop (suc i) path) (sym at) in
    so ∙ ap (tree_at (Some found)) here ∙ ap (λ (o : Option Tree). tree_at o (drop (suc i) path)) none

pub no_names_below : (path : List (List ℕ)) → IsDistinct bytes_eq (names_of (tree_at None path))
unfolding IsDistinct
no_names_below path = tt

pub differ_within : (found : Option Tree) → IfSome found NamesDiffer → (path : List (List ℕ)) → IsDistinct bytes_eq (names_of (tree_at found path))
differ_within None h path = no_names_below path
differ_within (Some tree) h path = h path

-- the names differ in a tree where they do so at its top and in each tree there
pub differ_from_entries : (tree : Tree) → IsDistinct bytes_eq (keys_of (entries_of tree)) → All (λ e. NamesDiffer e.1) (entries_of tree) → NamesDiffer tree
differ_from_entries tree here below [] = here
differ_from_entries tree here below (name ∷ path) = differ_within _ (All-lookup NamesDiffer (bytes_eq name) (entries_of tree) below) path

-- and in each tree below one in which they do
pub differ_below : (tree : Tree) (i : ℕ) (e : List ℕ × Tree) → NamesDiffer tree → slice_get (entries_of tree) i ≡ Some e → NamesDiffer e.1
differ_below tree i e h at path =
    let found : lookup (bytes_eq e.0) (entries_of tree) ≡ Some e.1 = lookup_from_place nat_list_eq_equiv (entries_of tree) i e.0 e.1 (h []) at in
    subst (λ (o : Option Tree). IsDistinct bytes_eq (names_of (tree_at o path))) found (h (e.0 ∷ path))

at_place : (P : List ℕ → Type 0) (es : List (List ℕ × Tree)) (i : ℕ) (e : List ℕ × Tree) → slice_get es i ≡ Some e → AllByRecursion P (keys_of es) → P e.0
at_place P [] i e at h = absurd (cc)
at_place P (x ∷ es) zero e at h = let same : x ≡ e = cc in subst (λ (y : List ℕ × Tree). P y.0) same h.0
at_place P (x ∷ es) (suc i) e at h = at_place P es i e at h.1

-- where the names differ, that of an entry isn't among those before it
pub apart_from_front : (es : List (List ℕ × Tree)) (i : ℕ) (e : List ℕ × Tree) → slice_get es i ≡ Some e → IsDistinct bytes_eq (keys_of es) → list_any (bytes_eq e.0) (keys_of (take i es)) ≡ false
apart_from_front [] i e at h = absurd (cc)
apart_from_front (x ∷ es) zero e at h = refl
apart_from_front (x ∷ es) (suc i) e at h =
    let apart : bytes_eq x.0 e.0 ≡ false = at_place (λ y. bytes_eq x.0 y ≡ false) es i e at (IsDistinct-head bytes_eq x.0 (keys_of es) h) in
    let flipped : bytes_eq e.0 x.0 ≡ false = nat_list_eq_equiv.symm e.0 x.0 ∙ apart in
    rw flipped (apart_from_front es i e at (IsDistinct-tail bytes_eq x.0 (keys_of es) h))

pub keys-append : (es : List (List ℕ × Tree)) (e : List ℕ × Tree) → keys_of (es ++ e ∷ []) ≡ keys_of es ++ e.0 ∷ []
keys-append [] e = refl
keys-append (x ∷ es) e = ap (λ ks. x.0 ∷ ks) (keys-append es e)

pub distinct_more : (es : List (List ℕ × Tree)) (i : ℕ) (e : List ℕ × Tree) → i < length es → e ≡ get_or es i e → IsDistinct bytes_eq (keys_of (take i es)) → is_some (lookup (bytes_eq e.0) (take i es)) ≡ false → IsDistinct bytes_eq (keys_of (take (i + 1) es))
distinct_more es i e h at here none =
    let keys : keys_of (take (i + 1) es) ≡ keys_of (take i es) ++ e.0 ∷ [] = ap keys_of (take_more es i e h ∙ ap (λ (x : List ℕ × Tree). take i es ++ x ∷ []) (sym at)) ∙ keys-append (take i es) e in
    subst (IsDistinct bytes_eq) (sym keys) (IsDistinct-push nat_list_eq_equiv (keys_of (take i es)) e.0 here (sym (is_some-lookup (bytes_eq e.0) (take i es)) ∙ none))

pub below_more_entries : (es : List (List ℕ × Tree)) (i : ℕ) (e : List ℕ × Tree) → i < length es → e ≡ get_or es i e → All (λ e. NamesDiffer e.1) (take i es) → NamesDiffer e.1 → All (λ e. NamesDiffer e.1) (take (i + 1) es)
below_more_entries es i e h at below here = subst (All (λ e. NamesDiffer e.1)) (sym (take_more es i e h ∙ ap (λ (x : List ℕ × Tree). take i es ++ x ∷ []) (sym at))) (All-push (λ e. NamesDiffer e.1) (take i es) e below here)

-- an entry whose name stands before it
pub found_again : (tree : Tree) (i : ℕ) (e : List ℕ × Tree) → i < length (entries_of tree) → e ≡ get_or (entries_of tree) i e → is_some (lookup (bytes_eq e.0) (take i (entries_of tree))) ≡ true → NamesDiffer tree → ⊥
found_again tree i e h at some differ =
    let es = entries_of tree in
    let place : slice_get es i ≡ Some e = slice_get_read es (length es) i e refl h at in
    let none = apart_from_front es i e place (differ []) in
    let any = is_some-lookup (bytes_eq e.0) (take i es) in
    cc

pub is_some-copied : {X : Type 0} (o : Option (Bor X)) → is_some (option_copied o) ≡ is_some o
is_some-copied None = refl
is_some-copied (Some x) = refl

pub none_found : (o : Option (Bor Tree)) (key name : List ℕ) (es fs : List (List ℕ × Tree)) → option_copied o ≡ lookup (bytes_eq key) es → key ≡ name → es ≡ fs → o ≡ None → lookup (bytes_eq name) fs ≡ None
none_found o key name es fs found k e none = let copied = ap option_copied none in cc
