-- Places in trees that are listed.
use Rattle.std.proofs.Common.{◌≡◌, ℕ, List, [], ◌∷◌, ◌++◌, get_or, Option, Some, None, All, Result, Ok, Err, IfOk, option_map, ap, sym, refl, ◌∙◌, subst, arith}
use Rattle.std.proofs.lemmas.Cmp.{nat_list_eq_equiv}
use Rattle.std.proofs.lemmas.Map.Entries.{lookup_from_place}
use Rattle.std.proofs.lemmas.List.Elements.{All-map}
use Rattle.std.proofs.lemmas.Option.{slice_get-get_or}
use Rattle.std.specs.List.{IsDistinct}
use Rattle.std.specs.Map.{keys_of}
use Rattle.std.specs.Str.{bytes_eq}
use Rattle.tg_tree.specs.declared.tree.Tree.{Tree}
use Rattle.tg_tree.specs.declared.items.Item.{Item}
use Rattle.tg_files.specs.Folders.{Leads}
use Rattle.std.specs.Option.{MatchOption, option_and_then}
use Rattle.tg_files.specs.PathLaws.{below_more}
use Rattle.tg_tree.specs.Tree.{NamesDiffer, below, child, entries_of, item_of, items_of, names_of, sort_of, tree_at}

-- in a folder in which the names differ each name leads to what has it
entries_lead : (tree : Tree) (path : List (List ℕ)) (found : Tree) → below tree path ≡ Some found → IsDistinct bytes_eq (keys_of (entries_of found)) → All (λ e. Leads (Some tree) path (item_of e)) (entries_of found)
entries_lead tree path found at h k d inside =
    let es = entries_of found in
    let e : List ℕ × Tree = get_or es k d in
    let led : below tree (path ++ e.0 ∷ []) ≡ child found e.0 = below_more tree path e.0 ∙ ap (option_and_then (λ t. child t e.0)) at in
    let here : child found e.0 ≡ Some e.1 = lookup_from_place nat_list_eq_equiv es k e.0 e.1 h (slice_get-get_or es k d inside) in
    ap (option_map sort_of) (led ∙ here)

-- a path that leads nowhere lists nothing
items_lead : (tree : Tree) (path : List (List ℕ)) (found : Option Tree) (items : List Item) → NamesDiffer tree → below tree path ≡ found → MatchOption found (items ≡ []) (λ t. items ≡ items_of t) → All (Leads (Some tree) path) items
items_lead tree path None items differ at e = subst (All (Leads (Some tree) path)) (sym e) (λ k d h. absurd (omega (arith, h)))
items_lead tree path (Some t) items differ at e =
    let here : IsDistinct bytes_eq (keys_of (entries_of t)) = subst (λ (o : Option Tree). IsDistinct bytes_eq (names_of o)) at (differ path) in
    subst (All (Leads (Some tree) path)) (sym e) (All-map (Leads (Some tree) path) item_of (entries_of t) (entries_lead tree path t at here))

pub listed_lead : {E : Type 0} (tree : Tree) (path : List (List ℕ)) (r : Result (List Item) E) → NamesDiffer tree → IfOk r (λ items. MatchOption (tree_at (Some tree) path) (items ≡ []) (λ t. items ≡ items_of t))
    → IfOk r (λ items. All (Leads (Some tree) path) items)
listed_lead tree path (Err e) differ h = tt
listed_lead tree path (Ok items) differ h = items_lead tree path (below tree path) items differ refl h
