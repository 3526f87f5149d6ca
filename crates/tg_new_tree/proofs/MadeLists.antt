-- What was made, in order: whether something is among it, and bytes that are added to what was made last.
use Rattle.std.proofs.Common.{◌≡◌, ◌∙◌, ◌<◌, ◌≤◌, ◌+◌, ◌++◌, ◌∷◌, Contains, List, None, Option, Some, [], ap, arith, get_or, inl, inr, length, refl, subst, sym, take, ℕ}
use Rattle.std.proofs.lemmas.List.Elements.{Contains-get_or, Contains-push_cases}
use Rattle.std.proofs.lemmas.List.{get_or-map, length-map, length-set, map-append, take_all, take_more, take_more_set}
use Rattle.std.proofs.Math.ListN.{set}
use Rattle.tg_new_tree.specs.Noted.{EndsWithFile, IsOpen, added_last}
use Rattle.tg_new_tree.specs.NewTrees.{AddedTo, MoreOf, NewTreeStep, path_made, paths_made}
use Rattle.tg_new_tree.specs.declared.made.Made.{Made}
use Rattle.tg_new_tree.specs.declared.made.Made.TheVariants.{File}

-- an element is in the list that it is taken from
pub found_at : {X : Type 0} (xs : List X) (i : ℕ) (y : X) → i < length xs → y ≡ get_or xs i y → Contains xs y
found_at xs i y h at = subst (Contains xs) (sym at) (Contains-get_or xs i y h)

one_more : {X : Type 0} (xs : List X) (i : ℕ) (y : X) → i < length xs → y ≡ get_or xs i y → take (i + 1) xs ≡ take i xs ++ y ∷ []
one_more xs i y h at = take_more xs i y h ∙ ap (λ z. take i xs ++ z ∷ []) (sym at)

none_behind : {X : Type 0} (xs ys : List X) (y x : X) → ys ≡ xs ++ y ∷ [] → (Contains xs x → ⊥) → (y ≡ x → ⊥) → Contains ys x → ⊥
none_behind {X} xs ys y x grown none other found = elim (Contains-push_cases xs y x (subst (λ (some : List X). Contains some x) grown found)) [ inl before ↦ none before | inr same ↦ other same ]

-- x isn't among the elements that were passed, nor is it the next one
pub none_more : {X : Type 0} (xs : List X) (i : ℕ) (y x : X) → i < length xs → y ≡ get_or xs i y → (Contains (take i xs) x → ⊥) → (y ≡ x → ⊥) → Contains (take (i + 1) xs) x → ⊥
none_more xs i y x h at = none_behind (take i xs) (take (i + 1) xs) y x (one_more xs i y h at)

-- the path of something that was made is among the paths
pub made_at : (made : List Made) (i : ℕ) (one : Made) (path : List (List ℕ)) → i < length made → one ≡ get_or made i one → path_made one ≡ path → Contains (paths_made made) path
made_at made i one path h at same =
    let there : get_or (paths_made made) i path ≡ path = get_or-map path_made made i one path h ∙ ap path_made (sym at) ∙ same in
    (i, subst (λ n. i < n) (sym (length-map made path_made)) h, there)

-- nothing that was passed was made at the path, nor was the next thing
pub none_made_more : (made : List Made) (i : ℕ) (one : Made) (path : List (List ℕ)) → i < length made → one ≡ get_or made i one → (Contains (paths_made (take i made)) path → ⊥) → (path_made one ≡ path → ⊥) → Contains (paths_made (take (i + 1) made)) path → ⊥
none_made_more made i one path h at =
    let grown : paths_made (take (i + 1) made) ≡ paths_made (take i made) ++ path_made one ∷ [] = ap paths_made (one_more made i one h at) ∙ map-append path_made (take i made) (one ∷ []) in
    none_behind (paths_made (take i made)) (paths_made (take (i + 1) made)) (path_made one) path grown

added_last-append : (before : List Made) (path : List (List ℕ)) (held bytes : List ℕ) → added_last (before ++ File path held ∷ []) bytes ≡ before ++ File path (held ++ bytes) ∷ []
added_last-append [] path held bytes = refl
added_last-append (one ∷ []) path held bytes = refl
added_last-append (one ∷ next ∷ more) path held bytes = ap (λ made. one ∷ made) (added_last-append (next ∷ more) path held bytes)

-- bytes that are added to what was made last, which is a file
pub added_to_last : (bytes : List ℕ) (step : NewTreeStep) (old : List Made) → old ≡ step.made_old → EndsWithFile old → step.made_new ≡ added_last old bytes → step.place_new ≡ step.place_old → AddedTo bytes step
added_to_last bytes step old same ends new place = record {
  before = ends.before;
  path = ends.path;
  held = ends.held;
  old = sym same ∙ ends.is;
  new = new ∙ ap (λ made. added_last made bytes) ends.is ∙ added_last-append ends.before ends.path ends.held bytes;
  place = place;
}

-- a list with its last element, and with another in its place
set_last : {X : Type 0} (xs : List X) (i : ℕ) (y : X) → i + 1 ≡ length xs → set xs i y ≡ take i xs ++ y ∷ []
set_last xs i y is =
    let all : length (set xs i y) ≤ i + 1 = omega (arith, length-set xs i y) in
    sym (take_all (i + 1) (set xs i y) all) ∙ take_more_set xs i y (omega arith)

with_last : {X : Type 0} (xs : List X) (i : ℕ) (y : X) → i + 1 ≡ length xs → y ≡ get_or xs i y → xs ≡ take i xs ++ y ∷ []
with_last xs i y is at = sym (take_all (i + 1) xs (omega arith)) ∙ one_more xs i y (omega arith) at

-- bytes that are added to a file in place, which is the last of what was made
pub added_in_place : (made : List Made) (i : ℕ) (last : Made) (bytes : List ℕ) (after : Made) (step : NewTreeStep) → i + 1 ≡ length made → last ≡ get_or made i last → step.made_old ≡ made → step.made_new ≡ set made i after → step.place_new ≡ step.place_old → MoreOf last bytes after → AddedTo bytes step
added_in_place made i last bytes after step is at old new place more =
    let front = take i made in
    record {
      before = front;
      path = more.path;
      held = more.held;
      old = old ∙ with_last made i last is at ∙ ap (λ one. front ++ one ∷ []) more.was;
      new = new ∙ set_last made i after is ∙ ap (λ one. front ++ one ∷ []) more.is;
      place = place;
    }

-- where a file is open, one was made last
pub open_last : {F : Type 0} (file : Option F) (open_file : F) (made : List Made) → file ≡ Some open_file → IsOpen file made → EndsWithFile made
open_last {F} file open_file made is h = subst (λ (f : Option F). IsOpen f made) is h

-- and is so still after bytes were added to it
pub still_open : {F : Type 0} (file : Option F) (old new : List Made) (bytes : List ℕ) → EndsWithFile old → new ≡ added_last old bytes → IsOpen file new
still_open None old new bytes ends is = tt
still_open (Some file) old new bytes ends is = record {
  before = ends.before;
  path = ends.path;
  held = ends.held ++ bytes;
  is = is ∙ ap (λ made. added_last made bytes) ends.is ∙ added_last-append ends.before ends.path ends.held bytes;
}
