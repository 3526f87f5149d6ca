-- Elements of lists, and the names of entries.
use Rattle.std.proofs.Common.{Bool, Contains, List, Some, [], ap, arith, cond, false, inl, inr, refl, subst, sym, true, ℕ, ◌++◌, ◌∷◌, ◌≡◌, ◌⊎◌}
use Rattle.std.proofs.lemmas.List.Elements.{Contains-append_cases, Contains-append_left, Contains-append_right, Contains-push, Contains-push_cases}
use Rattle.std.proofs.lemmas.Slice.Eq.{bytes_eq-Decides}
use Rattle.std.specs.Map.{keys_of, lookup}
use Rattle.std.specs.Prelude.{bytes_eq, map}
use Rattle.tg_model.specs.Content.{DirEntry}
use Rattle.tg_tree.specs.declared.tree.Tree.{Tree}

pub first_one : {A : Type 0} (s : A) (l : List A) → Contains (s ∷ l) s
first_one s l = Contains-append_left (s ∷ []) l s (Contains-push [] s)

pub other_one : {A : Type 0} (s x : A) (l : List A) → Contains l x → Contains (s ∷ l) x
other_one s x l h = Contains-append_right (s ∷ []) l x h

pub none_in : {A : Type 0} (x : A) → Contains [] x → ⊥
none_in x h = omega (arith, h.1)

pub one_of : {A : Type 0} (s x : A) (l : List A) → Contains (s ∷ l) x → (s ≡ x) ⊎ Contains l x
one_of s x l h = elim (Contains-append_cases (s ∷ []) l x h) [
  | inl a ↦ elim (Contains-push_cases [] s x a) [
    | inl b ↦ inr (absurd (none_in x b))
    | inr e ↦ inl e
  ]
  | inr b ↦ inr b
]

abbrev pub names_in : List DirEntry → List (List ℕ)
names_in listed = map (λ entry. entry.name) listed

names_split : (a b : List DirEntry) → names_in (a ++ b) ≡ names_in a ++ names_in b
names_split [] b = refl
names_split (e ∷ a) b = ap (λ (l : List (List ℕ)). e.name ∷ l) (names_split a b)

-- a name of the first entries, or of those behind them
pub name_cases : (a b : List DirEntry) (name : List ℕ) → Contains (names_in (a ++ b)) name → Contains (names_in a) name ⊎ Contains (names_in b) name
name_cases a b name h =
    Contains-append_cases (names_in a) (names_in b) name (subst (λ (l : List (List ℕ)). Contains l name) (names_split a b) h)

-- a name that is found is one of the names
pub found_key : (es : List (List ℕ × Tree)) (name : List ℕ) (b : Tree) → lookup (bytes_eq name) es ≡ Some b → Contains (keys_of es) name
found_key [] name b h = absurd (cc h)
found_key (e ∷ es) name b h = by (bytes_eq name e.0) refl h (λ g. found_key es name b g)
  where
    by : (t : Bool) → bytes_eq name e.0 ≡ t → cond t (Some e.1) (lookup (bytes_eq name) es) ≡ Some b → (lookup (bytes_eq name) es ≡ Some b → Contains (keys_of es) name)
        → Contains (keys_of (e ∷ es)) name
    by true is h on = subst (Contains (e.0 ∷ keys_of es)) (sym ((bytes_eq-Decides name e.0).0 is)) (first_one e.0 (keys_of es))
    by false is h on = other_one e.0 name (keys_of es) (on h)
