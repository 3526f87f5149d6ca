-- What stands at a path with one more name.
use Rattle.std.specs.Option.{option_and_then}
use Rattle.std.specs.Prelude.{List, None, Option, Some, [], refl, ℕ, ◌++◌, ◌∷◌, ◌≡◌}
use Rattle.tg_tree.specs.Tree.{below, child}
use Rattle.tg_tree.specs.declared.tree.Tree.{Tree}

alone : (o : Option Tree) → option_and_then (λ found. Some found) o ≡ o
alone None = refl
alone (Some found) = refl

append_within : (path : List (List ℕ)) (name : List ℕ)
    → ((t : Tree) → below t (path ++ name ∷ []) ≡ option_and_then (λ found. child found name) (below t path))
    → (o : Option Tree) → option_and_then (λ found. below found (path ++ name ∷ [])) o ≡ option_and_then (λ found. child found name) (option_and_then (λ found. below found path) o)
append_within path name h None = refl
append_within path name h (Some found) = h found

pub below_more : (tree : Tree) (path : List (List ℕ)) (name : List ℕ)
    → below tree (path ++ name ∷ []) ≡ option_and_then (λ found. child found name) (below tree path)
below_more tree [] name = alone (child tree name)
below_more tree (next ∷ path) name = append_within path name (λ t. below_more t path name) (child tree next)
