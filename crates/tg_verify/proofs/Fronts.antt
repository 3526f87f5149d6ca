-- Fronts of texts, the only one of a list, the greatest of numbers, and pairs of longer lists.
use Rattle.std.proofs.Common.{◌≡◌, ◌⊎◌, ◌≤◌, ◌++◌, ◌∷◌, ℕ, Contains, List, [], None, Option, Some, inl, inr, map, refl, sym, ap, ◌∙◌, append-nil, append_assoc, subst, arith}
use Rattle.std.proofs.lemmas.List.Elements.{Contains-append_left, Contains-push_cases}
use Rattle.tg_model.specs.Counts.{greatest}
use Rattle.tg_model.specs.Dag.{Dag, Section}
use Rattle.tg_model.specs.Fits.{CollisionPair, IsFrontOfAnswer}
use Rattle.tg_model_laws.specs.Verified.{PairOfSome}

-- ---- the only one of a list

pub only_one : (x one : Section) → Contains (x ∷ []) one → x ≡ one
only_one x one h = elim (Contains-push_cases [] x one h) [
  | inl none ↦ absurd (omega (arith, none.1))
  | inr same ↦ same
]

-- ---- the greatest of numbers

pub greatest_at : {A : Type 0} (f : A → ℕ) (xs ys : List A) (x : A) → f x ≤ greatest (map f (xs ++ x ∷ ys))
greatest_at f [] ys x = omega arith
greatest_at f (a ∷ xs) ys x = let below = greatest_at f xs ys x in omega (arith, below)

-- ---- fronts of an answer

pub front_of_front : (all : Option (List ℕ)) (out written rest : List ℕ) → out ≡ written ++ rest → IsFrontOfAnswer out all → IsFrontOfAnswer written all
front_of_front (Some text) out written rest e (more, is) = (rest ++ more, is ∙ ap (λ (x : List ℕ). x ++ more) e ∙ append_assoc written rest more)
front_of_front None out [] rest e h = refl
front_of_front None out (b ∷ written) rest e h = let both : [] ≡ b ∷ (written ++ rest) = sym h ∙ e in absurd (cc both)

pub whole_is_front : (all : Option (List ℕ)) (out : List ℕ) → all ≡ Some out → IsFrontOfAnswer out all
whole_is_front all out e = subst (IsFrontOfAnswer out) (sym e) ([], sym (append-nil out))

-- ---- a pair of some sections is one of all that hold them

-- of the first, of all
pub pair_more : PairOfSome → (some sections more : List Section) (d : Dag) → sections ≡ some ++ more → CollisionPair some d → CollisionPair sections d
pair_more law some sections more d e p = subst (λ (all : List Section). CollisionPair all d) (sym e) (law some (some ++ more) d (Contains-append_left some more) p)

-- or something holds that isn't of them
pub or_pair_more : PairOfSome → (P : Type 0) (some sections more : List Section) (d : Dag) → sections ≡ some ++ more → P ⊎ CollisionPair some d → P ⊎ CollisionPair sections d
or_pair_more law P some sections more d e (inl h) = inl h
or_pair_more law P some sections more d e (inr pair) = inr (pair_more law some sections more d e pair)
