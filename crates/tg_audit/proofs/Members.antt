-- Elements of lists.
use Rattle.std.proofs.Common.{All, Contains, List, [], arith, inl, inr, ◌∷◌, ◌≡◌, ◌⊎◌}
use Rattle.std.proofs.lemmas.List.Elements.{All-cons, All-nil, Contains-append_cases, Contains-append_left, Contains-append_right, Contains-push, Contains-push_cases}

pub first_one : {A : Type 0} (s : A) (l : List A) → Contains (s ∷ l) s
first_one s l = Contains-append_left (s ∷ []) l s (Contains-push [] s)

pub other_one : {A : Type 0} (s x : A) (l : List A) → Contains l x → Contains (s ∷ l) x
other_one s x l h = Contains-append_right (s ∷ []) l x h

pub none_in : {A : Type 0} (x : A) → Contains [] x → ⊥
none_in x h = omega (arith, h.1)

pub one_of : {A : Type 0} (s x : A) (l : List A) → Contains (s ∷ l) x → (s ≡ x) ⊎ Contains l x
one_of s x l h = elim (Contains-append_cases (s ∷ []) l x h) [
  | inl a ↦ elim (Contains-push_cases [] s x a) [
    | inl b ↦ inr (absurd (none_in x b))
    | inr e ↦ inl e
  ]
  | inr b ↦ inr b
]

-- what holds of each element
pub all_from : {A : Type 0} (P : A → Type 0) (l : List A) → ((x : A) → Contains l x → P x) → All P l
all_from P [] each = All-nil P
all_from P (x ∷ l) each = All-cons P x l (each x (first_one x l)) (all_from P l (λ y c. each y (other_one x y l c)))
