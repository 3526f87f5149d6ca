-- Lists of names with the same elements.
use Rattle.std.proofs.Common.{◌≡◌, ◌↔◌, ◌⊎◌, ◌+◌, ◌<◌, ◌≤◌, ℕ, zero, suc, List, [], ◌∷◌, ◌++◌, length, inl, inr, refl, sym, ap, ap₂, ◌∙◌, subst, arith}
use Rattle.std.specs.Prelude.{⊤, Contains, slice_index_or}

-- the element is among those of the list
abbrev pub Among : {X : Type 0} → X → List X → Type 0
Among x [] = ⊥
Among x (y ∷ ys) = (y ≡ x) ⊎ Among x ys

pub among_left : {X : Type 0} (x : X) (xs ys : List X) → Among x xs → Among x (xs ++ ys)
among_left x [] ys h = absurd h
among_left x (y ∷ xs) ys (inl e) = inl e
among_left x (y ∷ xs) ys (inr h) = inr (among_left x xs ys h)

pub among_right : {X : Type 0} (x : X) (xs ys : List X) → Among x ys → Among x (xs ++ ys)
among_right x [] ys h = h
among_right x (y ∷ xs) ys h = inr (among_right x xs ys h)

pub among_cases : {X : Type 0} (x : X) (xs ys : List X) → Among x (xs ++ ys) → Among x xs ⊎ Among x ys
among_cases x [] ys h = inr h
among_cases x (y ∷ xs) ys (inl e) = inl (inl e)
among_cases x (y ∷ xs) ys (inr h) = elim (among_cases x xs ys h) [
  | inl left ↦ inl (inr left)
  | inr right ↦ inr right
]

-- between this and std's word
pub contains_among : {X : Type 0} (xs : List X) (x : X) → Among x xs → Contains xs x
contains_among [] x h = absurd h
contains_among (y ∷ xs) x (inl e) = (0, omega arith, e)
contains_among (y ∷ xs) x (inr h) = let c = contains_among xs x h in (suc c.0, (let l = c.1 in omega (arith, l)), c.2)

among_at : {X : Type 0} (xs : List X) (x : X) (k : ℕ) → k < length xs → slice_index_or xs k x ≡ x → Among x xs
among_at [] x k l e = absurd (omega arith)
among_at (y ∷ xs) x zero l e = inl e
among_at (y ∷ xs) x (suc k) l e = inr (among_at xs x k (omega arith) e)

pub among_contains : {X : Type 0} (xs : List X) (x : X) → Contains xs x → Among x xs
among_contains xs x h = among_at xs x h.0 h.1 h.2

-- two lists have the same elements
abbrev pub SameElements : {X : Type 0} → List X → List X → Type 0
SameElements {X} xs ys = (x : X) → Among x xs ↔ Among x ys

-- each element is before all behind it
abbrev pub IsBeforeAll : {X : Type 0} → (X → X → Type 0) → X → List X → Type 0
IsBeforeAll R x [] = ⊤
IsBeforeAll R x (y ∷ ys) = R x y × IsBeforeAll R x ys

abbrev pub Rise : {X : Type 0} → (X → X → Type 0) → List X → Type 0
Rise R [] = ⊤
Rise R (x ∷ xs) = IsBeforeAll R x xs × Rise R xs

pub before_each : {X : Type 0} (R : X → X → Type 0) (x y : X) (ys : List X) → IsBeforeAll R x ys → Among y ys → R x y
before_each R x y [] h m = absurd m
before_each R x y (z ∷ ys) h (inl e) = subst (R x) e h.0
before_each R x y (z ∷ ys) h (inr m) = before_each R x y ys h.1 m

-- lists in a strict order with the same elements are the same
pub rise_same : {X : Type 0} (R : X → X → Type 0) → ((x : X) → R x x → ⊥) → ((x y : X) → R x y → R y x → ⊥)
    → (xs ys : List X) → Rise R xs → Rise R ys → SameElements xs ys → xs ≡ ys
rise_same R never one [] [] h k same = refl
rise_same R never one [] (y ∷ ys) h k same = absurd ((same y).1 (inl refl))
rise_same R never one (x ∷ xs) [] h k same = absurd ((same x).0 (inl refl))
rise_same {X} R never one (x ∷ xs) (y ∷ ys) h k same =
    let heads : x ≡ y = elim ((same x).0 (inl refl)) [
      | inl e ↦ sym e
      | inr later ↦ elim ((same y).1 (inl refl)) [
        | inl e ↦ e
        | inr after ↦ absurd (one x y (before_each R x y xs h.0 after) (before_each R y x ys k.0 later))
      ]
    ] in
    let to : (z : X) → Among z xs → Among z ys = λ z m. elim ((same z).0 (inr m)) [
      | inl e ↦ absurd (never x (subst (R x) (sym e ∙ sym heads) (before_each R x z xs h.0 m)))
      | inr m2 ↦ m2
    ] in
    let back : (z : X) → Among z ys → Among z xs = λ z m. elim ((same z).1 (inr m)) [
      | inl e ↦ absurd (never y (subst (R y) (sym e ∙ heads) (before_each R y z ys k.0 m)))
      | inr m2 ↦ m2
    ] in
    ap₂ (λ a as_. a ∷ as_) heads (rise_same R never one xs ys h.1 k.1 (λ z. (to z, back z)))

-- no element stands twice
abbrev pub Distinct : {X : Type 0} → List X → Type 0
Distinct [] = ⊤
Distinct (x ∷ xs) = (Among x xs → ⊥) × Distinct xs

pub distinct_both : {X : Type 0} (xs ys : List X) → Distinct xs → Distinct ys
    → ((x : X) → Among x xs → Among x ys → ⊥) → Distinct (xs ++ ys)
distinct_both [] ys h k apart = k
distinct_both (x ∷ xs) ys h k apart = (
  (λ m. elim (among_cases x xs ys m) [
    | inl left ↦ h.0 left
    | inr right ↦ apart x (inl refl) right
  ]),
  distinct_both xs ys h.1 k (λ z l r. apart z (inr l) r),
)

-- what the elements weigh together
abbrev pub total_by : {X : Type 0} → (X → ℕ) → List X → ℕ
total_by f [] = 0
total_by f (x ∷ xs) = f x + total_by f xs

-- a list without an element of it
pub record Without {X : Type 0} (f : X → ℕ) (x : X) (ys : List X) : Type 0 where
  pub others : List X
  pub total : total_by f ys ≡ f x + total_by f others
  pub kept : (z : X) → Among z ys → (x ≡ z) ⊎ Among z others

without : {X : Type 0} (f : X → ℕ) (x : X) (ys : List X) → Among x ys → Without f x ys
without f x [] m = absurd m
without f x (y ∷ ys) (inl e) = record {
  others = ys;
  total = ap (λ z. f z + total_by f ys) e;
  kept = λ z m. elim m [
    | inl here ↦ inl (sym e ∙ here)
    | inr later ↦ inr later
  ];
}
without f x (y ∷ ys) (inr m) =
    let rest = without f x ys m in
    record {
      others = y ∷ rest.others;
      total = (let t = rest.total in omega (arith, t));
      kept = λ z k. elim k [
        | inl here ↦ inr (inl here)
        | inr later ↦ elim (rest.kept z later) [
          | inl same ↦ inl same
          | inr there ↦ inr (inr there)
        ]
      ];
    }

-- distinct elements of another list weigh at most what that list weighs
pub total_most : {X : Type 0} (f : X → ℕ) (xs ys : List X) → Distinct xs → ((x : X) → Among x xs → Among x ys)
    → total_by f xs ≤ total_by f ys
total_most f [] ys h all = omega arith
total_most f (x ∷ xs) ys h all =
    let rest = without f x ys (all x (inl refl)) in
    let below = total_most f xs rest.others h.1 (λ z m. elim (rest.kept z (all z (inr m))) [
      | inl same ↦ absurd (h.0 (subst (λ w. Among w xs) (sym same) m))
      | inr there ↦ there
    ]) in
    let t = rest.total in
    omega (arith, below, t)
