-- The order of names is strict, and sorted entries have rising names.
use Rattle.std.proofs.Common.{◌≡◌, ◌⊎◌, ◌+◌, ◌<◌, ℕ, suc, Bool, true, false, List, Some, [], ◌∷◌, map, inl, inr, refl, sym, ap, ap₂, ◌∙◌, subst, arith}
use Rattle.std.specs.Prelude.{if◌then◌else◌, nat_lt, slice_get}
use Rattle.std.proofs.lemmas.Bool.{cases_order, le-ltb, lt-ltb}
use Rattle.tg_model.specs.ImportLayout.{AreSorted}
use Rattle.tg_model.specs.Texts.{is_before}
use Rattle.tg_model.specs.declared.kinds.Entry.{Entry}
use Rattle.tg_layout_laws.proofs.Sets.{IsBeforeAll, Rise}

abbrev pub Before : List ℕ → List ℕ → Type 0
Before a b = is_before a b ≡ true

same_first : (x y : ℕ) (a b : List ℕ) → x ≡ y → is_before (x ∷ a) (y ∷ b) ≡ is_before a b
same_first x y a b e = ap₂ (λ (p q : Bool). if p then true else (if q then false else is_before a b))
    (le-ltb x y (omega (arith, e))) (le-ltb y x (omega (arith, e)))

less_first : (x y : ℕ) (a b : List ℕ) → x < y → is_before (x ∷ a) (y ∷ b) ≡ true
less_first x y a b lt = ap (λ (p : Bool). if p then true else (if nat_lt y x then false else is_before a b))
    (lt-ltb x y lt)

more_first : (x y : ℕ) (a b : List ℕ) → y < x → is_before (x ∷ a) (y ∷ b) ≡ false
more_first x y a b gt = ap₂ (λ (p q : Bool). if p then true else (if q then false else is_before a b))
    (le-ltb x y (omega (arith, gt))) (lt-ltb y x gt)

before_cases : (x y : ℕ) (a b : List ℕ) → Before (x ∷ a) (y ∷ b) → (x < y) ⊎ ((x ≡ y) × Before a b)
before_cases x y a b h = elim (cases_order x y) [
  | inl same ↦ inr (same, sym (same_first x y a b same) ∙ h)
  | inr (inl lt) ↦ inl lt
  | inr (inr gt) ↦ let f = more_first x y a b gt in absurd (cc)
]

pub never_before : (a : List ℕ) → Before a a → ⊥
never_before [] h = cc
never_before (x ∷ a) h = never_before a (sym (same_first x x a a refl) ∙ h)

before_on : (a b c : List ℕ) → Before a b → Before b c → Before a c
before_on [] [] c h k = absurd (cc)
before_on [] (y ∷ b) [] h k = absurd (cc)
before_on [] (y ∷ b) (z ∷ c) h k = refl
before_on (x ∷ a) [] c h k = absurd (cc)
before_on (x ∷ a) (y ∷ b) [] h k = absurd (cc)
before_on (x ∷ a) (y ∷ b) (z ∷ c) h k = elim (before_cases x y a b h) [
  | inl lt ↦ elim (before_cases y z b c k) [
    | inl lt2 ↦ less_first x z a c (omega (arith, lt, lt2))
    | inr same ↦ less_first x z a c (let e = same.0 in omega (arith, lt, e))
  ]
  | inr same ↦ elim (before_cases y z b c k) [
    | inl lt2 ↦ less_first x z a c (let e = same.0 in omega (arith, lt2, e))
    | inr same2 ↦ same_first x z a c (same.0 ∙ same2.0) ∙ before_on a b c same.1 same2.1
  ]
]

pub one_before : (a b : List ℕ) → Before a b → Before b a → ⊥
one_before a b h k = never_before a (before_on a b a h k)

behind_all : (a b : List ℕ) (names : List (List ℕ)) → Before a b → IsBeforeAll Before b names
    → IsBeforeAll Before a names
behind_all a b [] h k = tt
behind_all a b (c ∷ names) h k = (before_on a b c h k.0, behind_all a b names h k.1)

pub names_rise : (es : List Entry) → AreSorted es → Rise Before (map (λ e. e.name) es)
names_rise [] h = tt
names_rise (a ∷ []) h = (tt, tt)
names_rise (a ∷ b ∷ es) h =
    let rest = names_rise (b ∷ es) (λ i x y p q. h (suc i) x y p (next i y q)) in
    let first : Before a.name b.name = h 0 a b refl refl in
    ((first, behind_all a.name b.name (map (λ e. e.name) es) first rest.0), rest)
  where
    next : (i : ℕ) (y : Entry) → slice_get (b ∷ es) (i + 1) ≡ Some y → slice_get (a ∷ b ∷ es) (suc i + 1) ≡ Some y
    next i y q = subst (λ k. slice_get (a ∷ b ∷ es) k ≡ Some y) (let e : suc (i + 1) ≡ suc i + 1 = omega arith in e) q
