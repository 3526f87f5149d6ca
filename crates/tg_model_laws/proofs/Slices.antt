-- The bytes of a list from one place up to another.
use Rattle.std.proofs.Common.{◌≡◌, ℕ, ◌-◌, ◌+◌, ◌≤◌, ◌⊎◌, zero, suc, false, List, [], ◌∷◌, ◌++◌, length, take, drop, nat_lt, sym, ap, ◌∙◌, subst, inl, inr, arith}
use Rattle.std.proofs.lemmas.List.{length-drop, length-take, take_all, drop_all, nil_from_length}
use Rattle.std.proofs.lemmas.Bool.{and_cases, ltb-false}
use Rattle.tg_model.specs.Traversal.{between, is_met}

-- the front of two lists joined: of the first, and what is left to take of the second
take-append : (n : ℕ) (xs ys : List ℕ) → take n (xs ++ ys) ≡ take n xs ++ take (n - length xs) ys
take-append n [] ys =
    let none : take {A = ℕ} n [] ≡ [] = take_all n [] (omega arith) in
    let same : n ≡ n - 0 = omega arith in
    ap (λ (k : ℕ). take k ys) same ∙ ap (λ (t : List ℕ). t ++ take (n - 0) ys) (sym none)
take-append zero (x ∷ xs) ys =
    let same : 0 ≡ 0 - length (x ∷ xs) = omega arith in
    ap (λ (k : ℕ). take k ys) same
take-append (suc n) (x ∷ xs) ys =
    let same : n - length xs ≡ suc n - length (x ∷ xs) = omega arith in
    ap (λ (t : List ℕ). x ∷ t) (take-append n xs ys) ∙ ap (λ (k : ℕ). x ∷ (take n xs ++ take k ys)) same

-- what lies behind the front of two lists joined
drop-append : (n : ℕ) (xs ys : List ℕ) → drop n (xs ++ ys) ≡ drop n xs ++ drop (n - length xs) ys
drop-append n [] ys =
    let none : drop {A = ℕ} n [] ≡ [] = drop_all n [] (omega arith) in
    let same : n ≡ n - 0 = omega arith in
    ap (λ (k : ℕ). drop k ys) same ∙ ap (λ (t : List ℕ). t ++ drop (n - 0) ys) (sym none)
drop-append zero (x ∷ xs) ys =
    let same : 0 ≡ 0 - length (x ∷ xs) = omega arith in
    ap (λ (k : ℕ). x ∷ (xs ++ drop k ys)) same
drop-append (suc n) (x ∷ xs) ys =
    let same : n - length xs ≡ suc n - length (x ∷ xs) = omega arith in
    drop-append n xs ys ∙ ap (λ (k : ℕ). drop n xs ++ drop k ys) same

-- the range of two lists joined: of the first, and, counted from its end, of the second
pub between-append : (low high : ℕ) (xs ys : List ℕ) → between low high (xs ++ ys) ≡ between low high xs ++ between (low - length xs) (high - length xs) ys
between-append low high xs ys =
    let same : (high - low) - length (drop low xs) ≡ (high - length xs) - (low - length xs) = omega (arith, length-drop low xs) in
    ap (take (high - low)) (drop-append low xs ys)
    ∙ take-append (high - low) (drop low xs) (drop (low - length xs) ys)
    ∙ ap (λ (k : ℕ). take (high - low) (drop low xs) ++ take k (drop (low - length xs) ys)) same

-- a range isn't longer than its two numbers say
between-length : (low high : ℕ) (xs : List ℕ) → length (between low high xs) ≤ high - low
between-length low high xs = omega (arith, length-take (high - low) (drop low xs))

-- nor longer than what lies behind its beginning
between-left : (low high : ℕ) (xs : List ℕ) → length (between low high xs) ≤ length xs - low
between-left low high xs = omega (arith, length-take (high - low) (drop low xs), length-drop low xs)

-- a range that ends where it begins, or begins behind the list, has no bytes
pub between-none : (low high : ℕ) (xs : List ℕ) → (high ≤ low) ⊎ (length xs ≤ low) → between low high xs ≡ []
between-none low high xs (inl e) = nil_from_length (between low high xs) (omega (arith, between-length low high xs))
between-none low high xs (inr e) = nil_from_length (between low high xs) (omega (arith, between-left low high xs))

-- a range that doesn't meet so many bytes ends where it begins or begins behind them
unmet : (low high from size : ℕ) → is_met low high from size ≡ false → (high - from ≤ low - from) ⊎ (size ≤ low - from)
unmet low high from size e = elim (and_cases (nat_lt 0 size) _ e) [
  | inl empty ↦ let h = ltb-false 0 size empty in inr (omega arith)
  | inr e ↦ elim (and_cases (nat_lt low high) _ e) [
    | inl none ↦ let h = ltb-false low high none in inl (omega arith)
    | inr e ↦ elim (and_cases (nat_lt from high) _ e) [
      | inl before ↦ let h = ltb-false from high before in inl (omega arith)
      | inr behind ↦ let h = ltb-false low (from + size) behind in inr (omega arith)
    ]
  ]
]

-- a part that a range doesn't meet gives no bytes
pub between-unmet : (low high from size : ℕ) (xs : List ℕ) → is_met low high from size ≡ false → length xs ≡ size → between (low - from) (high - from) xs ≡ []
between-unmet low high from size xs e l =
    let none : (high - from ≤ low - from) ⊎ (length xs ≤ low - from) = unmet low high from (length xs) (subst (λ (n : ℕ). is_met low high from n ≡ false) (sym l) e) in
    between-none (low - from) (high - from) xs none
