-- Lists of numbers: ascending ones with the same numbers are one, and so is the ascending order of the same numbers.
use Rattle.std.proofs.Common.{Bool, Contains, List, [], ap, ap₂, arith, false, inl, inr, refl, subst, sym, true, ℕ, ◌+◌, ◌∙◌, ◌∷◌, ◌≡◌, ◌≤◌, ◌⊎◌}
use Rattle.std.proofs.lemmas.Bool.Decides.{nat_tests}
use Rattle.std.proofs.lemmas.List.Sums.{sum_by-cons}
use Rattle.std.specs.List.{sum_by}
use Rattle.std.specs.Prelude.{if◌then◌else◌, nat_lt, ⊤}
use Rattle.tg_audit.proofs.Members.{first_one, none_in, one_of, other_one}
use Rattle.tg_audit.proofs.NameSlots.{Ascend}

-- ---- ascending lists

pub ascend_least : (low : ℕ) (l : List ℕ) (n : ℕ) → Ascend low l → Contains l n → low ≤ n
ascend_least low [] n h c = absurd (none_in n c)
ascend_least low (x ∷ l) n h c = elim (one_of x n l c) [
  | inl same ↦ (let le = h.0 in omega (arith, same, le))
  | inr behind ↦ (let le = h.0 in let more = ascend_least (x + 1) l n h.1 behind in omega (arith, le, more))
]

abbrev pub AreAmong : List ℕ → List ℕ → Type 0
AreAmong a b = (n : ℕ) → Contains a n → Contains b n

pub one_ascending : (low : ℕ) (a b : List ℕ) → Ascend low a → Ascend low b → AreAmong a b → AreAmong b a → a ≡ b
one_ascending low [] [] ra rb to back = refl
one_ascending low [] (y ∷ b) ra rb to back = absurd (none_in y (back y (first_one y b)))
one_ascending low (x ∷ a) [] ra rb to back = absurd (none_in x (to x (first_one x a)))
one_ascending low (x ∷ a) (y ∷ b) ra rb to back =
    let heads : x ≡ y = elim (one_of y x b (to x (first_one x a))) [
      | inl same ↦ sym same
      | inr behind ↦ elim (one_of x y a (back y (first_one y b))) [
        | inl same ↦ same
        | inr later ↦ absurd (let p = ascend_least (y + 1) b x rb.1 behind in let q = ascend_least (x + 1) a y ra.1 later in omega (arith, p, q))
      ]
    ] in
    let rest : a ≡ b = one_ascending (x + 1) a b ra.1 (subst (λ (n : ℕ). Ascend (n + 1) b) (sym heads) rb.1)
    (λ n c. elim (one_of y n b (to n (other_one x n a c))) [
      | inl same ↦ absurd (let p = ascend_least (x + 1) a n ra.1 c in omega (arith, p, same, heads))
      | inr behind ↦ behind
    ])
    (λ n c. elim (one_of x n a (back n (other_one y n b c))) [
      | inl same ↦ absurd (let p = ascend_least (y + 1) b n rb.1 c in omega (arith, p, same, heads))
      | inr behind ↦ behind
    ]) in
    ap₂ (λ (n : ℕ) (l : List ℕ). n ∷ l) heads rest

-- ---- the ascending order

abbrev pub put_in : ℕ → List ℕ → List ℕ
put_in x [] = x ∷ []
put_in x (y ∷ ys) = if nat_lt y x then y ∷ put_in x ys else x ∷ y ∷ ys

abbrev pub in_order : List ℕ → List ℕ
in_order [] = []
in_order (x ∷ xs) = put_in x (in_order xs)

put_has : (x z : ℕ) (ys : List ℕ) → (x ≡ z) ⊎ Contains ys z → Contains (put_in x ys) z
put_has x z [] (inl e) = subst (Contains (x ∷ [])) e (first_one x [])
put_has x z [] (inr c) = absurd (none_in z c)
put_has x z (y ∷ ys) h = by (nat_lt y x) (λ k. put_has x z ys k)
  where
    by : (b : Bool) → ((x ≡ z) ⊎ Contains ys z → Contains (put_in x ys) z) → Contains (if b then y ∷ put_in x ys else x ∷ y ∷ ys) z
    by true on = elim h [
      | inl e ↦ other_one y z (put_in x ys) (on (inl e))
      | inr c ↦ elim (one_of y z ys c) [
        | inl same ↦ subst (Contains (y ∷ put_in x ys)) same (first_one y (put_in x ys))
        | inr behind ↦ other_one y z (put_in x ys) (on (inr behind))
      ]
    ]
    by false on = elim h [
      | inl e ↦ subst (Contains (x ∷ y ∷ ys)) e (first_one x (y ∷ ys))
      | inr c ↦ other_one x z (y ∷ ys) c
    ]

put_of : (x z : ℕ) (ys : List ℕ) → Contains (put_in x ys) z → (x ≡ z) ⊎ Contains ys z
put_of x z [] c = one_of x z [] c
put_of x z (y ∷ ys) c = by (nat_lt y x) c (λ k. put_of x z ys k)
  where
    by : (b : Bool) → Contains (if b then y ∷ put_in x ys else x ∷ y ∷ ys) z → (Contains (put_in x ys) z → (x ≡ z) ⊎ Contains ys z) → (x ≡ z) ⊎ Contains (y ∷ ys) z
    by true c on = elim (one_of y z (put_in x ys) c) [
      | inl same ↦ inr (subst (Contains (y ∷ ys)) same (first_one y ys))
      | inr behind ↦ elim (on behind) [
        | inl e ↦ inl e
        | inr k ↦ inr (other_one y z ys k)
      ]
    ]
    by false c on = one_of x z (y ∷ ys) c

order_has : (xs : List ℕ) → AreAmong xs (in_order xs)
order_has [] z c = c
order_has (x ∷ xs) z c = elim (one_of x z xs c) [
  | inl e ↦ put_has x z (in_order xs) (inl e)
  | inr k ↦ put_has x z (in_order xs) (inr (order_has xs z k))
]

pub order_of : (xs : List ℕ) → AreAmong (in_order xs) xs
order_of [] z c = c
order_of (x ∷ xs) z c = elim (put_of x z (in_order xs) c) [
  | inl e ↦ subst (Contains (x ∷ xs)) e (first_one x xs)
  | inr k ↦ other_one x z xs (order_of xs z k)
]

put_ascends : (low x : ℕ) (ys : List ℕ) → Ascend low ys → low ≤ x → (Contains ys x → ⊥) → Ascend low (put_in x ys)
put_ascends low x [] h le new = (le, tt)
put_ascends low x (y ∷ ys) h le new = by (nat_lt y x) refl (λ more. put_ascends (y + 1) x ys h.1 more (λ c. new (other_one y x ys c)))
  where
    by : (b : Bool) → nat_lt y x ≡ b → (y + 1 ≤ x → Ascend (y + 1) (put_in x ys)) → Ascend low (if b then y ∷ put_in x ys else x ∷ y ∷ ys)
    by true e on = (h.0, on (grind (arith, nat_tests, e)))
    by false e on =
        let most : x ≤ y = grind (arith, nat_tests, e) in
        let other : y ≡ x → ⊥ = λ same. new (subst (Contains (y ∷ ys)) same (first_one y ys)) in
        (le, ((omega (arith, most, other)), h.1))

-- no number stands twice
abbrev pub NoneTwice : List ℕ → Type 0
NoneTwice [] = ⊤
NoneTwice (x ∷ l) = (Contains l x → ⊥) × NoneTwice l

pub ascend_once : (low : ℕ) (l : List ℕ) → Ascend low l → NoneTwice l
ascend_once low [] h = tt
ascend_once low (x ∷ l) h = (λ c. (let more = ascend_least (x + 1) l x h.1 c in omega (arith, more)), ascend_once (x + 1) l h.1)

order_ascends : (xs : List ℕ) → NoneTwice xs → Ascend 0 (in_order xs)
order_ascends [] h = tt
order_ascends (x ∷ xs) h = put_ascends 0 x (in_order xs) (order_ascends xs h.1) (omega arith) (λ c. h.0 (order_of xs x c))

pub one_in_order : (a b : List ℕ) → NoneTwice a → NoneTwice b → AreAmong a b → AreAmong b a → in_order a ≡ in_order b
one_in_order a b ta tb to back =
    one_ascending 0 (in_order a) (in_order b) (order_ascends a ta) (order_ascends b tb)
    (λ n c. order_has b n (to n (order_of a n c))) (λ n c. order_has a n (back n (order_of b n c)))

-- ---- sums

put_sum : (f : ℕ → ℕ) (x : ℕ) (ys : List ℕ) → sum_by f (put_in x ys) ≡ f x + sum_by f ys
put_sum f x [] = sum_by-cons f x []
put_sum f x (y ∷ ys) = by (nat_lt y x) (put_sum f x ys)
  where
    by : (b : Bool) → sum_by f (put_in x ys) ≡ f x + sum_by f ys → sum_by f (if b then y ∷ put_in x ys else x ∷ y ∷ ys) ≡ f x + sum_by f (y ∷ ys)
    by true on = omega (arith, on, sum_by-cons f y (put_in x ys), sum_by-cons f y ys)
    by false on = sum_by-cons f x (y ∷ ys)

order_sum : (f : ℕ → ℕ) (xs : List ℕ) → sum_by f (in_order xs) ≡ sum_by f xs
order_sum f [] = refl
order_sum f (x ∷ xs) = omega (arith, put_sum f x (in_order xs), order_sum f xs, sum_by-cons f x xs)

pub one_sum : (a b : List ℕ) → NoneTwice a → NoneTwice b → AreAmong a b → AreAmong b a → (f : ℕ → ℕ) → sum_by f a ≡ sum_by f b
one_sum a b ta tb to back f = sym (order_sum f a) ∙ ap (sum_by f) (one_in_order a b ta tb to back) ∙ order_sum f b
