-- Two orders of the same numbers by a key that tells them apart are one.
use Rattle.std.proofs.Common.{All, Bool, Contains, List, [], ap, ap₂, arith, false, inl, inr, length, refl, suc, sym, true, ℕ, ◌+◌, ◌∙◌, ◌∷◌, ◌≡◌, ◌≤◌, ◌⊎◌}
use Rattle.std.proofs.lemmas.Bool.Decides.{nat_tests}
use Rattle.std.proofs.lemmas.List.Elements.{All-head, All-tail}
use Rattle.std.proofs.lemmas.List.Sorted.{Contains-permutation, IsNonDecreasingBy-from_all_adjacent, IsPermutation-sym, sum_by-IsPermutation}
use Rattle.std.proofs.lemmas.List.Sums.{sum_by-cons}
use Rattle.std.specs.List.{AllAdjacentBelow, sum_by}
use Rattle.std.specs.List.Sorted.{IsNonDecreasingBy, IsPermutation}
use Rattle.std.specs.Prelude.{nat_eq, nat_lt, ⊤, ◌≢◌}
use Rattle.tg_audit.proofs.Members.{first_one, none_in, one_of, other_one}

-- ---- sums, which are of one list as of the other

sum_cons : (f : ℕ → ℕ) (x : ℕ) (l : List ℕ) → sum_by f (x ∷ l) ≡ f x + sum_by f l
sum_cons f x l = sum_by-cons f x l

abbrev one_if : Bool → ℕ
one_if true = 1
one_if false = 0

module _ (h : ℕ → ℕ) where
  -- how many have a smaller key than this
  abbrev smaller : ℕ → ℕ → ℕ
  smaller key x = one_if (nat_lt (h x) key)

  none_smaller : (key : ℕ) (l : List ℕ) → All (λ x. key ≤ h x) l → sum_by (smaller key) l ≡ 0
  none_smaller key [] all = refl
  none_smaller key (x ∷ l) all =
      let first : smaller key x ≡ 0 = zero_here (nat_lt (h x) key) refl in
      omega (arith, first, sum_cons (smaller key) x l, none_smaller key l (All-tail (λ y. key ≤ h y) x l all))
    where
      zero_here : (b : Bool) → nat_lt (h x) key ≡ b → one_if b ≡ 0
      zero_here true e = absurd (let low = All-head (λ y. key ≤ h y) x l all in grind (arith, nat_tests, low, e))
      zero_here false e = refl

  -- the keys don't fall
  abbrev pub Rises : List ℕ → Type 0
  Rises [] = ⊤
  Rises (x ∷ l) = All (λ y. h x ≤ h y) l × Rises l

  pub rises_by : (l : List ℕ) → IsNonDecreasingBy h l → Rises l
  rises_by [] n = tt
  rises_by (x ∷ l) n = (λ k d less. n 0 (suc k) d (omega arith) (omega (arith, less)), rises_by l (λ i j d le less. n (suc i) (suc j) d (omega (arith, le)) (omega (arith, less))))

  -- two lists have the same sums
  abbrev pub SameSums : List ℕ → List ℕ → Type 0
  SameSums a b = (f : ℕ → ℕ) → sum_by f a ≡ sum_by f b

  not_below : (x y : ℕ) (a b : List ℕ) → SameSums (x ∷ a) (y ∷ b) → All (λ z. h x ≤ h z) a → h x ≤ h y
  not_below x y a b same all = by (nat_lt (h y) (h x)) refl
    where
      own : (t : Bool) → nat_lt (h x) (h x) ≡ t → one_if t ≡ 0
      own true e = absurd (grind (arith, nat_tests, e))
      own false e = refl

      by : (t : Bool) → nat_lt (h y) (h x) ≡ t → h x ≤ h y
      by false e = grind (arith, nat_tests, e)
      by true e =
          let f = smaller (h x) in
          let here : f x ≡ 0 = own (nat_lt (h x) (h x)) refl in
          let there : f y ≡ 1 = rw e refl in
          absurd (omega (arith, here, there, sum_cons f x a, sum_cons f y b, none_smaller (h x) a all, same f))

  pub one_order : (a b : List ℕ) → SameSums a b → Rises a → Rises b → ((x y : ℕ) → Contains a x → Contains b y → h x ≡ h y → x ≡ y) → a ≡ b
  one_order [] [] same ra rb apart = refl
  one_order [] (y ∷ b) same ra rb apart = absurd (omega (arith, sum_cons (λ z. 1) y b, same (λ z. 1)))
  one_order (x ∷ a) [] same ra rb apart = absurd (omega (arith, sum_cons (λ z. 1) x a, same (λ z. 1)))
  one_order (x ∷ a) (y ∷ b) same ra rb apart =
      let keys : h x ≡ h y = omega (arith, not_below x y a b same ra.0, not_below y x b a (λ f. sym (same f)) rb.0) in
      let is : x ≡ y = apart x y (first_one x a) (first_one y b) keys in
      let rest : SameSums a b = λ f. (let s = same f in omega (arith, s, sum_cons f x a, sum_cons f y b, ap f is)) in
      ap₂ (λ (z : ℕ) (l : List ℕ). z ∷ l) is (one_order a b rest ra.1 rb.1 (λ u v in_a in_b e. apart u v (other_one x u a in_a) (other_one y v b in_b) e))

  -- two of the numbers have one key, or the key tells them apart
  pub record HaveOneKey (l : List ℕ) : Type 0 where
    pub one : ℕ
    pub other : ℕ
    pub is_one : Contains l one
    pub is_other : Contains l other
    pub differ : one ≢ other
    pub same : h one ≡ h other

  abbrev Apart : List ℕ → Type 0
  Apart l = (x y : ℕ) → Contains l x → Contains l y → h x ≡ h y → x ≡ y

  beside : (s : ℕ) (l : List ℕ) → ((x : ℕ) × Contains l x × (h s ≡ h x) × (s ≢ x)) ⊎ ((x : ℕ) → Contains l x → h s ≡ h x → s ≡ x)
  beside s [] = inr (λ x c e. absurd (none_in x c))
  beside s (y ∷ l) = by (nat_eq (h s) (h y)) refl (nat_eq s y) refl (beside s l)
    where
      by : (k : Bool) → nat_eq (h s) (h y) ≡ k → (b : Bool) → nat_eq s y ≡ b
          → ((x : ℕ) × Contains l x × (h s ≡ h x) × (s ≢ x)) ⊎ ((x : ℕ) → Contains l x → h s ≡ h x → s ≡ x)
          → ((x : ℕ) × Contains (y ∷ l) x × (h s ≡ h x) × (s ≢ x)) ⊎ ((x : ℕ) → Contains (y ∷ l) x → h s ≡ h x → s ≡ x)
      by k is b eq (inl (x, c, e, differ)) = inl (x, other_one y x l c, e, differ)
      by true is false eq (inr each) = inl (y, first_one y l, grind (arith, nat_tests, is), λ same. grind (arith, nat_tests, eq, same))
      by true is true eq (inr each) = inr (λ x c e. elim (one_of y x l c) [
        | inl same ↦ (let here : s ≡ y = grind (arith, nat_tests, eq) in here ∙ same)
        | inr behind ↦ each x behind e
      ])
      by false is b eq (inr each) = inr (λ x c e. elim (one_of y x l c) [
        | inl same ↦ absurd (let both : h s ≡ h y = e ∙ sym (ap h same) in grind (arith, nat_tests, is, both))
        | inr behind ↦ each x behind e
      ])

  two_or_apart : (l : List ℕ) → HaveOneKey l ⊎ Apart l
  two_or_apart [] = inr (λ x y in_x in_y e. absurd (none_in x in_x))
  two_or_apart (s ∷ l) = by (beside s l) (two_or_apart l)
    where
      by : ((x : ℕ) × Contains l x × (h s ≡ h x) × (s ≢ x)) ⊎ ((x : ℕ) → Contains l x → h s ≡ h x → s ≡ x) → HaveOneKey l ⊎ Apart l → HaveOneKey (s ∷ l) ⊎ Apart (s ∷ l)
      by (inl (x, c, e, differ)) rest = inl (record { one = s; other = x; is_one = first_one s l; is_other = other_one s x l c; differ = differ; same = e })
      by (inr each) (inl two) = inl (record {
        one = two.one;
        other = two.other;
        is_one = other_one s two.one l two.is_one;
        is_other = other_one s two.other l two.is_other;
        differ = two.differ;
        same = two.same;
      })
      by (inr each) (inr apart) = inr (λ x y in_x in_y e. elim (one_of s x l in_x) [
        | inl is_x ↦ elim (one_of s y l in_y) [
          | inl is_y ↦ sym is_x ∙ is_y
          | inr behind ↦ sym is_x ∙ each y behind (ap h is_x ∙ e)
        ]
        | inr before ↦ elim (one_of s y l in_y) [
          | inl is_y ↦ sym (each x before (ap h is_y ∙ sym e)) ∙ is_y
          | inr behind ↦ apart x y before behind e
        ]
      ])

  -- two orders of the same numbers are one, or two of them have one key
  pub one_of_orders : (l a b : List ℕ) → IsPermutation l a → IsPermutation l b → AllAdjacentBelow (λ x y. h x ≤ h y) a (length a) → AllAdjacentBelow (λ x y. h x ≤ h y) b (length b)
      → (a ≡ b) ⊎ HaveOneKey l
  one_of_orders l a b pa pb ra rb = elim (two_or_apart l) [
    | inl two ↦ inr two
    | inr apart ↦ inl (one_order a b
        (λ f. sum_by-IsPermutation f l a pa ∙ sym (sum_by-IsPermutation f l b pb))
        (rises_by a (IsNonDecreasingBy-from_all_adjacent h a ra)) (rises_by b (IsNonDecreasingBy-from_all_adjacent h b rb))
        (λ x y in_a in_b e. apart x y (Contains-permutation a l x (IsPermutation-sym l a pa) in_a) (Contains-permutation b l y (IsPermutation-sym l b pb) in_b) e))
  ]
