-- The steps over the head of the array of roots.
use Rattle.std.proofs.Common.{◌≡◌, ◌↔◌, ℕ, ◌+◌, ◌-◌, ◌<◌, ◌≤◌, ◌⊎◌, Option, Some, None, Bool, true, false, List, [], ◌∷◌, ◌++◌, length, ap, sym, ◌∙◌, refl, subst, MatchOption, inl, inr, arith}
use Rattle.std.specs.Bool.{then_some}
use Rattle.std.specs.List.{flat_map}
use Rattle.tg_car.specs.CarText.{array_head, root_text, header_map}
use Rattle.tg_car.specs.HeaderState.{CanBe, IsLive, RootsThen, ArrayThen, Follows, GoesOn, map_back}
use Rattle.tg_car.specs.declared.header_state.HeaderState.{HeaderState}
use Rattle.tg_car.specs.declared.header_state.HeaderState.TheVariants as states
use Rattle.tg_car.proofs.Sizes.{array_head_is, map_size, roots_can_be}
use Rattle.tg_car.proofs.RootTexts.{roots_then_can_be}

-- the roots behind each form of the array's head
behind_array : (byte : ℕ) (rest : List ℕ) (roots : List (List ℕ)) → byte ∷ rest ≡ array_head (length roots) ++ (flat_map root_text roots ++ map_back)
    → ((length roots < 24) × (byte ≡ 0x80 + length roots) × (rest ≡ flat_map root_text roots ++ map_back))
    ⊎ ((24 ≤ length roots) × (byte ≡ 0x98) × (rest ≡ length roots ∷ (flat_map root_text roots ++ map_back)))
behind_array byte rest roots e =
    let back : List ℕ = flat_map root_text roots ++ map_back in
    elim (array_head_is (length roots)) [
      | inl s ↦ (let computed : byte ∷ rest ≡ (0x80 + length roots) ∷ back = e ∙ ap (λ l. l ++ back) s.1 in inl (s.0, cc, cc))
      | inr s ↦ (let computed : byte ∷ rest ≡ 0x98 ∷ length roots ∷ back = e ∙ ap (λ l. l ++ back) s.1 in inr (s.0, cc, cc))
    ]

-- the array from its head on, where that is of one byte
short_to : (count size : ℕ) (rest : List ℕ) → count < 24 → ArrayThen size ((0x80 + count) ∷ rest) → (17 ≤ size) × RootsThen count (size - 17) rest
short_to count size rest small h =
    let size_is : length (header_map h.roots) ≡ size = h.size_is in
    elim (behind_array (0x80 + count) rest h.roots h.whole) [
      | inl s ↦ (let same : length h.roots ≡ count = omega (arith, s.1) in
          let parts : length (header_map h.roots) ≡ 17 + length (flat_map root_text h.roots) =
          elim (map_size h.roots) [ inl m ↦ m.1 | inr m ↦ absurd (omega (arith, m.0)) ] in
          (omega arith, record { roots = h.roots; each = h.each; count_is = same; bytes_is = omega arith; whole = s.2 }))
      | inr s ↦ absurd (omega (arith, s.1))
    ]

pub short_from : (count size : ℕ) (rest : List ℕ) → count < 24 → 17 ≤ size → RootsThen count (size - 17) rest → ArrayThen size ((0x80 + count) ∷ rest)
short_from count size rest small enough h =
    let same : length h.roots ≡ count = h.count_is in
    let bytes_is : length (flat_map root_text h.roots) ≡ size - 17 = h.bytes_is in
    let parts : length (header_map h.roots) ≡ 17 + length (flat_map root_text h.roots) =
    elim (map_size h.roots) [ inl m ↦ m.1 | inr m ↦ absurd (omega (arith, m.0)) ] in
    let head : array_head (length h.roots) ≡ (0x80 + count) ∷ [] =
    elim (array_head_is (length h.roots)) [ inl s ↦ s.1 ∙ ap (λ n. (0x80 + n) ∷ []) same | inr s ↦ absurd (omega (arith, s.0)) ] in
    record {
      roots = h.roots;
      few = omega arith;
      each = h.each;
      size_is = omega arith;
      whole = ap (λ l. (0x80 + count) ∷ l) h.whole ∙ sym (ap (λ l. l ++ (flat_map root_text h.roots ++ map_back)) head);
    }

-- the same, where it is of two
long_to : (count size : ℕ) (rest : List ℕ) → ArrayThen size (0x98 ∷ count ∷ rest)
    → (24 ≤ count) × (count ≤ 64) × (18 ≤ size) × RootsThen count (size - 18) rest
long_to count size rest h =
    let size_is : length (header_map h.roots) ≡ size = h.size_is in
    let few : length h.roots ≤ 64 = h.few in
    elim (behind_array 0x98 (count ∷ rest) h.roots h.whole) [
      | inl s ↦ absurd (omega (arith, s.0, s.1))
      | inr s ↦ (let above : 24 ≤ length h.roots = s.0 in
          let tails : count ∷ rest ≡ length h.roots ∷ (flat_map root_text h.roots ++ map_back) = s.2 in
          let same : length h.roots ≡ count = cc in
          let parts : length (header_map h.roots) ≡ 18 + length (flat_map root_text h.roots) =
          elim (map_size h.roots) [ inl m ↦ absurd (omega (arith, m.0)) | inr m ↦ m.1 ] in (
            omega arith,
            omega arith,
            omega arith,
            record { roots = h.roots; each = h.each; count_is = same; bytes_is = omega arith; whole = cc },
          ))
    ]

pub long_from : (count size : ℕ) (rest : List ℕ) → 24 ≤ count → count ≤ 64 → 18 ≤ size → RootsThen count (size - 18) rest → ArrayThen size (0x98 ∷ count ∷ rest)
long_from count size rest large few enough h =
    let same : length h.roots ≡ count = h.count_is in
    let bytes_is : length (flat_map root_text h.roots) ≡ size - 18 = h.bytes_is in
    let parts : length (header_map h.roots) ≡ 18 + length (flat_map root_text h.roots) =
    elim (map_size h.roots) [ inl m ↦ absurd (omega (arith, m.0)) | inr m ↦ m.1 ] in
    let head : array_head (length h.roots) ≡ 0x98 ∷ count ∷ [] =
    elim (array_head_is (length h.roots)) [ inl s ↦ absurd (omega (arith, s.0)) | inr s ↦ s.1 ∙ ap (λ n. 0x98 ∷ n ∷ []) same ] in
    record {
      roots = h.roots;
      few = omega arith;
      each = h.each;
      size_is = omega arith;
      whole = ap (λ l. 0x98 ∷ count ∷ l) h.whole ∙ sym (ap (λ l. l ++ (flat_map root_text h.roots ++ map_back)) head);
    }

-- what `roots_of` answers
abbrev pub IsRootsOf : ℕ → ℕ → Option HeaderState → Type 0
IsRootsOf count bytes result = MatchOption result (CanBe count bytes → ⊥)
    (λ state. (state ≡ states.Root (record { count = count; bytes = bytes })) × CanBe count bytes)

pub short_step : (count size bytes : ℕ) (result : Option HeaderState) → count < 24 → bytes + 17 ≡ size → IsRootsOf count bytes result
    → GoesOn (states.ArrayHead size) (0x80 + count) result
short_step count size bytes None small e h = λ live rest f.
    let t = short_to count size rest small f in
    let left : size - 17 ≡ bytes = omega arith in
    h (subst (λ n. CanBe count n) left (roots_then_can_be count (size - 17) rest t.1))
short_step count size bytes (Some state) small e h = λ live.
    let left : size - 17 ≡ bytes = omega arith in
    let P : HeaderState → Type 0 = λ s. IsLive s × ((rest : List ℕ) → Follows (states.ArrayHead size) ((0x80 + count) ∷ rest) ↔ Follows s rest) in
    subst P (sym h.0) (
      h.1,
      λ rest. (
        λ f. subst (λ n. RootsThen count n rest) left (short_to count size rest small f).1,
        λ f. short_from count size rest small (omega arith) (subst (λ n. RootsThen count n rest) (sym left) f),
      ),
    )

pub long_step : (count size bytes : ℕ) (result : Option HeaderState) → 24 ≤ count → count ≤ 64 → bytes + 18 ≡ size → IsRootsOf count bytes result
    → GoesOn (states.ArrayCount size) count result
long_step count size bytes None large few e h = λ live rest f.
    let t = long_to count size rest f in
    let left : size - 18 ≡ bytes = omega arith in
    h (subst (λ n. CanBe count n) left (roots_then_can_be count (size - 18) rest t.3))
long_step count size bytes (Some state) large few e h = λ live.
    let left : size - 18 ≡ bytes = omega arith in
    let P : HeaderState → Type 0 = λ s. IsLive s × ((rest : List ℕ) → Follows (states.ArrayCount size) (count ∷ rest) ↔ Follows s rest) in
    subst P (sym h.0) (
      h.1,
      λ rest. (
        λ f. subst (λ n. RootsThen count n rest) left (long_to count size rest f).3,
        λ f. long_from count size rest large few (omega arith) (subst (λ n. RootsThen count n rest) (sym left) f),
      ),
    )

-- a count of 24 roots or more, where there is room for so many
long_fits : (size : ℕ) (rest : List ℕ) → ArrayThen size (0x98 ∷ rest) → 138 ≤ size
long_fits size rest h =
    let size_is : length (header_map h.roots) ≡ size = h.size_is in
    let can = roots_can_be h.roots h.each in
    elim (behind_array 0x98 rest h.roots h.whole) [
      | inl s ↦ absurd (omega (arith, s.0, s.1))
      | inr s ↦ elim (map_size h.roots) [
        | inl m ↦ absurd (omega (arith, s.0, m.0))
        | inr m ↦ omega (arith, s.0, m.1, can.0)
      ]
    ]

pub long_next : (size : ℕ) (fits : Bool) → (fits ≡ true → 138 ≤ size) → (fits ≡ false → size < 138)
    → GoesOn (states.ArrayHead size) 0x98 (then_some fits (states.ArrayCount size))
long_next size true fit below = λ live. ((fit refl, live.1), λ rest. (λ f. f, λ f. f))
long_next size false fit below = λ live rest f.
    let fits : 138 ≤ size = long_fits size rest f in
    omega (arith, below refl)
