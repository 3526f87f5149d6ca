-- How many bytes the parts of a header have.
use Rattle.std.proofs.Common.{◌≡◌, ℕ, ◌+◌, ◌*◌, ◌<◌, ◌≤◌, ◌⊎◌, cond, List, [], ◌∷◌, ◌++◌, length, All, ap, inl, inr, arith}
use Rattle.std.specs.List.{flat_map}
use Rattle.std.proofs.lemmas.Bool.{cases_lt, lt-ltb, le-ltb}
use Rattle.std.proofs.lemmas.List.{length-append}
use Rattle.std.proofs.lemmas.List.Elements.{All-head, All-tail}
use Rattle.tg_car.specs.CarText.{IsRoot, string_head, array_head, root_text, header_map}
use Rattle.tg_car.specs.HeaderState.{CanBe, IsMapSize, map_back}

-- a head has one byte below 24, and two from there on
pub string_head_is : (n : ℕ) → ((n < 24) × (string_head n ≡ (0x40 + n) ∷ [])) ⊎ ((24 ≤ n) × (string_head n ≡ 0x58 ∷ n ∷ []))
string_head_is n = elim (cases_lt n 24) [
  | inl l ↦ inl (l, ap (λ b. cond b ((0x40 + n) ∷ []) (0x58 ∷ n ∷ [])) (lt-ltb n 24 l))
  | inr h ↦ inr (h, ap (λ b. cond b ((0x40 + n) ∷ []) (0x58 ∷ n ∷ [])) (le-ltb n 24 h))
]

pub array_head_is : (n : ℕ) → ((n < 24) × (array_head n ≡ (0x80 + n) ∷ [])) ⊎ ((24 ≤ n) × (array_head n ≡ 0x98 ∷ n ∷ []))
array_head_is n = elim (cases_lt n 24) [
  | inl l ↦ inl (l, ap (λ b. cond b ((0x80 + n) ∷ []) (0x98 ∷ n ∷ [])) (lt-ltb n 24 l))
  | inr h ↦ inr (h, ap (λ b. cond b ((0x80 + n) ∷ []) (0x98 ∷ n ∷ [])) (le-ltb n 24 h))
]

pub root_size : (root : List ℕ) → ((length root < 24) × (length (root_text root) ≡ length root + 3))
    ⊎ ((24 ≤ length root) × (length (root_text root) ≡ length root + 4))
root_size root =
    let parts : length (string_head (length root) ++ root) ≡ length (string_head (length root)) + length root =
    length-append (string_head (length root)) root in
    elim (string_head_is (length root)) [
      | inl s ↦ (let head : length (string_head (length root)) ≡ 1 = ap length s.1 in inl (s.0, omega arith))
      | inr s ↦ (let head : length (string_head (length root)) ≡ 2 = ap length s.1 in inr (s.0, omega arith))
    ]

-- a root has 5 to 204 bytes, and none has 27
pub root_bounds : (root : List ℕ) → IsRoot root
    → (5 ≤ length (root_text root)) × (length (root_text root) ≤ 204) × (length (root_text root) ≡ 27 → ⊥)
root_bounds root is =
    let low : 2 ≤ length root = is.low in
    let high : length root ≤ 200 = is.high in
    elim (root_size root) [
      | inl s ↦ (let below : length root < 24 = s.0 in let size : length (root_text root) ≡ length root + 3 = s.1 in
          (omega arith, omega arith, λ e. omega arith))
      | inr s ↦ (let above : 24 ≤ length root = s.0 in let size : length (root_text root) ≡ length root + 4 = s.1 in
          (omega arith, omega arith, λ e. omega arith))
    ]

pub one_more : (count bytes first : ℕ) → CanBe count bytes → 5 ≤ first → first ≤ 204 → (first ≡ 27 → ⊥) → CanBe (count + 1) (first + bytes)
one_more count bytes first h low high hole =
    let least : 5 * count ≤ bytes = h.0 in
    let most : bytes ≤ 204 * count = h.1 in
    (omega arith, omega arith, λ one whole. hole (omega arith))

pub roots_can_be : (roots : List (List ℕ)) → All IsRoot roots → CanBe (length roots) (length (flat_map root_text roots))
roots_can_be [] each = (omega arith, omega arith, λ one whole. omega arith)
roots_can_be (root ∷ roots) each =
    let first = root_bounds root (All-head IsRoot root roots each) in
    let rest = roots_can_be roots (All-tail IsRoot root roots each) in
    let parts : length (flat_map root_text (root ∷ roots)) ≡ length (root_text root) + length (flat_map root_text roots) =
    length-append (root_text root) (flat_map root_text roots) in
    let all = one_more (length roots) (length (flat_map root_text roots)) (length (root_text root)) rest first.0 first.1 first.2 in
    let least : 5 * (length roots + 1) ≤ length (root_text root) + length (flat_map root_text roots) = all.0 in
    let most : length (root_text root) + length (flat_map root_text roots) ≤ 204 * (length roots + 1) = all.1 in
    (omega arith, omega arith, λ one whole. all.2 (omega arith) (omega arith))

-- the map's size, for each form of the array's head
pub map_size : (roots : List (List ℕ))
    → ((length roots < 24) × (length (header_map roots) ≡ 17 + length (flat_map root_text roots)))
    ⊎ ((24 ≤ length roots) × (length (header_map roots) ≡ 18 + length (flat_map root_text roots)))
map_size roots =
    let head = array_head (length roots) in
    let back : length (flat_map root_text roots ++ map_back) ≡ length (flat_map root_text roots) + 9 =
    length-append (flat_map root_text roots) map_back in
    let parts : length (array_head (length roots) ++ (flat_map root_text roots ++ map_back))
    ≡ length (array_head (length roots)) + length (flat_map root_text roots ++ map_back) =
    length-append (array_head (length roots)) (flat_map root_text roots ++ map_back) in
    elim (array_head_is (length roots)) [
      | inl s ↦ (let one : length (array_head (length roots)) ≡ 1 = ap length s.1 in inl (s.0, omega arith))
      | inr s ↦ (let two : length (array_head (length roots)) ≡ 2 = ap length s.1 in inr (s.0, omega arith))
    ]

pub map_size_is : (roots : List (List ℕ)) → length roots ≤ 64 → All IsRoot roots → IsMapSize (length (header_map roots))
map_size_is roots few each =
    let can = roots_can_be roots each in
    let least : 5 * length roots ≤ length (flat_map root_text roots) = can.0 in
    let most : length (flat_map root_text roots) ≤ 204 * length roots = can.1 in
    elim (map_size roots) [
      | inl s ↦ (let below : length roots < 24 = s.0 in
          let size : length (header_map roots) ≡ 17 + length (flat_map root_text roots) = s.1 in
          (omega arith, omega arith, λ small. omega arith))
      | inr s ↦ (let above : 24 ≤ length roots = s.0 in
          let size : length (header_map roots) ≡ 18 + length (flat_map root_text roots) = s.1 in
          (omega arith, omega arith, λ small. omega arith))
    ]
