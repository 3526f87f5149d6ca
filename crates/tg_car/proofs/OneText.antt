-- No header begins another, and a list of roots has one.
use Rattle.std.proofs.Common.{◌≡◌, ℕ, ◌+◌, List, [], ◌∷◌, ◌++◌, length, ap, ap₂, sym, ◌∙◌, refl, inl, inr, arith}
use Rattle.std.specs.List.{flat_map}
use Rattle.std.proofs.lemmas.List.{append_assoc}
use Rattle.tg_bytes.specs.Lists.{same_front}
use Rattle.tg_car.specs.TextLaws.{TextLaws}
use Rattle.tg_varint.specs.Varint.{VarintSpelling}
use Rattle.tg_car.specs.CarText.{string_head, array_head, root_text, header_map, HeaderText}
use Rattle.tg_car.specs.HeaderState.{map_back}
use Rattle.tg_car.proofs.Sizes.{string_head_is, array_head_is}

-- no varint begins another
abbrev pub VarintsOnce : Type 0
VarintsOnce = (m n : ℕ) (a b x y : List ℕ) → VarintSpelling m a → VarintSpelling n b → a ++ x ≡ b ++ y → (a ≡ b) × (m ≡ n)

-- no byte string begins another
same_strings : (p q x y : List ℕ) → (string_head (length p) ++ p) ++ x ≡ (string_head (length q) ++ q) ++ y → (p ≡ q) × (x ≡ y)
same_strings p q x y e = elim (string_head_is (length p)) [
  | inl s ↦ elim (string_head_is (length q)) [
    | inl t ↦ (let parts : (0x40 + length p) ∷ (p ++ x) ≡ (0x40 + length q) ∷ (q ++ y) =
        sym (ap (λ l. (l ++ p) ++ x) s.1) ∙ (e ∙ ap (λ l. (l ++ q) ++ y) t.1) in
        let heads : 0x40 + length p ≡ 0x40 + length q = cc in
        same_front p q x y (omega arith) cc)
    | inr t ↦ (let parts : (0x40 + length p) ∷ (p ++ x) ≡ 0x58 ∷ length q ∷ (q ++ y) =
        sym (ap (λ l. (l ++ p) ++ x) s.1) ∙ (e ∙ ap (λ l. (l ++ q) ++ y) t.1) in
        let heads : 0x40 + length p ≡ 0x58 = cc in
        absurd (omega (arith, s.0)))
  ]
  | inr s ↦ elim (string_head_is (length q)) [
    | inl t ↦ (let parts : 0x58 ∷ length p ∷ (p ++ x) ≡ (0x40 + length q) ∷ (q ++ y) =
        sym (ap (λ l. (l ++ p) ++ x) s.1) ∙ (e ∙ ap (λ l. (l ++ q) ++ y) t.1) in
        let heads : 0x58 ≡ 0x40 + length q = cc in
        absurd (omega (arith, t.0)))
    | inr t ↦ (let parts : 0x58 ∷ length p ∷ (p ++ x) ≡ 0x58 ∷ length q ∷ (q ++ y) =
        sym (ap (λ l. (l ++ p) ++ x) s.1) ∙ (e ∙ ap (λ l. (l ++ q) ++ y) t.1) in
        let long : length p ≡ length q = cc in
        same_front p q x y long cc)
  ]
]

same_roots : (a b : List (List ℕ)) (x y : List ℕ) → length a ≡ length b → flat_map root_text a ++ x ≡ flat_map root_text b ++ y → a ≡ b
same_roots [] [] x y l e = refl
same_roots [] (q ∷ b) x y l e = absurd (omega arith)
same_roots (p ∷ a) [] x y l e = absurd (omega arith)
same_roots (p ∷ a) (q ∷ b) x y l e =
    let parts : root_text p ++ (flat_map root_text a ++ x) ≡ root_text q ++ (flat_map root_text b ++ y) =
    sym (append_assoc (root_text p) (flat_map root_text a) x) ∙ (e ∙ append_assoc (root_text q) (flat_map root_text b) y) in
    let strings : (string_head (length p) ++ p) ++ (flat_map root_text a ++ x) ≡ (string_head (length q) ++ q) ++ (flat_map root_text b ++ y) = cc in
    let first = same_strings p q (flat_map root_text a ++ x) (flat_map root_text b ++ y) strings in
    ap₂ (λ r rs. r ∷ rs) first.0 (same_roots a b x y (omega arith) first.1)

-- the arrays of roots from their heads on
same_arrays : (a b : List (List ℕ)) → array_head (length a) ++ (flat_map root_text a ++ map_back) ≡ array_head (length b) ++ (flat_map root_text b ++ map_back) → a ≡ b
same_arrays a b e = elim (array_head_is (length a)) [
  | inl s ↦ elim (array_head_is (length b)) [
    | inl t ↦ (let parts : (0x80 + length a) ∷ (flat_map root_text a ++ map_back) ≡ (0x80 + length b) ∷ (flat_map root_text b ++ map_back) =
        sym (ap (λ l. l ++ (flat_map root_text a ++ map_back)) s.1) ∙ (e ∙ ap (λ l. l ++ (flat_map root_text b ++ map_back)) t.1) in
        let heads : 0x80 + length a ≡ 0x80 + length b = cc in
        same_roots a b map_back map_back (omega arith) cc)
    | inr t ↦ (let parts : (0x80 + length a) ∷ (flat_map root_text a ++ map_back) ≡ 0x98 ∷ length b ∷ (flat_map root_text b ++ map_back) =
        sym (ap (λ l. l ++ (flat_map root_text a ++ map_back)) s.1) ∙ (e ∙ ap (λ l. l ++ (flat_map root_text b ++ map_back)) t.1) in
        let heads : 0x80 + length a ≡ 0x98 = cc in
        absurd (omega (arith, s.0)))
  ]
  | inr s ↦ elim (array_head_is (length b)) [
    | inl t ↦ (let parts : 0x98 ∷ length a ∷ (flat_map root_text a ++ map_back) ≡ (0x80 + length b) ∷ (flat_map root_text b ++ map_back) =
        sym (ap (λ l. l ++ (flat_map root_text a ++ map_back)) s.1) ∙ (e ∙ ap (λ l. l ++ (flat_map root_text b ++ map_back)) t.1) in
        let heads : 0x98 ≡ 0x80 + length b = cc in
        absurd (omega (arith, t.0)))
    | inr t ↦ (let parts : 0x98 ∷ length a ∷ (flat_map root_text a ++ map_back) ≡ 0x98 ∷ length b ∷ (flat_map root_text b ++ map_back) =
        sym (ap (λ l. l ++ (flat_map root_text a ++ map_back)) s.1) ∙ (e ∙ ap (λ l. l ++ (flat_map root_text b ++ map_back)) t.1) in
        let long : length a ≡ length b = cc in
        same_roots a b map_back map_back long cc)
  ]
]

pub one_header : VarintsOnce → (a b : List (List ℕ)) (u v x y : List ℕ) → HeaderText a u → HeaderText b v → u ++ x ≡ v ++ y → (u ≡ v) × (a ≡ b)
one_header once a b u v x y h k e =
    let left : u ++ x ≡ h.size ++ (header_map a ++ x) = ap (λ l. l ++ x) h.whole ∙ append_assoc h.size (header_map a) x in
    let right : v ++ y ≡ k.size ++ (header_map b ++ y) = ap (λ l. l ++ y) k.whole ∙ append_assoc k.size (header_map b) y in
    let parts : h.size ++ (header_map a ++ x) ≡ k.size ++ (header_map b ++ y) = sym left ∙ (e ∙ right) in
    let sizes = once (length (header_map a)) (length (header_map b)) h.size k.size (header_map a ++ x) (header_map b ++ y) h.size_is k.size_is parts in
    let maps = same_front h.size k.size (header_map a ++ x) (header_map b ++ y) (ap length sizes.0) parts in
    let map = same_front (header_map a) (header_map b) x y sizes.1 maps.1 in
    let same : header_map a ≡ header_map b = map.0 in (
      h.whole ∙ (ap₂ (λ p q. p ++ q) sizes.0 same ∙ sym k.whole),
      same_arrays a b cc,
    )

-- a list of roots has one header
pub header_text : TextLaws → (roots : List (List ℕ)) (u v : List ℕ) → HeaderText roots u → HeaderText roots v → u ≡ v
header_text laws roots u v h k =
    h.whole ∙ (ap (λ (l : List ℕ). l ++ header_map roots) (laws.varints.one_spelling (length (header_map roots)) h.size k.size h.size_is k.size_is) ∙ sym k.whole)
