-- What is written: a header of one root, and what stands before a block.
use Rattle.std.proofs.Common.{◌≡◌, ℕ, ◌+◌, ◌<◌, ◌≤◌, List, [], ◌∷◌, ◌++◌, length, take, drop, All, ap, sym, ◌∙◌, refl, subst, inl, inr, arith}
use Rattle.std.proofs.lemmas.List.{append_assoc, append-nil, length-append, take_at, drop_at}
use Rattle.std.proofs.lemmas.List.Elements.{All-nil, All-cons}
use Rattle.std.specs.List.{flat_map}
use Rattle.tg_varint.specs.Varint.{VarintSpelling}
use Rattle.tg_cid.specs.Cid.{CidParts}
use Rattle.tg_cid.specs.Laws.{LengthLaws}
use Rattle.tg_cid.specs.Spelling.{CidBytes}
use Rattle.tg_car.specs.CarText.{IsRoot, string_head, root_text, header_map, HeaderText, SectionText}
use Rattle.tg_car.specs.HeaderState.{map_back}
use Rattle.tg_car.specs.Writing.{HeaderOf}
use Rattle.tg_car.proofs.Sizes.{map_size}

-- how many bytes the map of one root has
pub map_long : (name : List ℕ) → length (header_map ((0 ∷ name) ∷ [])) ≡ (length (string_head (length name + 1)) + length name) + 20
map_long name =
    let root : List ℕ = 0 ∷ name in
    let texts : length (flat_map root_text (root ∷ [])) ≡ length (root_text root) = ap length (append-nil (root_text root)) in
    let parts : length (string_head (length root) ++ root) ≡ length (string_head (length root)) + length root = length-append (string_head (length root)) root in
    let long : length root ≡ length name + 1 = omega arith in
    let head : length (string_head (length root)) ≡ length (string_head (length name + 1)) = ap (λ (n : ℕ). length (string_head n)) long in
    elim (map_size (root ∷ [])) [ inl m ↦ omega (arith, m.1) | inr m ↦ absurd (omega (arith, m.0)) ]

-- the header of one root
pub one_root : (name head size bytes : List ℕ) → 0 < length name → length name ≤ 133 → All (λ b. b < 256) name
    → VarintSpelling (length (header_map ((0 ∷ name) ∷ []))) size → head ≡ string_head (length name + 1)
    → bytes ≡ size ++ (0xa2 ∷ 0x65 ∷ 114 ∷ 111 ∷ 111 ∷ 116 ∷ 115 ∷ 0x81 ∷ 0xd8 ∷ 0x2a ∷ (head ++ 0 ∷ (name ++ map_back)))
    → HeaderText ((0 ∷ name) ∷ []) bytes
one_root name head size bytes some few are_bytes spelled is e =
    let root : List ℕ = 0 ∷ name in
    let long : length name + 1 ≡ length root = omega arith in
    let parts : head ++ 0 ∷ (name ++ map_back) ≡ (string_head (length root) ++ root) ++ map_back =
    ap (λ (l : List ℕ). l ++ 0 ∷ (name ++ map_back)) (is ∙ ap string_head long) ∙ sym (append_assoc (string_head (length root)) root map_back) in
    record {
      few = omega arith;
      each = All-cons IsRoot root [] (record {
        rest = name;
        begins = refl;
        low = omega arith;
        high = omega arith;
        are_bytes = All-cons (λ b. b < 256) 0 name (omega arith) are_bytes;
      }) (All-nil IsRoot);
      size = size;
      size_is = spelled;
      whole = e ∙ ap (λ (l : List ℕ). size ++ l) (
          ap (λ (l : List ℕ). 0xa2 ∷ 0x65 ∷ 114 ∷ 111 ∷ 111 ∷ 116 ∷ 115 ∷ 0x81 ∷ 0xd8 ∷ 0x2a ∷ l) parts
          ∙ sym (ap (λ (l : List ℕ). 0xa2 ∷ 0x65 ∷ 114 ∷ 111 ∷ 111 ∷ 116 ∷ 115 ∷ 0x81 ∷ (l ++ map_back)) (append-nil (root_text root))));
    }

-- what the writer puts together
pub one_header : LengthLaws → (cid : CidParts) (name head size bytes : List ℕ) (count : ℕ) → VarintSpelling count size
    → CidBytes (record cid { version = 1 }) name → length name ≤ 133 → count ≡ (length head + length name) + 20
    → head ≡ string_head (length name + 1)
    → bytes ≡ ((((size ++ (0xa2 ∷ 0x65 ∷ 114 ∷ 111 ∷ 111 ∷ 116 ∷ 115 ∷ 0x81 ∷ 0xd8 ∷ 0x2a ∷ [])) ++ head) ++ 0 ∷ []) ++ name) ++ map_back
    → HeaderOf cid bytes
one_header laws cid name head size bytes count spelled is few count_is head_is e =
    let map : count ≡ length (header_map ((0 ∷ name) ∷ [])) =
    count_is ∙ (ap (λ (l : List ℕ). (length l + length name) + 20) head_is ∙ sym (map_long name)) in
    let front : List ℕ = 0xa2 ∷ 0x65 ∷ 114 ∷ 111 ∷ 111 ∷ 116 ∷ 115 ∷ 0x81 ∷ 0xd8 ∷ 0x2a ∷ [] in
    let whole : bytes ≡ size ++ (front ++ (head ++ (0 ∷ [] ++ (name ++ map_back)))) =
    e ∙ (append_assoc (((size ++ front) ++ head) ++ 0 ∷ []) name map_back
    ∙ (append_assoc ((size ++ front) ++ head) (0 ∷ []) (name ++ map_back)
    ∙ (append_assoc (size ++ front) head (0 ∷ [] ++ (name ++ map_back)) ∙ append_assoc size front (head ++ (0 ∷ [] ++ (name ++ map_back)))))) in (
      name,
      is,
      one_root name head size bytes (laws.some (record cid { version = 1 }) name is) few (laws.are_bytes (record cid { version = 1 }) name is)
          (subst (λ (n : ℕ). VarintSpelling n size) map spelled) head_is whole,
    )

-- the length and the CID before a block
pub before_block : (cid : CidParts) (block size name bytes : List ℕ) (number : ℕ) → length block ≡ number → All (λ b. b < 256) block
    → VarintSpelling (length name + number) size → CidBytes cid name → bytes ≡ size ++ name
    → SectionText (record { cid = cid; block = block }) (bytes ++ block)
before_block cid block size name bytes number long are_bytes size_is name_is e = record {
  size = size;
  name = name;
  size_is = subst (λ n. VarintSpelling (length name + n) size) (sym long) size_is;
  name_is = name_is;
  are_bytes = are_bytes;
  whole = ap (λ l. l ++ block) e ∙ append_assoc size name block;
}

-- what was filled in, in front of the rest
pub front_of_room : (size name rest room : List ℕ) (n : ℕ) → room ≡ size ++ (name ++ rest) → n ≡ length size + length name
    → (take n room ≡ size ++ name) × (drop n room ≡ rest)
front_of_room size name rest room n e l =
    let both : room ≡ (size ++ name) ++ rest = e ∙ sym (append_assoc size name rest) in
    let long : length (size ++ name) ≡ n = length-append size name ∙ sym l in
    (ap (λ r. take n r) both ∙ take_at (size ++ name) rest n long, ap (λ r. drop n r) both ∙ drop_at (size ++ name) rest n long)
