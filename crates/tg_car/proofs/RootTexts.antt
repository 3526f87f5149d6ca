-- The first of some roots, and what is behind it.
use Rattle.std.proofs.Common.{◌≡◌, ℕ, ◌+◌, ◌-◌, ◌<◌, ◌≤◌, ◌⊎◌, List, [], ◌∷◌, ◌++◌, length, All, ap, sym, ◌∙◌, refl, subst, inl, inr, arith}
use Rattle.std.specs.List.{flat_map}
use Rattle.std.proofs.lemmas.List.{length-append, append_assoc}
use Rattle.std.proofs.lemmas.List.Elements.{All-head, All-tail, All-cons}
use Rattle.tg_car.specs.CarText.{IsRoot, string_head, root_text}
use Rattle.tg_car.specs.HeaderState.{CanBe, RootsThen, map_back, Follows}
use Rattle.tg_car.specs.declared.header_state.Roots.{Roots}
use Rattle.tg_car.specs.declared.header_state.HeaderState.TheVariants as states
use Rattle.tg_car.proofs.Sizes.{string_head_is, root_size, roots_can_be}

-- the first of so many roots, of so many bytes together
pub record FirstRoot (count bytes : ℕ) (rest : List ℕ) : Type 0 where
  pub root : List ℕ
  pub more : List ℕ
  pub left : ℕ
  pub is : IsRoot root
  pub whole : rest ≡ root_text root ++ more
  pub bytes_is : bytes ≡ length (root_text root) + left
  pub behind : RootsThen (count - 1) left more

first_of_roots : (count bytes : ℕ) (rest : List ℕ) (roots : List (List ℕ)) → 0 < count → All IsRoot roots → length roots ≡ count
    → length (flat_map root_text roots) ≡ bytes → rest ≡ flat_map root_text roots ++ map_back → FirstRoot count bytes rest
first_of_roots count bytes rest [] some each e size whole = absurd (omega arith)
first_of_roots count bytes rest (root ∷ roots) some each e size whole = record {
  root = root;
  more = flat_map root_text roots ++ map_back;
  left = length (flat_map root_text roots);
  is = All-head IsRoot root roots each;
  whole = whole ∙ append_assoc (root_text root) (flat_map root_text roots) map_back;
  bytes_is = sym size ∙ length-append (root_text root) (flat_map root_text roots);
  behind = record {
    roots = roots;
    each = All-tail IsRoot root roots each;
    count_is = omega arith;
    bytes_is = refl;
    whole = refl;
  };
}

pub first_root : (count bytes : ℕ) (rest : List ℕ) → 0 < count → RootsThen count bytes rest → FirstRoot count bytes rest
first_root count bytes rest some h = first_of_roots count bytes rest h.roots some h.each h.count_is h.bytes_is h.whole

pub with_root : (count bytes : ℕ) (rest : List ℕ) → 0 < count → FirstRoot count bytes rest → RootsThen count bytes rest
with_root count bytes rest some f =
    let behind = f.behind in
    let fewer : length behind.roots ≡ count - 1 = behind.count_is in
    record {
      roots = f.root ∷ behind.roots;
      each = All-cons IsRoot f.root behind.roots f.is behind.each;
      count_is = omega arith;
      bytes_is = length-append (root_text f.root) (flat_map root_text behind.roots)
          ∙ (ap (λ n. length (root_text f.root) + n) behind.bytes_is ∙ sym f.bytes_is);
      whole = f.whole ∙ (ap (λ l. root_text f.root ++ l) behind.whole
          ∙ sym (append_assoc (root_text f.root) (flat_map root_text behind.roots) map_back));
    }

pub roots_then_can_be : (count bytes : ℕ) (rest : List ℕ) → RootsThen count bytes rest → CanBe count bytes
roots_then_can_be count bytes rest h =
    subst (λ n. CanBe n bytes) h.count_is (subst (λ n. CanBe (length h.roots) n) h.bytes_is (roots_can_be h.roots h.each))

-- the byte string of a root behind each form of its head
pub behind_head : (byte : ℕ) (rest root more : List ℕ) → 0xd8 ∷ 0x2a ∷ byte ∷ rest ≡ root_text root ++ more
    → ((length root < 24) × (byte ≡ 0x40 + length root) × (rest ≡ root ++ more))
    ⊎ ((24 ≤ length root) × (byte ≡ 0x58) × (rest ≡ length root ∷ (root ++ more)))
behind_head byte rest root more e =
    let inner : byte ∷ rest ≡ (string_head (length root) ++ root) ++ more = cc in
    elim (string_head_is (length root)) [
      | inl s ↦ (let computed : byte ∷ rest ≡ (0x40 + length root) ∷ (root ++ more) =
          inner ∙ ap (λ l. (l ++ root) ++ more) s.1 in
          inl (s.0, cc, cc))
      | inr s ↦ (let computed : byte ∷ rest ≡ 0x58 ∷ length root ∷ (root ++ more) =
          inner ∙ ap (λ l. (l ++ root) ++ more) s.1 in
          inr (s.0, cc, cc))
    ]

-- a root's bytes, and then so many roots of so many bytes
pub record RootThen (size count bytes : ℕ) (rest : List ℕ) : Type 0 where
  pub root : List ℕ
  pub more : List ℕ
  pub is : IsRoot root
  pub size_is : length root ≡ size
  pub whole : rest ≡ root ++ more
  pub behind : RootsThen count bytes more

pub zero_then : (size : ℕ) (roots : Roots) (rest : List ℕ) → RootThen size roots.count roots.bytes rest → Follows (states.Zero size roots) rest
zero_then size roots rest h =
    let root = h.is in
    let long : length h.root ≡ length root.rest + 1 = ap length root.begins ∙ (omega arith) in (
      root.rest ++ h.more,
      h.whole ∙ ap (λ l. l ++ h.more) root.begins,
      length root.rest,
      sym h.size_is ∙ long,
      record {
        front = root.rest;
        more = h.more;
        whole = refl;
        left_is = refl;
        are_bytes = All-tail (λ b. b < 256) 0 root.rest (subst (λ l. All (λ b. b < 256) l) root.begins root.are_bytes);
        behind = h.behind;
      },
    )

pub then_zero : (size : ℕ) (roots : Roots) (rest : List ℕ) → 2 ≤ size → size ≤ 200 → Follows (states.Zero size roots) rest → RootThen size roots.count roots.bytes rest
then_zero size roots rest low high h =
    let b = h.4 in
    let long : length b.front ≡ h.2 = b.left_is in
    let size_is : size ≡ h.2 + 1 = h.3 in
    record {
      root = 0 ∷ b.front;
      more = b.more;
      is = record {
        rest = b.front;
        begins = refl;
        low = omega arith;
        high = omega arith;
        are_bytes = All-cons (λ n. n < 256) 0 b.front (omega arith) b.are_bytes;
      };
      size_is = omega arith;
      whole = h.1 ∙ ap (λ l. 0 ∷ l) b.whole;
      behind = b.behind;
    }

-- the roots from the head of the first one's byte string on, where that head is of one byte
pub short_to : (count bytes size : ℕ) (rest : List ℕ) → 0 < count → size < 24
    → RootsThen count bytes (0xd8 ∷ 0x2a ∷ (0x40 + size) ∷ rest)
    → (size + 3 ≤ bytes) × RootThen size (count - 1) (bytes - (size + 3)) rest
short_to count bytes size rest some small h =
    let f = first_root count bytes (0xd8 ∷ 0x2a ∷ (0x40 + size) ∷ rest) some h in
    let bytes_is : bytes ≡ length (root_text f.root) + f.left = f.bytes_is in
    elim (behind_head (0x40 + size) rest f.root f.more f.whole) [
      | inl s ↦ (let same : length f.root ≡ size = omega (arith, s.1) in
          let long : length (root_text f.root) ≡ size + 3 = elim (root_size f.root) [ inl r ↦ omega (arith, r.1) | inr r ↦ omega (arith, r.0) ] in
          let left : f.left ≡ bytes - (size + 3) = omega arith in
          (omega arith, record { root = f.root; more = f.more; is = f.is; size_is = same; whole = s.2; behind = subst (λ n. RootsThen (count - 1) n f.more) left f.behind }))
      | inr s ↦ absurd (omega (arith, s.1))
    ]

pub short_from : (count bytes size : ℕ) (rest : List ℕ) → 0 < count → size < 24 → size + 3 ≤ bytes
    → RootThen size (count - 1) (bytes - (size + 3)) rest → RootsThen count bytes (0xd8 ∷ 0x2a ∷ (0x40 + size) ∷ rest)
short_from count bytes size rest some small enough h =
    let same : length h.root ≡ size = h.size_is in
    let long : length (root_text h.root) ≡ size + 3 = elim (root_size h.root) [ inl r ↦ omega (arith, r.1) | inr r ↦ omega (arith, r.0) ] in
    let head : string_head (length h.root) ≡ (0x40 + size) ∷ [] =
    elim (string_head_is (length h.root)) [ inl s ↦ s.1 ∙ ap (λ n. (0x40 + n) ∷ []) same | inr s ↦ absurd (omega (arith, s.0)) ] in
    with_root count bytes (0xd8 ∷ 0x2a ∷ (0x40 + size) ∷ rest) some (record {
      root = h.root;
      more = h.more;
      left = bytes - (size + 3);
      is = h.is;
      whole = ap (λ l. 0xd8 ∷ 0x2a ∷ (0x40 + size) ∷ l) h.whole ∙ sym (ap (λ l. 0xd8 ∷ 0x2a ∷ ((l ++ h.root) ++ h.more)) head);
      bytes_is = omega arith;
      behind = h.behind;
    })

-- the same, where it is of two
pub long_to : (count bytes size : ℕ) (rest : List ℕ) → 0 < count
    → RootsThen count bytes (0xd8 ∷ 0x2a ∷ 0x58 ∷ size ∷ rest)
    → (24 ≤ size) × (size ≤ 200) × (size + 4 ≤ bytes) × RootThen size (count - 1) (bytes - (size + 4)) rest
long_to count bytes size rest some h =
    let f = first_root count bytes (0xd8 ∷ 0x2a ∷ 0x58 ∷ size ∷ rest) some h in
    let bytes_is : bytes ≡ length (root_text f.root) + f.left = f.bytes_is in
    let is = f.is in
    let high : length f.root ≤ 200 = is.high in
    elim (behind_head 0x58 (size ∷ rest) f.root f.more f.whole) [
      | inl s ↦ absurd (omega (arith, s.0, s.1))
      | inr s ↦ (let tails : size ∷ rest ≡ length f.root ∷ (f.root ++ f.more) = s.2 in
          let same : length f.root ≡ size = cc in
          let above : 24 ≤ length f.root = s.0 in
          let long : length (root_text f.root) ≡ size + 4 = elim (root_size f.root) [ inl r ↦ omega (arith, r.0) | inr r ↦ omega (arith, r.1) ] in
          let left : f.left ≡ bytes - (size + 4) = omega arith in (
            omega arith,
            omega arith,
            omega arith,
            record { root = f.root; more = f.more; is = f.is; size_is = same; whole = cc; behind = subst (λ n. RootsThen (count - 1) n f.more) left f.behind },
          ))
    ]

pub long_from : (count bytes size : ℕ) (rest : List ℕ) → 0 < count → 24 ≤ size → size + 4 ≤ bytes
    → RootThen size (count - 1) (bytes - (size + 4)) rest → RootsThen count bytes (0xd8 ∷ 0x2a ∷ 0x58 ∷ size ∷ rest)
long_from count bytes size rest some large enough h =
    let same : length h.root ≡ size = h.size_is in
    let long : length (root_text h.root) ≡ size + 4 = elim (root_size h.root) [ inl r ↦ omega (arith, r.0) | inr r ↦ omega (arith, r.1) ] in
    let head : string_head (length h.root) ≡ 0x58 ∷ size ∷ [] =
    elim (string_head_is (length h.root)) [ inl s ↦ absurd (omega (arith, s.0)) | inr s ↦ s.1 ∙ ap (λ n. 0x58 ∷ n ∷ []) same ] in
    with_root count bytes (0xd8 ∷ 0x2a ∷ 0x58 ∷ size ∷ rest) some (record {
      root = h.root;
      more = h.more;
      left = bytes - (size + 4);
      is = h.is;
      whole = ap (λ l. 0xd8 ∷ 0x2a ∷ 0x58 ∷ size ∷ l) h.whole ∙ sym (ap (λ l. 0xd8 ∷ 0x2a ∷ ((l ++ h.root) ++ h.more)) head);
      bytes_is = omega arith;
      behind = h.behind;
    })
