-- The content of a file in the layout determines its DAG.
use Rattle.std.proofs.Common.{◌≡◌, ◌+◌, ◌-◌, ◌<◌, ◌≤◌, ℕ, zero, suc, List, [], ◌∷◌, ◌++◌, length, map, inl, inr, refl, sym, ap, ap₂, ◌∙◌, subst, arith}
use Rattle.std.proofs.lemmas.Bool.{cases_lt, cases_order}
use Rattle.std.proofs.lemmas.List.{append-nil, length-append}
use Rattle.std.proofs.lemmas.List.Concat.{flat_map-append}
use Rattle.std.proofs.lemmas.List.Elements.{All-cons, All-head, All-nil, All-tail}
use Rattle.std.specs.List.{flat_map}
use Rattle.std.specs.Prelude.{All}
use Rattle.tg_model.specs.Content.{content, content_at, content_of_children}
use Rattle.tg_model.specs.Dag.{Children, Dag, bare, blocks, no_child, node, total_of, unopened, with_child}
use Rattle.tg_model.specs.ImportLayout.{AreFull, AreLaidAt, HasBytes, HasLeavesAt, HasPlainCid, HaveLeavesAt, IsLaidAt, IsLaidFile, IsLeaf, LayoutOptions, leaves, leaves_of_children, level_widths}
use Rattle.tg_model.specs.Sound.{AreCheckedAt, IsCheckedAt, Position, part, top}
use Rattle.tg_model.specs.declared.kinds.Kind.TheVariants.{Basic, File, Raw, Shard, Symlink}
use Rattle.tg_layout_laws.proofs.Chunks.{Fill, at_least, same_parts}
use Rattle.tg_layout_laws.proofs.Nodes.{TextLaws, node_under}
use Rattle.tg_layout_laws.proofs.Rows.{Row, fill_from, child_list, next_row, next_leaves, next_widths, own_widths, widths_of}
use Rattle.tg_layout_laws.proofs.SameFiles.{AreLevelsFull, no_inline, same_leaf, same_rows}

-- ---- the content is that of the leaves

abbrev itself : List ℕ → List ℕ
itself bytes = bytes

mutual
  content_leaves : (laws : TextLaws) (options : LayoutOptions) (d : Dag) (depth : ℕ) (position : Position)
      → IsCheckedAt position d → IsLaidAt options position d → HasLeavesAt depth d
      → content_at position d ≡ flat_map itself (leaves d)
  content_leaves laws options (unopened cid) depth position checked laid even = absurd even
  content_leaves laws options (bare section fault) depth position checked laid even = absurd even
  content_leaves laws options (node section Raw children) depth position checked laid even =
      ap (λ (bytes : List ℕ). section.block ++ bytes) (no_content children)
  content_leaves laws options (node section (File inline filesize parts) children) zero position checked laid even =
      absurd even
  content_leaves laws options (node section (File inline filesize parts) children) (suc depth) position checked laid
      even =
      let under = node_under section.cid section.block (File inline filesize parts) (λ e. (cc)) checked.0.reads in
      let none = no_inline laws section.block inline filesize parts (map (λ p. []) parts) children
      (total_of section (File inline filesize parts)) (map (λ p. p.size) parts) under.reads laid.1 in
      ap (λ (bytes : List ℕ). bytes ++ content_of_children (map (λ p. part p.size) parts) children) none
      ∙ contents_leaves laws options children depth (map (λ p. part p.size) parts) checked.1 laid.2 even
  content_leaves laws options (node section (Basic es) children) depth position checked laid even = absurd even
  content_leaves laws options (node section (Shard slots) children) depth position checked laid even = absurd even
  content_leaves laws options (node section (Symlink target) children) depth position checked laid even = absurd even

  contents_leaves : (laws : TextLaws) (options : LayoutOptions) (children : Children) (depth : ℕ)
      (places : List Position) → AreCheckedAt places children → AreLaidAt options places children
      → HaveLeavesAt depth children → content_of_children places children ≡ flat_map itself
      (leaves_of_children children)
  contents_leaves laws options no_child depth places checked laid even = refl
  contents_leaves laws options (with_child d children) depth [] checked laid even = absurd checked
  contents_leaves laws options (with_child d children) depth (position ∷ places) checked laid even =
      ap₂ (λ a b. a ++ b) (content_leaves laws options d depth position checked.0 laid.0 even.0)
      (contents_leaves laws options children depth places checked.1 laid.1 even.1)
      ∙ sym (flat_map-append itself (leaves d) (leaves_of_children children))

  pub no_content : (children : Children) → content_of_children [] children ≡ []
  no_content no_child = refl
  no_content (with_child d children) = refl

-- ---- the leaves

-- all leaves have bytes where the content is longer than a chunk
some_bytes : (chunk : ℕ) (parts : List (List ℕ)) → AreFull chunk (map length parts) → HasBytes parts
    → chunk < length (flat_map itself parts) → All (λ n. 0 < n) (map length parts)
some_bytes chunk [] full some long = All-nil (λ n. 0 < n)
some_bytes chunk (leaf ∷ []) full some long =
    let most : length leaf ≤ chunk = full.last 0 (length leaf) (omega arith) refl in
    let is = length-append leaf [] in
    absurd (omega (arith, most, is, long))
some_bytes chunk (leaf ∷ other ∷ parts) full some long = each (leaf ∷ other ∷ parts) some
  where
    each : (parts : List (List ℕ)) → All (λ bytes. 0 < length bytes) parts → All (λ n. 0 < n) (map length parts)
    each [] h = All-nil (λ n. 0 < n)
    each (p ∷ parts) h = All-cons (λ n. 0 < n) (length p) (map length parts)
        (All-head (λ bytes. 0 < length bytes) p parts h) (each parts (All-tail (λ bytes. 0 < length bytes) p parts h))

-- ---- depths

-- the row so many links below
abbrev row_below : ℕ → List Dag → List Dag
row_below zero ds = ds
row_below (suc n) ds = row_below n (flat_map child_list ds)

record IsRowBelow (options : LayoutOptions) (depth : ℕ) (ds es : List Dag) : Type 0 where
  row : Row options depth es
  full : AreLevelsFull options.width es
  leaves_are : flat_map leaves ds ≡ flat_map leaves es
  many : length ds ≤ length es

go_below : (options : LayoutOptions) (more depth : ℕ) (ds : List Dag) → Row options (more + depth) ds
    → AreLevelsFull options.width ds → IsRowBelow options depth ds (row_below more ds)
go_below options zero depth ds h full = record {
  row = subst (λ n. Row options n ds) (let e : 0 + depth ≡ depth = omega arith in e) h;
  full = full;
  leaves_are =
      refl;
  many = omega arith;
}
go_below options (suc more) depth ds h full =
    let row = subst (λ n. Row options n ds) (let e : suc more + depth ≡ suc (more + depth) = omega arith in e) h in
    let next = go_below options more depth (flat_map child_list ds) (next_row options (more + depth) ds row)
    (λ level. subst (Fill options.width) (next_widths options (more + depth) level ds row) (full (suc level))) in
    let own = subst (Fill options.width) (own_widths options (more + depth) ds row) (full 0) in
    let here = at_least child_list options.width ds own in
    let there = next.many in
    record {
      row = next.row;
      full = next.full;
      leaves_are = next_leaves options (more + depth) ds row ∙ next.leaves_are;
      many = omega (arith, here, there);
    }

-- a file with at least two links at its root, by its depth
record IsTree (options : LayoutOptions) (depth : ℕ) (d : Dag) : Type 0 where
  row : Row options depth (d ∷ [])
  full : AreLevelsFull options.width (d ∷ [])
  branches : 0 < depth → All (λ width. 2 ≤ width) (widths_of 0 (d ∷ []))

-- files with the same leaves are equally deep
not_deeper : (laws : TextLaws) (options : LayoutOptions) (depth more : ℕ) (d e : Dag) → IsTree options depth d
    → IsTree options (suc more + depth) e → flat_map leaves (d ∷ []) ≡ flat_map leaves (e ∷ []) → ⊥
not_deeper laws options depth more d e h k same =
    let row : Row options (suc (more + depth)) (e ∷ []) = subst (λ n. Row options n (e ∷ []))
    (let q : suc more + depth ≡ suc (more + depth) = omega arith in q) k.row in
    let below = go_below options more depth (flat_map child_list (e ∷ []))
    (next_row options (more + depth) (e ∷ []) row)
    (λ level. subst (Fill options.width) (next_widths options (more + depth) level (e ∷ []) row)
    (k.full (suc level))) in
    let is : d ∷ [] ≡ row_below more (flat_map child_list (e ∷ [])) = same_rows laws options depth (d ∷ [])
    (row_below more (flat_map child_list (e ∷ []))) h.row below.row h.full below.full
    (same ∙ next_leaves options (more + depth) (e ∷ []) row ∙ below.leaves_are) in
    let one : 1 ≡ length (row_below more (flat_map child_list (e ∷ []))) = ap length is in
    let many = below.many in
    let widths = own_widths options (more + depth) (e ∷ []) row in
    let two : 2 ≤ length (child_list e) = All-head (λ width. 2 ≤ width) (length (child_list e)) []
    (subst (All (λ width. 2 ≤ width)) widths (k.branches (omega arith))) in
    let size = length-append (child_list e) [] in
    omega (arith, one, many, two, size)

same_trees : (laws : TextLaws) (options : LayoutOptions) (n m : ℕ) (d e : Dag) → IsTree options n d
    → IsTree options m e → flat_map leaves (d ∷ []) ≡ flat_map leaves (e ∷ []) → d ≡ e
same_trees laws options n m d e h k same = elim (cases_order n m) [
  | inl equal ↦
      let row : Row options n (e ∷ []) = subst (λ x. Row options x (e ∷ [])) (sym equal) k.row in
      let is = same_rows laws options n (d ∷ []) (e ∷ []) h.row row h.full k.full same in
      let first : d ≡ e = cc in
      first
  | inr (inl below) ↦
      let much : m ≡ suc (m - (n + 1)) + n = omega (arith, below) in
      absurd (not_deeper laws options n (m - (n + 1)) d e h (subst (λ x. IsTree options x e) much k) same)
  | inr (inr above) ↦
      let much : n ≡ suc (n - (m + 1)) + m = omega (arith, above) in
      absurd (not_deeper laws options m (n - (m + 1)) e d k (subst (λ x. IsTree options x d) much h) (sym same))
]

-- ---- files

-- a sound file in the layout, under plain CIDs
pub record IsFileTop (options : LayoutOptions) (d : Dag) : Type 0 where
  pub checked : IsCheckedAt top d
  pub laid : IsLaidAt options top d
  pub file : IsLaidFile options d
  pub plain : All HasPlainCid (blocks d)

tree_of : (options : LayoutOptions) (d : Dag) → (h : IsFileTop options d) → IsTree options h.file.depth d
tree_of options d h = record {
  row = (record { position = top; checked = h.checked; laid = h.laid; plain = h.plain }, h.file.even, tt);
  full = λ level. subst (Fill options.width) (sym (append-nil (level_widths d level)))
      (fill_from options.width (level_widths d level) (h.file.levels level) (h.file.linked level));
  branches = λ deep. subst (All (λ width. 2 ≤ width)) (sym (append-nil (level_widths d 0))) (h.file.branches deep);
}

same_small : (options : LayoutOptions) (d e : Dag) → IsFileTop options d → IsFileTop options e → IsLeaf d → IsLeaf e
    → content d ≡ content e → d ≡ e
same_small options d e h k a b same =
    let s = a.0 in
    let t = b.0 in
    let there = subst (IsCheckedAt top) a.1 h.checked in
    let other = subst (IsCheckedAt top) b.1 k.checked in
    let plain = subst (λ x. All HasPlainCid (blocks x)) a.1 h.plain in
    let plain_other = subst (λ x. All HasPlainCid (blocks x)) b.1 k.plain in
    let block : s.block ≡ t.block = sym (append-nil s.block) ∙ sym (ap content a.1) ∙ same ∙ ap content b.1 ∙ append-nil
    t.block in
    a.1 ∙ same_leaf s t no_child no_child top top there.0 other.0 (All-head HasPlainCid s [] plain)
    (All-head HasPlainCid t [] plain_other) block ∙ sym b.1

same_large : (laws : TextLaws) (options : LayoutOptions) (d e : Dag) → IsFileTop options d → IsFileTop options e
    → options.chunk < length (content d) → content d ≡ content e → d ≡ e
same_large laws options d e h k long same =
    let a = content_leaves laws options d h.file.depth top h.checked h.laid h.file.even in
    let b = content_leaves laws options e k.file.depth top k.checked k.laid k.file.even in
    let long_a : options.chunk < length (flat_map itself (leaves d)) = subst (λ bytes. options.chunk < length bytes) a
    long in
    let long_b : options.chunk < length (flat_map itself (leaves e)) = subst (λ bytes. options.chunk < length bytes)
    (same ∙ b) long in
    let chunks_a = fill_from options.chunk (map length (leaves d)) h.file.chunks
    (some_bytes options.chunk (leaves d) h.file.chunks h.file.not_empty long_a) in
    let chunks_b = fill_from options.chunk (map length (leaves e)) k.file.chunks
    (some_bytes options.chunk (leaves e) k.file.chunks k.file.not_empty long_b) in
    let parts : map itself (leaves d) ≡ map itself (leaves e) = same_parts itself options.chunk (leaves d) (leaves e)
    chunks_a chunks_b (sym a ∙ same ∙ b) in
    let blocks_same : leaves d ≡ leaves e = sym (mapped (leaves d)) ∙ parts ∙ mapped (leaves e) in
    same_trees laws options h.file.depth k.file.depth d e (tree_of options d h) (tree_of options e k)
    (ap (λ (l : List (List ℕ)). l ++ []) blocks_same)
  where
    mapped : (l : List (List ℕ)) → map itself l ≡ l
    mapped [] = refl
    mapped (x ∷ l) = ap (λ (xs : List (List ℕ)). x ∷ xs) (mapped l)

pub same_files : (laws : TextLaws) (options : LayoutOptions) (d e : Dag) → IsFileTop options d → IsFileTop options e
    → content d ≡ content e → d ≡ e
same_files laws options d e h k same = elim (cases_lt options.chunk (length (content d))) [
  | inl long ↦ same_large laws options d e h k long same
  | inr short ↦ same_small options d e h k (h.file.small short)
      (k.file.small (subst (λ bytes. length bytes ≤ options.chunk) same short)) same
]
