-- Two files in the layout with one content are the same.
use Rattle.std.proofs.Common.{◌≡◌, ◌≢◌, ◌+◌, ℕ, zero, suc, List, [], ◌∷◌, ◌++◌, length, map, inl, inr, refl, sym, ap, ap₂, ◌∙◌, subst, arith}
use Rattle.std.proofs.lemmas.List.Elements.{All-head}
use Rattle.std.specs.List.{flat_map}
use Rattle.std.specs.Prelude.{Option, sum}
use Rattle.tg_model.specs.Dag.{Children, Dag, Section, bare, blocks_of_children, no_child, node, root_cids, total_of, unopened, with_child}
use Rattle.tg_model.specs.ImportLayout.{HasLeavesAt, HasPlainCid, IsWritten, LayoutOptions, file_unix, leaves}
use Rattle.tg_model.specs.Reading.{ReadsNode, inline_of}
use Rattle.tg_model.specs.Sound.{AreCheckedAt, IsNodeAt, Position, part}
use Rattle.tg_model.specs.declared.kinds.Kind.{Kind}
use Rattle.tg_model.specs.declared.kinds.Kind.TheVariants.{Basic, File, Raw, Shard, Symlink}
use Rattle.tg_model.specs.declared.kinds.Part.{Part}
use Rattle.tg_layout_laws.proofs.Chunks.{Fill, same_parts}
use Rattle.tg_layout_laws.proofs.Nodes.{TextLaws, node_under, raw_under, read_unix, same_node, same_section, same_written}
use Rattle.tg_layout_laws.proofs.Rows.{IsPart, Row, child_list, child_row, list_of, next_leaves, next_row, next_widths, own_widths, same_children, widths_of}

-- ---- a file's node

-- it has no inline bytes
pub no_inline : TextLaws → (block inline : List ℕ) (filesize : Option ℕ) (parts : List Part) (names : List (List ℕ))
    (children : Children) (total : ℕ) (sizes : List ℕ)
    → ReadsNode block (File inline filesize parts) → IsWritten block names children (file_unix total sizes)
    → inline ≡ []
no_inline laws block inline filesize parts names children total sizes r w =
    let unix = read_unix laws block (File inline filesize parts) names children (file_unix total sizes) r w in
    elim r.reads [
      | inl file ↦ let e = file.kind_is in let i : inline ≡ inline_of r.unix = cc in i ∙ ap inline_of unix
      | inr (inl basic) ↦ let e = basic.kind_is in absurd (cc)
      | inr (inr (inl shard)) ↦ let e = shard.kind_is in absurd (cc)
      | inr (inr (inr link)) ↦ let e = link.kind_is in absurd (cc)
    ]

-- how many bytes each child declares
abbrev total_below : Dag → ℕ
total_below (unopened cid) = 0
total_below (bare section fault) = 0
total_below (node section kind children) = total_of section kind

abbrev totals_below : Children → List ℕ
totals_below no_child = []
totals_below (with_child d children) = total_below d ∷ totals_below children

sizes_are : (options : LayoutOptions) (depth : ℕ) (parts : List Part) (children : Children)
    → AreCheckedAt (map (λ p. part p.size) parts) children → Row options depth (list_of children)
    → root_cids children ≡ map (λ p. p.cid) parts → map (λ p. p.size) parts ≡ totals_below children
sizes_are options depth [] no_child checked row links = refl
sizes_are options depth (p ∷ parts) no_child checked row links = absurd (cc)
sizes_are options depth [] (with_child d children) checked row links = absurd checked
sizes_are options depth (p ∷ parts) (with_child (unopened cid) children) checked row links = absurd row.1
sizes_are options depth (p ∷ parts) (with_child (bare section fault) children) checked row links = absurd row.1
sizes_are options depth (p ∷ parts) (with_child (node section kind inner) children) checked row links =
    let size : total_of section kind ≡ p.size = checked.0.0.of_size in
    let behind : root_cids children ≡ map (λ p. p.cid) parts = cc in
    ap₂ (λ a as_. a ∷ as_) (sym size) (sizes_are options depth parts children checked.1 row.2 behind)

-- what a file's node is, of which the children are known
record IsFileNode (laws : TextLaws) (options : LayoutOptions) (section : Section) (kind : Kind)
    (children : Children) : Type 0 where
  other : kind ≢ Raw
  at : Position
  node_at : IsNodeAt at section kind children
  plain : HasPlainCid section
  written : IsWritten section.block (map (λ n. []) (totals_below children)) children
      (file_unix (sum (totals_below children)) (totals_below children))

file_node : (laws : TextLaws) (options : LayoutOptions) (depth : ℕ) (section : Section) (inline : List ℕ)
    (filesize : Option ℕ) (parts : List Part) (children : Children)
    → IsPart options (node section (File inline filesize parts) children)
    → HasLeavesAt (suc depth) (node section (File inline filesize parts) children)
    → Row options depth (list_of children) → IsFileNode laws options section (File inline filesize parts) children
file_node laws options depth section inline filesize parts children h even row =
    let under = node_under section.cid section.block (File inline filesize parts) (λ e. (cc)) h.checked.0.reads in
    let none = no_inline laws section.block inline filesize parts (map (λ p. []) parts) children
    (total_of section (File inline filesize parts)) (map (λ p. p.size) parts) under.reads h.laid.1 in
    let sizes = sizes_are options depth parts children h.checked.1 row h.checked.0.links in
    let total : total_of section (File inline filesize parts) ≡ sum (totals_below children) =
    ap (λ (bytes : List ℕ). length bytes + sum (map (λ p. p.size) parts)) none
    ∙ (let f : 0 + sum (map (λ p. p.size) parts) ≡ sum (map (λ p. p.size) parts) = omega arith in f) ∙ ap sum
    sizes in
    let names : ◌≡◌ {A = List (List ℕ)} (map (λ p. []) parts) (map (λ n. []) (totals_below children)) = no_names parts
    ∙ ap (λ (ns : List ℕ). map (λ n. []) ns) sizes in
    record {
      other = λ e. (cc);
      at = h.position;
      node_at = h.checked.0;
      plain = All-head HasPlainCid section (blocks_of_children children) h.plain;
      written = subst (λ (ns : List (List ℕ)). IsWritten section.block ns children
          (file_unix (sum (totals_below children)) (totals_below children))) names
          (subst (λ (n : ℕ). IsWritten section.block (map (λ p. []) parts) children
          (file_unix n (totals_below children))) total
          (subst (λ (ns : List ℕ). IsWritten section.block (map (λ p. []) parts) children
          (file_unix (total_of section (File inline filesize parts)) ns)) sizes h.laid.1));
    }
  where
    no_names : (parts : List Part) → ◌≡◌ {A = List (List ℕ)} (map (λ p. []) parts)
        (map (λ n. []) (map (λ p. p.size) parts))
    no_names [] = refl
    no_names (p ∷ parts) = ap (λ (ns : List (List ℕ)). [] ∷ ns) (no_names parts)

-- its children determine it
same_file_node : (laws : TextLaws) (options : LayoutOptions) (s t : Section) (k l : Kind) (children : Children)
    → IsFileNode laws options s k children → IsFileNode laws options t l children
    → node s k children ≡ node t l children
same_file_node laws options s t k l children h m =
    let block : s.block ≡ t.block = same_written laws s.block t.block (map (λ n. []) (totals_below children)) children
    (file_unix (sum (totals_below children)) (totals_below children)) h.written m.written in
    same_node laws h.at m.at s t k l children h.other m.other h.node_at m.node_at h.plain m.plain block

-- ---- rows

-- one leaf
abbrev pub leaf_block : Dag → List ℕ
leaf_block (unopened cid) = []
leaf_block (bare section fault) = []
leaf_block (node section kind children) = section.block

no_links : (children : Children) → root_cids children ≡ [] → children ≡ no_child
no_links no_child e = refl
no_links (with_child d children) e = absurd (cc)

pub same_leaf : (s t : Section) (a b : Children) (p q : Position) → IsNodeAt p s Raw a → IsNodeAt q t Raw b
    → HasPlainCid s → HasPlainCid t → s.block ≡ t.block → node s Raw a ≡ node t Raw b
same_leaf s t a b p q h k m n block =
    let codec = raw_under s.cid s.block h.reads ∙ sym (raw_under t.cid t.block k.reads) in
    let sections = same_section s t m n h.named k.named codec block in
    ap₂ (λ (x : Section) (y : Children). node x Raw y) sections (no_links a h.links ∙ sym (no_links b k.links))

-- a leaf is a raw block
pub record IsLeafNode (d : Dag) : Type 0 where
  pub section : Section
  pub children : Children
  pub dag_is : d ≡ node section Raw children
  pub leaves_are : leaves d ≡ section.block ∷ []
  pub at : Position
  pub node_at : IsNodeAt at section Raw children
  pub plain : HasPlainCid section

leaf_is : (options : LayoutOptions) (d : Dag) → IsPart options d → HasLeavesAt 0 d → IsLeafNode d
leaf_is options (unopened cid) h even = absurd even
leaf_is options (bare section fault) h even = absurd even
leaf_is options (node section Raw children) h even = record {
  section = section;
  children = children;
  dag_is = refl;
  leaves_are = refl;
  at = h.position;
  node_at = h.checked.0;
  plain = All-head HasPlainCid section (blocks_of_children children) h.plain;
}
leaf_is options (node section (File inline filesize parts) children) h even = absurd even
leaf_is options (node section (Basic es) children) h even = absurd even
leaf_is options (node section (Shard slots) children) h even = absurd even
leaf_is options (node section (Symlink target) children) h even = absurd even

leaves_same : (options : LayoutOptions) (ds es : List Dag) → Row options 0 ds → Row options 0 es
    → flat_map leaves ds ≡ flat_map leaves es → ds ≡ es
leaves_same options [] [] h k e = refl
leaves_same options [] (e ∷ es) h k same = let is = (leaf_is options e k.0 k.1).leaves_are in absurd (cc)
leaves_same options (d ∷ ds) [] h k same = let is = (leaf_is options d h.0 h.1).leaves_are in absurd (cc)
leaves_same options (d ∷ ds) (e ∷ es) h k same =
    let a = leaf_is options d h.0 h.1 in
    let b = leaf_is options e k.0 k.1 in
    let both : a.section.block ∷ flat_map leaves ds ≡ b.section.block ∷ flat_map leaves es =
    ap (λ (l : List (List ℕ)). l ++ flat_map leaves ds) (sym a.leaves_are) ∙ same ∙ ap
    (λ (l : List (List ℕ)). l ++ flat_map leaves es) b.leaves_are in
    let first : a.section.block ≡ b.section.block = cc in
    let rest : flat_map leaves ds ≡ flat_map leaves es = cc in
    let one = same_leaf a.section b.section a.children b.children a.at b.at a.node_at b.node_at a.plain b.plain first in
    ap₂ (λ (x : Dag) (xs : List Dag). x ∷ xs) (a.dag_is ∙ one ∙ sym b.dag_is) (leaves_same options ds es h.2 k.2 rest)

-- a node of a file above its leaves
record IsInnerNode (laws : TextLaws) (options : LayoutOptions) (d : Dag) : Type 0 where
  section : Section
  kind : Kind
  children : Children
  dag_is : d ≡ node section kind children
  children_are : child_list d ≡ list_of children
  is_file : IsFileNode laws options section kind children

inner_is : (laws : TextLaws) (options : LayoutOptions) (depth : ℕ) (d : Dag) → IsPart options d
    → HasLeavesAt (suc depth) d → Row options depth (child_list d) → IsInnerNode laws options d
inner_is laws options depth (unopened cid) h even row = absurd even
inner_is laws options depth (bare section fault) h even row = absurd even
inner_is laws options depth (node section Raw children) h even row = absurd
    (let e : suc depth ≡ 0 = even in omega (arith, e))
inner_is laws options depth (node section (File inline filesize parts) children) h even row = record {
  section = section;
  kind = File inline filesize parts;
  children = children;
  dag_is = refl;
  children_are = refl;
  is_file = file_node laws options depth section inline filesize parts children h even row;
}
inner_is laws options depth (node section (Basic es) children) h even row = absurd even
inner_is laws options depth (node section (Shard slots) children) h even row = absurd even
inner_is laws options depth (node section (Symlink target) children) h even row = absurd even

same_inner : (laws : TextLaws) (options : LayoutOptions) (d e : Dag) → IsInnerNode laws options d
    → IsInnerNode laws options e → child_list d ≡ child_list e → d ≡ e
same_inner laws options d e a b same =
    let children : a.children ≡ b.children = same_children a.children b.children
    (sym a.children_are ∙ same ∙ b.children_are) in
    let there = subst (λ (c : Children). IsFileNode laws options a.section a.kind c) children a.is_file in
    a.dag_is ∙ ap (node a.section a.kind) children ∙ same_file_node laws options a.section b.section a.kind b.kind
    b.children there b.is_file ∙ sym b.dag_is

-- nodes with the same children, one by one
same_above : (laws : TextLaws) (options : LayoutOptions) (depth : ℕ) (ds es : List Dag) → Row options (suc depth) ds
    → Row options (suc depth) es → map child_list ds ≡ map child_list es → ds ≡ es
same_above laws options depth [] [] h k same = refl
same_above laws options depth [] (e ∷ es) h k same = absurd (cc)
same_above laws options depth (d ∷ ds) [] h k same = absurd (cc)
same_above laws options depth (d ∷ ds) (e ∷ es) h k same =
    let first : child_list d ≡ child_list e = cc in
    let rest : map child_list ds ≡ map child_list es = cc in
    let a = inner_is laws options depth d h.0 h.1 (child_row options depth d h.0 h.1) in
    let b = inner_is laws options depth e k.0 k.1 (child_row options depth e k.0 k.1) in
    ap₂ (λ (x : Dag) (xs : List Dag). x ∷ xs) (same_inner laws options d e a b first)
    (same_above laws options depth ds es h.2 k.2 rest)

-- each level is full
abbrev pub AreLevelsFull : ℕ → List Dag → Type 0
AreLevelsFull number ds = (level : ℕ) → Fill number (widths_of level ds)

-- rows with the same leaves are the same
pub same_rows : (laws : TextLaws) (options : LayoutOptions) (depth : ℕ) (ds es : List Dag) → Row options depth ds
    → Row options depth es
    → AreLevelsFull options.width ds → AreLevelsFull options.width es → flat_map leaves ds ≡ flat_map leaves es
    → ds ≡ es
same_rows laws options zero ds es h k full other same = leaves_same options ds es h k same
same_rows laws options (suc depth) ds es h k full other same =
    let below = same_rows laws options depth (flat_map child_list ds) (flat_map child_list es)
    (next_row options depth ds h) (next_row options depth es k)
    (λ level. subst (Fill options.width) (next_widths options depth level ds h) (full (suc level)))
    (λ level. subst (Fill options.width) (next_widths options depth level es k) (other (suc level)))
    (sym (next_leaves options depth ds h) ∙ same ∙ next_leaves options depth es k) in
    let own = subst (Fill options.width) (own_widths options depth ds h) (full 0) in
    let own_other = subst (Fill options.width) (own_widths options depth es k) (other 0) in
    same_above laws options depth ds es h k (same_parts child_list options.width ds es own own_other below)
