-- What linking subtrees needs, and what it makes of the forest.
use Rattle.std.proofs.Common.{◌≡◌, ◌≢◌, ◌+◌, ◌-◌, ◌*◌, ◌<◌, ◌≤◌, ℕ, zero, suc, List, [], ◌∷◌, ◌++◌, length, take, drop, get_or, refl, sym, ap, ◌∙◌, subst, inl, inr, arith, length-append}
use Rattle.std.specs.List.{sum_by}
use Rattle.std.specs.Prelude.{All, map, slice_index}
use Rattle.std.proofs.lemmas.List.{append-nil, length-drop, length-map, length-take-le, nil_from_length}
use Rattle.std.proofs.lemmas.List.Elements.{All-cons, All-nil}
use Rattle.std.proofs.lemmas.List.Concat.{flat_map-append}
use Rattle.tg_bytes.specs.Lists.{joined}
use Rattle.tg_cid.specs.declared.cid.Codec.TheVariants.{DagPb}
use Rattle.tg_filedag.proofs.Falling.{above_first, above_full, few_equal, no_full}
use Rattle.tg_filedag.proofs.Files.{IsRoot, leaves_some, made_file}
use Rattle.tg_filedag.proofs.Forests.{AreSubtrees, all_trees, behind, leaves_behind, split, trees_from}
use Rattle.tg_filedag.proofs.Parts.{NodeLaws, all_plain, content_sum, node_over}
use Rattle.tg_filedag.proofs.Shapes.{HaveHeight, full_last, full_node, last_leaves, last_node, last_parts, last_tsizes, many_leaves}
use Rattle.tg_filedag.proofs.Steps.{closed_forest, heights_count, one_height}
use Rattle.tg_filedag.specs.Heights.{HasFew, IsFalling}
use Rattle.tg_filedag.specs.Linking.{Closes, HasFullLevel}
use Rattle.tg_filedag.specs.MadeFile.{IsMadeFile}
use Rattle.tg_filedag.specs.State.{HasNoFullLevel, IsClosing, IsGrowing, heights}
use Rattle.tg_filedag.specs.Trees.{AreTrees, IsFilePart, IsLastSubtree, IsPlain, IsSubtree, bottom_up, bottom_up_of_children, content_in, node_made, part_for, tsize_in}
use Rattle.tg_filedag.specs.declared.subtree.Subtree.{Subtree}
use Rattle.tg_model.specs.Dag.{Children, Dag, Section, bare, no_child, node, root_cids, unopened, with_child}
use Rattle.tg_model.specs.ImportLayout.{HasLeavesAt, IsLeaf, leaves, leaves_of_children, level_widths}
use Rattle.tg_model.specs.Stores.{Keeping}
use Rattle.tg_model.specs.declared.kinds.Kind.TheVariants.{Basic, File, Raw, Shard, Symlink}
use Rattle.tg_model.specs.declared.kinds.Made.{Made}
use Rattle.tg_node_writing.specs.Keeping.{section_of}

-- a growing forest is one whose last may not be full
pub growing_closing : (width : ℕ) (ss : List Subtree) (chunks : List (List ℕ)) (kept : List Section) → IsGrowing width ss chunks kept → IsClosing width ss chunks kept
growing_closing width ss chunks kept f =
    let low = f.low in
    record {
      trees = f.trees;
      stand = trees_from (IsLastSubtree width) width (full_last width (omega arith)) ss f.trees (all_trees width ss f.trees f.stand);
      chunks_are = f.chunks_are;
      kept_are = f.kept_are;
      falls = f.falls;
      few = f.few;
      low = f.low;
      high = f.high;
      few_chunks = f.few_chunks;
      few_bytes = f.few_bytes;
    }

-- ---- what linking needs

pub record MayClose (ss : List Subtree) (start : ℕ) : Type 0 where
  pub few : length ss ≤ start + 4096
  pub plain : All IsPlain (drop start ss)
  pub content : sum_by content_in (drop start ss) ≤ 2305843009213693952
  pub tsize : sum_by tsize_in (drop start ss) ≤ 2305843009213693952

pub may_close : (width start height : ℕ) (ss : List Subtree) (chunks : List (List ℕ)) (kept : List Section) → IsClosing width ss chunks kept → start < length ss
    → HaveHeight height (drop start ss) → length ss ≤ start + width → height ≤ 1099511627776 → MayClose ss start
may_close width start height ss chunks kept f lt same few low_height =
    let sp = split (IsLastSubtree width) width ss f.trees start lt f.stand in
    let group = drop start ss in
    let parts = last_parts width group sp.back sp.backs in
    let sums = content_sum group sp.back parts in
    let tsizes = last_tsizes width height group sp.back sp.backs same in
    let whole : chunks ≡ leaves_of_children sp.front ++ leaves_of_children sp.back =
    sym f.chunks_are ∙ ap leaves_of_children sp.whole ∙ leaves_behind sp.front sp.back in
    let count : length chunks ≡ length (leaves_of_children sp.front) + length (leaves_of_children sp.back) =
    ap length whole ∙ length-append (leaves_of_children sp.front) (leaves_of_children sp.back) in
    let bytes : length (joined chunks) ≡ length (joined (leaves_of_children sp.front)) + length (joined (leaves_of_children sp.back)) =
    ap (λ (t : List (List ℕ)). length (joined t)) whole ∙ ap length (flat_map-append (λ (chunk : List ℕ). chunk) (leaves_of_children sp.front) (leaves_of_children sp.back))
    ∙ length-append (joined (leaves_of_children sp.front)) (joined (leaves_of_children sp.back)) in
    let high = f.high in
    let few_chunks = f.few_chunks in
    let few_bytes = f.few_bytes in
    record {
      few = omega arith;
      plain = all_plain group sp.back parts;
      content = omega arith;
      tsize = omega arith;
    }

-- ---- full levels

-- where the last `width` subtrees have one height, each is below 2^40
pub full_height : (width height : ℕ) (ss : List Subtree) (chunks : List (List ℕ)) (kept : List Section) → IsGrowing width ss chunks kept → HasFullLevel width ss
    → HaveHeight height (drop (length ss - width) ss) → height < 1099511627776
full_height width height ss chunks kept f full same =
    let start : ℕ = length ss - width in
    let low = f.low in
    let enough = full.enough in
    let sp = split (IsSubtree width) width ss f.trees start (omega arith) f.stand in
    let group = drop start ss in
    let many = many_leaves width height group sp.back (all_trees width group sp.back sp.backs) same in
    let size = length-drop start ss in
    let count : length chunks ≡ length (leaves_of_children sp.front) + length (leaves_of_children sp.back) =
    ap length (sym f.chunks_are ∙ ap leaves_of_children sp.whole ∙ leaves_behind sp.front sp.back)
    ∙ length-append (leaves_of_children sp.front) (leaves_of_children sp.back) in
    let few_chunks = f.few_chunks in
    let some : 1 ≤ length group = omega arith in
    let product : 1 * (height + 1) ≤ length group * (height + 1) = grind arith in
    omega arith

pub level_height : (width : ℕ) (ss : List Subtree) (chunks : List (List ℕ)) (kept : List Section) → IsGrowing width ss chunks kept → HasFullLevel width ss
    → HaveHeight (slice_index (heights ss) (length ss - width)) (drop (length ss - width) ss)
level_height width ss chunks kept f full =
    let low = f.low in
    let enough = full.enough in
    one_height ss (length ss - width) (slice_index (heights ss) (length ss - width)) f.falls (omega arith) refl (sym full.same)

-- the subtree before a full level stands higher
level_above : (width : ℕ) (ss : List Subtree) → IsFalling (heights ss) → HasFew width (heights ss) (length ss - 1) → 2 ≤ width → width ≤ length ss → HasFullLevel width ss
    → 0 < length ss - width → slice_index (heights ss) (length ss - width) + 1 ≤ slice_index (heights ss) ((length ss - width) - 1)
level_above width ss falls few low enough full some =
    let hs = heights ss in
    let P = λ (n : ℕ). get_or hs (n - 1) 0 + 1 ≤ get_or hs ((n - width) - 1) 0 in
    let count = heights_count ss in
    let h = above_full width hs low (omega arith) falls (subst (λ (n : ℕ). HasFew width hs (n - 1)) (sym count) few) (omega arith) in
    let same = full.same in
    let last : get_or hs (length ss - 1) 0 + 1 ≤ get_or hs ((length ss - width) - 1) 0 = subst P count h in
    omega arith

pub raised : NodeLaws → (width : ℕ) (ss : List Subtree) (chunks : List (List ℕ)) (kept : List Section) (new : List Subtree) (keeping : Keeping)
    → IsGrowing width ss chunks kept → HasFullLevel width ss
    → (c : Closes ss (length ss - width) (slice_index (heights ss) (length ss - width) + 1) new keeping)
    → IsGrowing width new chunks (kept ++ section_of DagPb c.kept.block ∷ [])
raised laws width ss chunks kept new keeping f full c =
    let start : ℕ = length ss - width in
    let height : ℕ = slice_index (heights ss) start in
    let low = f.low in
    let enough = full.enough in
    let count = heights_count ss in
    let lt : start < length ss = omega arith in
    let sp = split (IsSubtree width) width ss f.trees start lt f.stand in
    let group = drop start ss in
    let same = level_height width ss chunks kept f full in
    let bound = full_height width height ss chunks kept f full same in
    let may = may_close width start height ss chunks kept (growing_closing width ss chunks kept f) lt same (omega arith) (omega arith) in
    let few = may.content in
    let node = full_node laws width height group c.kept.block sp.back low (length-drop start ss ∙ omega arith) (all_trees width group sp.back sp.backs) same
    c.kept.written c.kept.small (omega arith) in
    let above : 0 < start → height + 1 ≤ slice_index (heights ss) (start - 1) = λ some. level_above width ss f.falls f.few low enough full some in
    subst (λ (t : List Subtree). IsGrowing width t chunks (kept ++ section_of DagPb c.kept.block ∷ []))
    (sym (c.new_is ∙ ap (λ (m : Made). take start ss ++ record { height = height + 1; made = m } ∷ []) c.kept.made_is))
    (closed_forest (IsSubtree width) width start (height + 1) ss c.kept.block chunks kept f lt sp node above)

-- where there is no full level there are few subtrees of each height
pub none_full : (width : ℕ) (ss : List Subtree) (chunks : List (List ℕ)) (kept : List Section) → IsGrowing width ss chunks kept → (HasFullLevel width ss → ⊥)
    → HasNoFullLevel width ss
none_full width ss chunks kept f none =
    let hs = heights ss in
    let count = heights_count ss in
    let low = f.low in
    subst (HasFew width hs) count
    (no_full width hs low f.falls (subst (λ (n : ℕ). HasFew width hs (n - 1)) (sym count) f.few)
    (λ enough same. none (record {
      enough = omega arith;
      same = subst (λ (n : ℕ). get_or hs (n - width) 0 ≡ get_or hs (n - 1) 0) count same;
    })))

-- ---- the root

-- what stands alone may be a root
abbrev pub HasRoot : Children → Type 0
HasRoot no_child = ⊥
HasRoot (with_child d children) = IsRoot d

-- a forest that is being closed: its one tree, where it has one, is a root
pub record IsOpen (width : ℕ) (ss : List Subtree) (chunks : List (List ℕ)) (kept : List Section) : Type 0 where
  pub forest : IsClosing width ss chunks kept
  pub some : 0 < length ss
  pub root : length ss ≡ 1 → HasRoot forest.trees

raw_leaf : (section : Section) (children : Children) → root_cids children ≡ [] → IsLeaf (node section Raw children)
raw_leaf section no_child e = (section, refl)
raw_leaf section (with_child d children) e = absurd (cc)

low_root : (d : Dag) → IsFilePart d → HasLeavesAt 0 d → IsLeaf d
low_root (unopened cid) h depth = absurd h.whole
low_root (bare section fault) h depth = absurd h.whole
low_root (node section Raw children) h depth = raw_leaf section children h.checked.0.links
low_root (node section (File inline filesize parts) children) h depth = absurd depth
low_root (node section (Basic es) children) h depth = absurd depth
low_root (node section (Shard slots) children) h depth = absurd depth
low_root (node section (Symlink target) children) h depth = absurd depth

all_two : (width : ℕ) (ns : List ℕ) → 2 ≤ width → All (λ n. n ≡ width) ns → All (λ n. 2 ≤ n) ns
all_two width ns two all i d lt = let e = all i d lt in omega arith

height_root : (width height : ℕ) (d : Dag) → 2 ≤ width → IsFilePart d → HasLeavesAt height d → ((level : ℕ) → All (λ n. n ≡ width) (level_widths d level))
    → height < length (leaves d) → IsRoot d
height_root width zero d two is_part depth widths many = inl (low_root d is_part depth)
height_root width (suc height) d two is_part depth widths many = inr (record { links = all_two width (level_widths d 0) two (widths 0); leaves_two = omega arith })

full_root : (width : ℕ) (s : Subtree) (d : Dag) → 2 ≤ width → IsSubtree width s d → IsRoot d
full_root width s d two h = height_root width s.height d two h.is_part h.full.depth h.full.widths h.many

growing_root : (width : ℕ) (ss : List Subtree) (ds : Children) → 2 ≤ width → 0 < length ss → AreSubtrees width ss ds → HasRoot ds
growing_root width [] ds two some h = absurd (omega arith)
growing_root width (s ∷ ss) no_child two some h = absurd h
growing_root width (s ∷ ss) (with_child d ds) two some h = full_root width s d two h.0

pub opened : (width : ℕ) (ss : List Subtree) (chunks : List (List ℕ)) (kept : List Section) → IsGrowing width ss chunks kept → 0 < length ss → IsOpen width ss chunks kept
unfolding growing_closing
opened width ss chunks kept f some = record {
  forest = growing_closing width ss chunks kept f;
  some = some;
  root = λ one. growing_root width ss f.trees f.low some (all_trees width ss f.trees f.stand);
}

-- ---- the lowest level

-- of several subtrees the first is full, so its height is below 2^40
first_height : (width : ℕ) (ss : List Subtree) (ds : Children) → AreTrees (IsLastSubtree width) width ss ds → 1 < length ss
    → slice_index (heights ss) 0 < length (leaves_of_children ds)
first_height width [] ds h lt = absurd (omega arith)
first_height width (s ∷ []) ds h lt = absurd (omega arith)
first_height width (s ∷ t ∷ ss) no_child h lt = absurd h
first_height width (s ∷ t ∷ ss) (with_child d ds) h lt =
    let many = h.0.many in
    let size = length-append (leaves d) (leaves_of_children ds) in
    omega arith

pub low_height : (width : ℕ) (ss : List Subtree) (chunks : List (List ℕ)) (kept : List Section) → IsClosing width ss chunks kept → 1 < length ss
    → slice_index (heights ss) (length ss - 1) < 1099511627776
low_height width ss chunks kept f lt =
    let count = heights_count ss in
    let first = first_height width ss f.trees f.stand lt in
    let all : length (leaves_of_children f.trees) ≡ length chunks = ap length f.chunks_are in
    let few_chunks = f.few_chunks in
    let down = f.falls 0 (length ss - 1) (omega arith) (omega arith) in
    omega arith

-- where the lowest level begins
pub record BeginsAt (ss : List Subtree) (start : ℕ) : Type 0 where
  pub inside : start < length ss
  pub before : (i : ℕ) → i < start → slice_index (heights ss) i ≢ slice_index (heights ss) (length ss - 1)
  pub same : slice_index (heights ss) start ≡ slice_index (heights ss) (length ss - 1)

pub lowest_height : (width start : ℕ) (ss : List Subtree) (chunks : List (List ℕ)) (kept : List Section) → IsClosing width ss chunks kept → BeginsAt ss start
    → HaveHeight (slice_index (heights ss) (length ss - 1)) (drop start ss)
lowest_height width start ss chunks kept f b = one_height ss start (slice_index (heights ss) (length ss - 1)) f.falls b.inside b.same refl

pub lowest_few : (width start : ℕ) (ss : List Subtree) (chunks : List (List ℕ)) (kept : List Section) → IsClosing width ss chunks kept → BeginsAt ss start
    → length ss ≤ start + width
lowest_few width start ss chunks kept f b =
    let hs = heights ss in
    let count = heights_count ss in
    let inside = b.inside in
    let h = few_equal width hs start f.low f.falls (subst (λ (n : ℕ). HasFew width hs (n - 1)) (sym count) f.few) (omega arith)
    (subst (λ (n : ℕ). get_or hs start 0 ≡ get_or hs (n - 1) 0) (sym count) b.same) in
    omega arith

pub lowest_above : (width start : ℕ) (ss : List Subtree) (chunks : List (List ℕ)) (kept : List Section) → IsClosing width ss chunks kept → BeginsAt ss start
    → 0 < start → slice_index (heights ss) (length ss - 1) + 1 ≤ slice_index (heights ss) (start - 1)
lowest_above width start ss chunks kept f b some =
    let hs = heights ss in
    let count = heights_count ss in
    let inside = b.inside in
    let h = above_first hs start f.falls (omega arith) (λ i lt. subst (λ (n : ℕ). get_or hs i 0 ≢ get_or hs (n - 1) 0) (sym count) (b.before i lt)) some in
    subst (λ (n : ℕ). get_or hs (n - 1) 0 + 1 ≤ get_or hs (start - 1) 0) count h

no_front : (width : ℕ) (ss : List Subtree) (ds : Children) → ss ≡ [] → AreSubtrees width ss ds → ds ≡ no_child
no_front width [] no_child e h = refl
no_front width [] (with_child d ds) e h = absurd h
no_front width (s ∷ ss) ds e h = absurd (cc)

root_behind : (a : Children) (d : Dag) → a ≡ no_child → IsRoot d → HasRoot (behind a (with_child d no_child))
root_behind a d e root = subst (λ (x : Children). HasRoot (behind x (with_child d no_child))) (sym e) root

group_links : (group : List Subtree) → 2 ≤ length group → All (λ n. 2 ≤ n) (length (map part_for group) ∷ [])
group_links group two =
    let count = length-map group part_for in
    All-cons (λ (n : ℕ). 2 ≤ n) (length (map part_for group)) [] (omega arith) (All-nil (λ (n : ℕ). 2 ≤ n))

pub closed : NodeLaws → (width start : ℕ) (ss : List Subtree) (chunks : List (List ℕ)) (kept : List Section) (new : List Subtree) (keeping : Keeping)
    → IsOpen width ss chunks kept → BeginsAt ss start → 1 < length ss
    → (c : Closes ss start (slice_index (heights ss) (length ss - 1) + 1) new keeping)
    → IsOpen width new chunks (kept ++ section_of DagPb c.kept.block ∷ [])
unfolding closed_forest
closed laws width start ss chunks kept new keeping o b many c =
    let f = o.forest in
    let low = f.low in
    let height : ℕ = slice_index (heights ss) (length ss - 1) in
    let inside = b.inside in
    let sp = split (IsLastSubtree width) width ss f.trees start inside f.stand in
    let group = drop start ss in
    let size = length-drop start ss in
    let same = lowest_height width start ss chunks kept f b in
    let bound = low_height width ss chunks kept f many in
    let few = lowest_few width start ss chunks kept f b in
    let may = may_close width start height ss chunks kept f inside same few (omega arith) in
    let sums = may.content in
    let last = last_node laws width height group c.kept.block sp.back low (omega arith) (omega arith) sp.backs same c.kept.written c.kept.small (omega arith) in
    let s : Subtree = record { height = height + 1; made = node_made group c.kept.block } in
    let d : Dag = node_over group c.kept.block sp.back in
    let next = closed_forest (IsLastSubtree width) width start (height + 1) ss c.kept.block chunks kept f inside sp last (lowest_above width start ss chunks kept f b) in
    let new_is : new ≡ take start ss ++ s ∷ [] = c.new_is ∙ ap (λ (m : Made). take start ss ++ record { height = height + 1; made = m } ∷ []) c.kept.made_is in
    let front = length-take-le start ss (omega arith) in
    let new_size : length (take start ss ++ s ∷ []) ≡ start + 1 = length-append (take start ss) (s ∷ []) ∙ ap (λ (n : ℕ). n + 1) front in
    let leaves_many = last_leaves width group sp.back sp.backs in
    let rooted : length (take start ss ++ s ∷ []) ≡ 1 → HasRoot (behind sp.front (with_child d no_child)) = λ one.
    let first : start ≡ 0 = omega arith in
    root_behind sp.front d (no_front width (take start ss) sp.front (nil_from_length (take start ss) (omega arith)) sp.fronts)
    (inr (record { links = group_links group (omega arith); leaves_two = omega arith })) in
    subst (λ (t : List Subtree). IsOpen width t chunks (kept ++ section_of DagPb c.kept.block ∷ [])) (sym new_is)
    (record { forest = next; some = omega arith; root = rooted })

-- ---- the file

alone_file : (width : ℕ) (ss : List Subtree) (ds : Children) (chunks : List (List ℕ)) (kept : List Section) (r : Subtree) → AreTrees (IsLastSubtree width) width ss ds
    → leaves_of_children ds ≡ chunks → bottom_up_of_children ds ≡ kept → HasRoot ds → length ss ≡ 1
    → (d : Dag) × IsMadeFile width chunks d (get_or ss 0 r).made × (kept ≡ bottom_up d)
alone_file width [] ds chunks kept r h l k root one = absurd (omega arith)
alone_file width (s ∷ []) no_child chunks kept r h l k root one = absurd h
alone_file width (s ∷ []) (with_child d no_child) chunks kept r h l k root one =
    let same : leaves d ≡ chunks = sym (append-nil (leaves d)) ∙ l in
    let some : 0 < length (leaves d) = h.some in
    let count : length (leaves d) ≡ length chunks = ap length same in
    (d, made_file width s d chunks h root (same ∙ leaves_some chunks (omega arith)), sym k ∙ append-nil (bottom_up d))
alone_file width (s ∷ []) (with_child d (with_child e ds)) chunks kept r h l k root one = absurd h
alone_file width (s ∷ t ∷ ss) ds chunks kept r h l k root one = absurd (omega arith)

pub closed_file : (width : ℕ) (ss : List Subtree) (chunks : List (List ℕ)) (kept : List Section) (r : Subtree) → IsOpen width ss chunks kept → length ss ≡ 1
    → (d : Dag) × IsMadeFile width chunks d (get_or ss 0 r).made × (kept ≡ bottom_up d)
closed_file width ss chunks kept r o one = alone_file width ss o.forest.trees chunks kept r o.forest.stand o.forest.chunks_are o.forest.kept_are (o.root one) one
