-- How deep the leaves of a file lie, and how many links the nodes of each level have.
use Rattle.std.proofs.Common.{◌≡◌, ◌+◌, ◌*◌, ◌<◌, ◌≤◌, ◌^◌, ℕ, zero, suc, List, [], ◌∷◌, length, refl, sym, ap, ◌∙◌, subst, arith, add-one, length-append}
use Rattle.std.specs.List.{sum_by}
use Rattle.std.specs.Prelude.{All, map}
use Rattle.std.proofs.lemmas.List.Elements.{All-append, All-cons, All-head, All-nil, All-tail}
use Rattle.std.proofs.lemmas.List.Sums.{sum_by-cons}
use Rattle.std.proofs.lemmas.List.{append-nil, length-map}
use Rattle.tg_filedag.proofs.Forests.{AreSubtrees}
use Rattle.tg_filedag.proofs.FullLists.{all_some, full_all, full_append}
use Rattle.tg_filedag.proofs.Parts.{AreParts, NodeLaws, leaf_made_of, leaf_part, node_made_of, node_over, node_part}
use Rattle.tg_filedag.specs.Trees.{AreTrees, IsFileBlock, IsFrontTree, IsFullTree, IsLastSubtree, IsSubtree, content_in, leaf_made, leaf_of, node_made, part_for, tsize_in}
use Rattle.tg_filedag.specs.declared.subtree.Subtree.{Subtree}
use Rattle.tg_model.specs.Content.{content}
use Rattle.tg_model.specs.Dag.{Children, Dag, no_child, with_child}
use Rattle.tg_model.specs.FullLaws.{full_none, full_one}
use Rattle.tg_model.specs.ImportLayout.{AreFull, HasLeavesAt, HaveLeavesAt, leaves, leaves_of_children, level_widths, level_widths_of_children}

-- a height that all subtrees have
abbrev pub HaveHeight : ℕ → List Subtree → Type 0
HaveHeight height ss = All (λ s. s.height ≡ height) ss

-- ---- each full subtree may be the last

pub full_front : (width height : ℕ) (d : Dag) → 0 < width → IsFullTree width height d → IsFrontTree width height d
full_front width height d some h = record {
  depth = h.depth;
  widths = λ level. full_all width (level_widths d level) (h.widths level);
  linked = λ level. all_some width (level_widths d level) some (h.widths level);
}

pub full_last : (width : ℕ) → 0 < width → (s : Subtree) (d : Dag) → IsSubtree width s d → IsLastSubtree width s d
full_last width some s d h =
    let many = h.many in
    let light = h.light in
    record {
      made = h.made;
      is_part = h.is_part;
      front = full_front width s.height d some h.full;
      some = omega arith;
      light = omega arith;
    }

-- ---- parts

pub last_parts : (width : ℕ) (ss : List Subtree) (ds : Children) → AreTrees (IsLastSubtree width) width ss ds → AreParts ss ds
last_parts width [] no_child h = tt
last_parts width [] (with_child d ds) h = absurd h
last_parts width (s ∷ []) no_child h = absurd h
last_parts width (s ∷ []) (with_child d no_child) h = (h.made, (h.is_part, tt))
last_parts width (s ∷ []) (with_child d (with_child e ds)) h = absurd h
last_parts width (s ∷ t ∷ ss) no_child h = absurd h
last_parts width (s ∷ t ∷ ss) (with_child d ds) h = (h.0.made, (h.0.is_part, last_parts width (t ∷ ss) ds h.1))

pub full_parts : (width : ℕ) (ss : List Subtree) (ds : Children) → AreSubtrees width ss ds → AreParts ss ds
full_parts width [] no_child h = tt
full_parts width [] (with_child d ds) h = absurd h
full_parts width (s ∷ ss) no_child h = absurd h
full_parts width (s ∷ ss) (with_child d ds) h = (h.0.made, (h.0.is_part, full_parts width ss ds h.1))

-- ---- a leaf

pub leaf_subtree : (width : ℕ) (chunk : List ℕ) → IsSubtree width (record { height = 0; made = leaf_made chunk }) (leaf_of chunk)
leaf_subtree width chunk = record {
  made = leaf_made_of chunk;
  is_part = leaf_part chunk;
  full = record { depth = refl; widths = λ level. All-nil (λ (n : ℕ). n ≡ width) };
  many = omega arith;
  light = let e : length (content (leaf_of chunk)) ≡ length chunk = ap length (append-nil chunk) in omega arith;
}

-- ---- the levels below a node

full_depths : (width height : ℕ) (ss : List Subtree) (ds : Children) → AreSubtrees width ss ds → HaveHeight height ss → HaveLeavesAt height ds
full_depths width height [] no_child h e = tt
full_depths width height [] (with_child d ds) h e = absurd h
full_depths width height (s ∷ ss) no_child h e = absurd h
full_depths width height (s ∷ ss) (with_child d ds) h e =
    let P = λ (x : Subtree). x.height ≡ height in
    (subst (λ (n : ℕ). HasLeavesAt n d) (All-head P s ss e) h.0.full.depth, full_depths width height ss ds h.1 (All-tail P s ss e))

full_widths : (width : ℕ) (ss : List Subtree) (ds : Children) (level : ℕ) → AreSubtrees width ss ds → All (λ n. n ≡ width) (level_widths_of_children ds level)
full_widths width [] no_child level h = All-nil (λ (n : ℕ). n ≡ width)
full_widths width [] (with_child d ds) level h = absurd h
full_widths width (s ∷ ss) no_child level h = absurd h
full_widths width (s ∷ ss) (with_child d ds) level h =
    All-append (λ (n : ℕ). n ≡ width) (level_widths d level) (level_widths_of_children ds level) (h.0.full.widths level) (full_widths width ss ds level h.1)

last_depths : (width height : ℕ) (ss : List Subtree) (ds : Children) → AreTrees (IsLastSubtree width) width ss ds → HaveHeight height ss → HaveLeavesAt height ds
last_depths width height [] no_child h e = tt
last_depths width height [] (with_child d ds) h e = absurd h
last_depths width height (s ∷ []) no_child h e = absurd h
last_depths width height (s ∷ []) (with_child d no_child) h e =
    (subst (λ (n : ℕ). HasLeavesAt n d) (All-head (λ (x : Subtree). x.height ≡ height) s [] e) h.front.depth, tt)
last_depths width height (s ∷ []) (with_child d (with_child f ds)) h e = absurd h
last_depths width height (s ∷ t ∷ ss) no_child h e = absurd h
last_depths width height (s ∷ t ∷ ss) (with_child d ds) h e =
    let P = λ (x : Subtree). x.height ≡ height in
    (subst (λ (n : ℕ). HasLeavesAt n d) (All-head P s (t ∷ ss) e) h.0.full.depth, last_depths width height (t ∷ ss) ds h.1 (All-tail P s (t ∷ ss) e))

last_widths : (width : ℕ) (ss : List Subtree) (ds : Children) (level : ℕ) → AreTrees (IsLastSubtree width) width ss ds → AreFull width (level_widths_of_children ds level)
last_widths width [] no_child level h = full_none width
last_widths width [] (with_child d ds) level h = absurd h
last_widths width (s ∷ []) no_child level h = absurd h
last_widths width (s ∷ []) (with_child d no_child) level h = subst (AreFull width) (sym (append-nil (level_widths d level))) (h.front.widths level)
last_widths width (s ∷ []) (with_child d (with_child f ds)) level h = absurd h
last_widths width (s ∷ t ∷ ss) no_child level h = absurd h
last_widths width (s ∷ t ∷ ss) (with_child d ds) level h =
    full_append width (level_widths d level) (level_widths_of_children ds level) (h.0.full.widths level) (last_widths width (t ∷ ss) ds level h.1)

last_linked : (width : ℕ) (ss : List Subtree) (ds : Children) (level : ℕ) → 0 < width → AreTrees (IsLastSubtree width) width ss ds
    → All (λ n. 0 < n) (level_widths_of_children ds level)
last_linked width [] no_child level some h = All-nil (λ (n : ℕ). 0 < n)
last_linked width [] (with_child d ds) level some h = absurd h
last_linked width (s ∷ []) no_child level some h = absurd h
last_linked width (s ∷ []) (with_child d no_child) level some h = subst (All (λ (n : ℕ). 0 < n)) (sym (append-nil (level_widths d level))) (h.front.linked level)
last_linked width (s ∷ []) (with_child d (with_child f ds)) level some h = absurd h
last_linked width (s ∷ t ∷ ss) no_child level some h = absurd h
last_linked width (s ∷ t ∷ ss) (with_child d ds) level some h =
    All-append (λ (n : ℕ). 0 < n) (level_widths d level) (level_widths_of_children ds level) (all_some width (level_widths d level) some (h.0.full.widths level))
    (last_linked width (t ∷ ss) ds level some h.1)

-- ---- the levels of a node

depth_of : (ss : List Subtree) (block : List ℕ) (ds : Children) (height : ℕ) → HaveLeavesAt height ds → HasLeavesAt (height + 1) (node_over ss block ds)
depth_of ss block ds height h = subst (λ (n : ℕ). HasLeavesAt n (node_over ss block ds)) (sym (add-one height)) h

parts_count : (ss : List Subtree) → length (map part_for ss) ≡ length ss
parts_count ss = length-map ss part_for

full_levels : (width : ℕ) (ss : List Subtree) (block : List ℕ) (ds : Children) (level : ℕ) → AreSubtrees width ss ds → length ss ≡ width
    → All (λ n. n ≡ width) (level_widths (node_over ss block ds) level)
full_levels width ss block ds zero h e = All-cons (λ (n : ℕ). n ≡ width) _ [] (parts_count ss ∙ e) (All-nil (λ (n : ℕ). n ≡ width))
full_levels width ss block ds (suc level) h e = full_widths width ss ds level h

last_levels : (width : ℕ) (ss : List Subtree) (block : List ℕ) (ds : Children) (level : ℕ) → AreTrees (IsLastSubtree width) width ss ds → length ss ≤ width
    → AreFull width (level_widths (node_over ss block ds) level)
last_levels width ss block ds zero h le = full_one width (length (map part_for ss)) (let c = parts_count ss in omega arith)
last_levels width ss block ds (suc level) h le = last_widths width ss ds level h

linked_levels : (width : ℕ) (ss : List Subtree) (block : List ℕ) (ds : Children) (level : ℕ) → 0 < width → AreTrees (IsLastSubtree width) width ss ds → 0 < length ss
    → All (λ n. 0 < n) (level_widths (node_over ss block ds) level)
linked_levels width ss block ds zero some h lt =
    All-cons (λ (n : ℕ). 0 < n) (length (map part_for ss)) [] (let c = parts_count ss in omega arith) (All-nil (λ (n : ℕ). 0 < n))
linked_levels width ss block ds (suc level) some h lt = last_linked width ss ds level some h

-- ---- how many leaves there are, and how large the Tsizes

-- of full subtrees of one height each has more leaves than its height
pub many_leaves : (width height : ℕ) (ss : List Subtree) (ds : Children) → AreSubtrees width ss ds → HaveHeight height ss
    → length ss * (height + 1) ≤ length (leaves_of_children ds)
many_leaves width height [] no_child h e = omega arith
many_leaves width height [] (with_child d ds) h e = absurd h
many_leaves width height (s ∷ ss) no_child h e = absurd h
many_leaves width height (s ∷ ss) (with_child d ds) h e =
    let P = λ (x : Subtree). x.height ≡ height in
    let rest = many_leaves width height ss ds h.1 (All-tail P s ss e) in
    let same : s.height ≡ height = All-head P s ss e in
    let many = h.0.many in
    let size = length-append (leaves d) (leaves_of_children ds) in
    omega arith

pub last_leaves : (width : ℕ) (ss : List Subtree) (ds : Children) → AreTrees (IsLastSubtree width) width ss ds → length ss ≤ length (leaves_of_children ds)
last_leaves width [] no_child h = omega arith
last_leaves width [] (with_child d ds) h = absurd h
last_leaves width (s ∷ []) no_child h = absurd h
last_leaves width (s ∷ []) (with_child d no_child) h =
    let some = h.some in
    let size = length-append (leaves d) [] in
    omega arith
last_leaves width (s ∷ []) (with_child d (with_child f ds)) h = absurd h
last_leaves width (s ∷ t ∷ ss) no_child h = absurd h
last_leaves width (s ∷ t ∷ ss) (with_child d ds) h =
    let rest = last_leaves width (t ∷ ss) ds h.1 in
    let many = h.0.many in
    let size = length-append (leaves d) (leaves_of_children ds) in
    omega arith

full_tsizes : (width : ℕ) (ss : List Subtree) (ds : Children) → AreSubtrees width ss ds
    → sum_by tsize_in ss + 524288 * length ss ≤ sum_by content_in ss + 524288 * length (leaves_of_children ds)
full_tsizes width [] no_child h = omega arith
full_tsizes width [] (with_child d ds) h = absurd h
full_tsizes width (s ∷ ss) no_child h = absurd h
full_tsizes width (s ∷ ss) (with_child d ds) h =
    let rest = full_tsizes width ss ds h.1 in
    let light = h.0.light in
    let tsize = h.0.made.tsize in
    let content_len = h.0.made.content_len in
    let a = sum_by-cons tsize_in s ss in
    let b = sum_by-cons content_in s ss in
    let size = length-append (leaves d) (leaves_of_children ds) in
    omega arith

pub last_tsizes : (width height : ℕ) (ss : List Subtree) (ds : Children) → AreTrees (IsLastSubtree width) width ss ds → HaveHeight height ss
    → sum_by tsize_in ss ≤ sum_by content_in ss + 524288 * (length (leaves_of_children ds) + height)
last_tsizes width height [] no_child h e = omega arith
last_tsizes width height [] (with_child d ds) h e = absurd h
last_tsizes width height (s ∷ []) no_child h e = absurd h
last_tsizes width height (s ∷ []) (with_child d no_child) h e =
    let same : s.height ≡ height = All-head (λ (x : Subtree). x.height ≡ height) s [] e in
    let light = h.light in
    let tsize = h.made.tsize in
    let content_len = h.made.content_len in
    let a = sum_by-cons tsize_in s [] in
    let b = sum_by-cons content_in s [] in
    let size = length-append (leaves d) [] in
    omega arith
last_tsizes width height (s ∷ []) (with_child d (with_child f ds)) h e = absurd h
last_tsizes width height (s ∷ t ∷ ss) no_child h e = absurd h
last_tsizes width height (s ∷ t ∷ ss) (with_child d ds) h e =
    let rest = last_tsizes width height (t ∷ ss) ds h.1 (All-tail (λ (x : Subtree). x.height ≡ height) s (t ∷ ss) e) in
    let light = h.0.light in
    let tsize = h.0.made.tsize in
    let content_len = h.0.made.content_len in
    let a = sum_by-cons tsize_in s (t ∷ ss) in
    let b = sum_by-cons content_in s (t ∷ ss) in
    let size = length-append (leaves d) (leaves_of_children ds) in
    omega arith

-- ---- nodes as subtrees

-- a node over `width` full subtrees of one height is a full subtree a level higher
pub full_node : NodeLaws → (width height : ℕ) (ss : List Subtree) (block : List ℕ) (ds : Children) → 2 ≤ width → length ss ≡ width → AreSubtrees width ss ds
    → HaveHeight height ss → IsFileBlock ss block → length block ≤ 524288 → sum_by content_in ss < 2 ^ 63
    → IsSubtree width (record { height = height + 1; made = node_made ss block }) (node_over ss block ds)
full_node laws width height ss block ds two e h same written small few =
    let parts = full_parts width ss ds h in
    let made = node_made_of ss block ds parts in
    let is_part = node_part laws ss block ds written few parts in
    let many = many_leaves width height ss ds h same in
    let tsizes = full_tsizes width ss ds h in
    let product : 2 * (height + 1) ≤ length ss * (height + 1) = grind arith in
    let tsize = made.tsize in
    let content_len = made.content_len in
    record {
      made = made;
      is_part = is_part;
      full = record { depth = depth_of ss block ds height (full_depths width height ss ds h same); widths = λ level. full_levels width ss block ds level h e };
      many = omega arith;
      light = omega arith;
    }

-- a node over at most `width` subtrees of one height, of which the last may not be full, may be the last a level higher
pub last_node : NodeLaws → (width height : ℕ) (ss : List Subtree) (block : List ℕ) (ds : Children) → 2 ≤ width → length ss ≤ width → 0 < length ss
    → AreTrees (IsLastSubtree width) width ss ds → HaveHeight height ss → IsFileBlock ss block → length block ≤ 524288 → sum_by content_in ss < 2 ^ 63
    → IsLastSubtree width (record { height = height + 1; made = node_made ss block }) (node_over ss block ds)
last_node laws width height ss block ds two le some h same written small few =
    let parts = last_parts width ss ds h in
    let made = node_made_of ss block ds parts in
    let is_part = node_part laws ss block ds written few parts in
    let many = last_leaves width ss ds h in
    let tsizes = last_tsizes width height ss ds h same in
    let tsize = made.tsize in
    let content_len = made.content_len in
    record {
      made = made;
      is_part = is_part;
      front = record {
        depth = depth_of ss block ds height (last_depths width height ss ds h same);
        widths = λ level. last_levels width ss block ds level h le;
        linked = λ level. linked_levels width ss block ds level (omega arith) h some;
      };
      some = omega arith;
      light = omega arith;
    }
