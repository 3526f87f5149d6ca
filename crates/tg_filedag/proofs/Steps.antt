-- Subtrees of one height are linked.
use Rattle.std.proofs.Common.{◌≡◌, ◌+◌, ◌-◌, ◌<◌, ◌≤◌, ℕ, List, [], ◌∷◌, ◌++◌, length, take, drop, get_or, sym, ap, ap₂, ◌∙◌, subst, arith, append_assoc, length-append}
use Rattle.std.specs.Prelude.{slice_index}
use Rattle.std.proofs.lemmas.List.{append-nil, get_or-drop, get_or-map, length-drop, length-map, length-take-le, map-append, take-map}
use Rattle.tg_bytes.specs.Lists.{joined, joined_push}
use Rattle.tg_cid.specs.declared.cid.Codec.TheVariants.{DagPb}
use Rattle.tg_filedag.proofs.Falling.{between_equal, closed_falls, closed_few, pushed_falls, pushed_few}
use Rattle.tg_filedag.proofs.Forests.{Split, all_trees, behind, leaves_behind, sections_behind, trees_push}
use Rattle.tg_filedag.proofs.Parts.{node_over}
use Rattle.tg_filedag.proofs.Shapes.{HaveHeight, leaf_subtree}
use Rattle.tg_filedag.specs.Heights.{HasFew, IsFalling}
use Rattle.tg_filedag.specs.Linking.{HasRoom}
use Rattle.tg_filedag.specs.State.{HasNoFullLevel, IsForest, IsGrowing, heights}
use Rattle.tg_filedag.specs.Trees.{IsSubtree, bottom_up, bottom_up_of_children, leaf_made, leaf_of, node_made}
use Rattle.tg_filedag.specs.declared.subtree.Subtree.{Subtree}
use Rattle.tg_model.specs.Dag.{Dag, Section, no_child, with_child}
use Rattle.tg_model.specs.ImportLayout.{leaves_of_children}
use Rattle.tg_node_writing.specs.Keeping.{section_of}

-- ---- heights

pub heights_push : (ss : List Subtree) (s : Subtree) → heights (ss ++ s ∷ []) ≡ heights ss ++ s.height ∷ []
heights_push ss s = map-append (λ (x : Subtree). x.height) ss (s ∷ [])

pub heights_take : (ss : List Subtree) (start : ℕ) → heights (take start ss) ≡ take start (heights ss)
heights_take ss start = sym (take-map (λ (x : Subtree). x.height) start ss)

pub heights_closed : (ss : List Subtree) (start : ℕ) (s : Subtree) → heights (take start ss ++ s ∷ []) ≡ take start (heights ss) ++ s.height ∷ []
heights_closed ss start s = heights_push (take start ss) s ∙ ap (λ (hs : List ℕ). hs ++ s.height ∷ []) (heights_take ss start)

pub heights_count : (ss : List Subtree) → length (heights ss) ≡ length ss
heights_count ss = length-map ss (λ (x : Subtree). x.height)

pub height_at : (ss : List Subtree) (i : ℕ) (s : Subtree) → i < length ss → slice_index (heights ss) i ≡ (get_or ss i s).height
height_at ss i s lt = get_or-map (λ (x : Subtree). x.height) ss i s 0 lt

-- the subtrees from `start` on have one height
pub one_height : (ss : List Subtree) (start height : ℕ) → IsFalling (heights ss) → start < length ss → slice_index (heights ss) start ≡ height
    → slice_index (heights ss) (length ss - 1) ≡ height → HaveHeight height (drop start ss)
one_height ss start height falls lt a b i d at =
    let count = heights_count ss in
    let left = length-drop start ss in
    let same = between_equal (heights ss) start (length ss - 1) (start + i) falls (omega arith) (a ∙ sym b) (omega arith) (omega arith) in
    let here : get_or (drop start ss) i d ≡ get_or ss (start + i) d = get_or-drop start ss i d in
    ap (λ (s : Subtree). s.height) here ∙ sym (height_at ss (start + i) d (omega arith)) ∙ same ∙ b

-- ---- a forest with a leaf more

pub leaf_pushed : (width : ℕ) (ss : List Subtree) (chunk : List ℕ) (chunks : List (List ℕ)) (kept : List Section) → IsGrowing width ss chunks kept → HasNoFullLevel width ss
    → HasRoom chunks chunk → IsGrowing width (ss ++ record { height = 0; made = leaf_made chunk } ∷ []) (chunks ++ chunk ∷ []) (kept ++ (bottom_up (leaf_of chunk)))
leaf_pushed width ss chunk chunks kept f levels room =
    let s : Subtree = record { height = 0; made = leaf_made chunk } in
    let low = f.low in
    let few_chunks = f.few_chunks in
    let few_bytes = f.few_bytes in
    let chunk_room = room.0 in
    let byte_room = room.1 in
    let count = heights_count ss in
    let more = length-append ss (s ∷ []) in
    let chunk_more = length-append chunks (chunk ∷ []) in
    let byte_more : length (joined (chunks ++ chunk ∷ [])) ≡ length (joined chunks) + length chunk =
    ap length (joined_push chunks chunk) ∙ length-append (joined chunks) chunk in
    record {
      trees = behind f.trees (with_child (leaf_of chunk) no_child);
      stand = trees_push (IsSubtree width) width ss f.trees s (leaf_of chunk) (all_trees width ss f.trees f.stand) (leaf_subtree width chunk);
      chunks_are = leaves_behind f.trees (with_child (leaf_of chunk) no_child) ∙ ap (λ (t : List (List ℕ)). t ++ chunk ∷ []) f.chunks_are;
      kept_are = sections_behind f.trees (with_child (leaf_of chunk) no_child)
          ∙ ap₂ (λ (t u : List Section). t ++ u) f.kept_are (append-nil (bottom_up (leaf_of chunk)));
      falls = subst IsFalling (sym (heights_push ss s)) (pushed_falls (heights ss) 0 f.falls (λ i lt. omega arith));
      few = subst (λ (hs : List ℕ). HasFew width hs (length (ss ++ s ∷ []) - 1)) (sym (heights_push ss s))
          (subst (λ (n : ℕ). HasFew width (heights ss ++ 0 ∷ []) n) (omega arith)
          (pushed_few width (heights ss) 0 (omega arith) (subst (λ (n : ℕ). HasFew width (heights ss) n) (sym count) levels)));
      low = f.low;
      high = f.high;
      few_chunks = omega arith;
      few_bytes = omega arith;
    }

-- ---- a forest whose subtrees from `start` on are linked

unfoldable pub closed_forest : (Last : Subtree → Dag → Type 0) (width start height : ℕ) (old : List Subtree) (block : List ℕ) (chunks : List (List ℕ)) (kept : List Section)
    → (f : IsForest Last width old chunks kept) → start < length old → (sp : Split Last width old f.trees start)
    → Last (record { height = height; made = node_made (drop start old) block }) (node_over (drop start old) block sp.back)
    → (0 < start → height ≤ slice_index (heights old) (start - 1))
    → IsForest Last width (take start old ++ record { height = height; made = node_made (drop start old) block } ∷ []) chunks (kept ++ section_of DagPb block ∷ [])
closed_forest Last width start height old block chunks kept f lt sp last above =
    let s : Subtree = record { height = height; made = node_made (drop start old) block } in
    let d : Dag = node_over (drop start old) block sp.back in
    let low = f.low in
    let section : List Section = section_of DagPb block ∷ [] in
    let count = heights_count old in
    let front = length-take-le start old (omega arith) in
    let front_heights = length-take-le start (heights old) (omega arith) in
    let more = length-append (take start old) (s ∷ []) in
    let names : heights (take start old ++ s ∷ []) ≡ take start (heights old) ++ height ∷ [] =
    heights_push (take start old) s ∙ ap (λ (hs : List ℕ). hs ++ height ∷ []) (heights_take old start) in
    let last_is : length (take start (heights old)) ≡ length (take start old ++ s ∷ []) - 1 = omega arith in
    let chunks_whole : leaves_of_children sp.front ++ leaves_of_children sp.back ≡ chunks =
    sym (leaves_behind sp.front sp.back) ∙ ap leaves_of_children (sym sp.whole) ∙ f.chunks_are in
    let kept_whole : bottom_up_of_children sp.front ++ bottom_up_of_children sp.back ≡ kept =
    sym (sections_behind sp.front sp.back) ∙ ap bottom_up_of_children (sym sp.whole) ∙ f.kept_are in
    record {
      trees = behind sp.front (with_child d no_child);
      stand = trees_push Last width (take start old) sp.front s d sp.fronts last;
      chunks_are = leaves_behind sp.front (with_child d no_child)
          ∙ ap (λ (t : List (List ℕ)). leaves_of_children sp.front ++ t) (append-nil (leaves_of_children sp.back)) ∙ chunks_whole;
      kept_are = sections_behind sp.front (with_child d no_child)
          ∙ ap (λ (t : List Section). bottom_up_of_children sp.front ++ t) (append-nil (bottom_up_of_children sp.back ++ section))
          ∙ sym (append_assoc (bottom_up_of_children sp.front) (bottom_up_of_children sp.back) section)
          ∙ ap (λ (t : List Section). t ++ section) kept_whole;
      falls = subst IsFalling (sym names) (closed_falls (heights old) start height f.falls (omega arith) above);
      few = subst (λ (hs : List ℕ). HasFew width hs (length (take start old ++ s ∷ []) - 1)) (sym names)
          (subst (λ (n : ℕ). HasFew width (take start (heights old) ++ height ∷ []) n) last_is
          (closed_few width (heights old) start height (omega arith) (subst (λ (n : ℕ). HasFew width (heights old) (n - 1)) (sym count) f.few) (omega arith)));
      low = f.low;
      high = f.high;
      few_chunks = f.few_chunks;
      few_bytes = f.few_bytes;
    }
