-- Nodes of a file side by side, their children side by side, and how many links and which leaves they have.
use Rattle.std.proofs.Common.{◌≡◌, ◌<◌, ℕ, suc, List, [], ◌∷◌, ◌++◌, length, map, refl, sym, ap, ap₂, ◌∙◌, arith}
use Rattle.std.proofs.lemmas.List.Concat.{flat_map-append}
use Rattle.std.proofs.lemmas.List.Elements.{All-cons, All-head, All-nil, All-tail}
use Rattle.std.specs.List.{flat_map}
use Rattle.std.specs.Prelude.{All, ⊤}
use Rattle.tg_model.specs.Dag.{Children, Dag, bare, blocks, blocks_of_children, no_child, node, root_cids, unopened, with_child}
use Rattle.tg_model.specs.ImportLayout.{AreFull, AreLaidAt, HasLeavesAt, HasPlainCid, HaveLeavesAt, IsLaidAt, LayoutOptions, leaves, leaves_of_children, level_widths, level_widths_of_children}
use Rattle.tg_model.specs.Sound.{AreCheckedAt, IsCheckedAt, Position, positions}
use Rattle.tg_model.specs.declared.kinds.Kind.TheVariants.{Basic, File, Raw, Shard, Symlink}
use Rattle.tg_layout_laws.proofs.Chunks.{Fill}

-- ---- what holds of all

pub all_left : {X : Type 0} (P : X → Type 0) (xs ys : List X) → All P (xs ++ ys) → All P xs
all_left P [] ys h = All-nil P
all_left P (x ∷ xs) ys h = All-cons P x xs (All-head P x (xs ++ ys) h) (all_left P xs ys (All-tail P x (xs ++ ys) h))

pub all_right : {X : Type 0} (P : X → Type 0) (xs ys : List X) → All P (xs ++ ys) → All P ys
all_right P [] ys h = h
all_right P (x ∷ xs) ys h = all_right P xs ys (All-tail P x (xs ++ ys) h)

rest_full : (number n m : ℕ) (ns : List ℕ) → AreFull number (n ∷ m ∷ ns) → AreFull number (m ∷ ns)
rest_full number n m ns h = record {
  full = λ i k before e. h.full (suc i) k (omega (arith, before)) e;
  last = λ i k is e. h.last (suc i) k (omega (arith, is)) e;
}

pub fill_from : (number : ℕ) (ns : List ℕ) → AreFull number ns → All (λ n. 0 < n) ns → Fill number ns
fill_from number [] h some = tt
fill_from number (n ∷ []) h some = (All-head (λ n. 0 < n) n [] some, h.last 0 n (omega arith) refl)
fill_from number (n ∷ m ∷ ns) h some = (
  All-head (λ n. 0 < n) n (m ∷ ns) some,
  h.full 0 n (omega arith) refl,
  fill_from number (m ∷ ns)
      (rest_full number n m ns h) (All-tail (λ n. 0 < n) n (m ∷ ns) some),
)

-- ---- children as a list

abbrev pub list_of : Children → List Dag
list_of no_child = []
list_of (with_child d children) = d ∷ list_of children

abbrev of_list : List Dag → Children
of_list [] = no_child
of_list (d ∷ ds) = with_child d (of_list ds)

there_and_back : (children : Children) → of_list (list_of children) ≡ children
there_and_back no_child = refl
there_and_back (with_child d children) = ap (with_child d) (there_and_back children)

pub same_children : (a b : Children) → list_of a ≡ list_of b → a ≡ b
same_children a b e = sym (there_and_back a) ∙ ap of_list e ∙ there_and_back b

abbrev pub child_list : Dag → List Dag
child_list (unopened cid) = []
child_list (bare section fault) = []
child_list (node section kind children) = list_of children

pub as_many : (children : Children) → length (root_cids children) ≡ length (list_of children)
as_many no_child = refl
as_many (with_child d children) = ap (λ n. suc n) (as_many children)

-- ---- nodes side by side

-- a node of a sound DAG that is laid out, under plain CIDs
pub record IsPart (options : LayoutOptions) (d : Dag) : Type 0 where
  pub position : Position
  pub checked : IsCheckedAt position d
  pub laid : IsLaidAt options position d
  pub plain : All HasPlainCid (blocks d)

-- all of them have their leaves so many links below
abbrev pub Row : LayoutOptions → ℕ → List Dag → Type 0
Row options depth [] = ⊤
Row options depth (d ∷ ds) = IsPart options d × HasLeavesAt depth d × Row options depth ds

pub row_both : (options : LayoutOptions) (depth : ℕ) (ds es : List Dag) → Row options depth ds → Row options depth es
    → Row options depth (ds ++ es)
row_both options depth [] es h k = k
row_both options depth (d ∷ ds) es h k = (h.0, h.1, row_both options depth ds es h.2 k)

children_row : (options : LayoutOptions) (depth : ℕ) (places : List Position) (children : Children)
    → AreCheckedAt places children → AreLaidAt options places children
    → All HasPlainCid (blocks_of_children children) → HaveLeavesAt depth children → Row options depth (list_of children)
children_row options depth places no_child checked laid plain even = tt
children_row options depth [] (with_child d children) checked laid plain even = absurd checked
children_row options depth (position ∷ places) (with_child d children) checked laid plain even = (
  record {
    position = position;
    checked = checked.0;
    laid = laid.0;
    plain = all_left HasPlainCid (blocks d)
        (blocks_of_children children) plain;
  },
  even.0,
  children_row options depth places children checked.1 laid.1
      (all_right HasPlainCid (blocks d) (blocks_of_children children) plain) even.1,
)

pub child_row : (options : LayoutOptions) (depth : ℕ) (d : Dag) → IsPart options d → HasLeavesAt (suc depth) d
    → Row options depth (child_list d)
child_row options depth (unopened cid) h even = absurd even
child_row options depth (bare section fault) h even = absurd even
child_row options depth (node section Raw children) h even = absurd (let e : suc depth ≡ 0 = even in omega (arith, e))
child_row options depth (node section (File inline filesize parts) children) h even =
    children_row options depth (positions h.position (File inline filesize parts)) children h.checked.1 h.laid.2
    (All-tail HasPlainCid section (blocks_of_children children) h.plain) even
child_row options depth (node section (Basic es) children) h even = absurd even
child_row options depth (node section (Shard slots) children) h even = absurd even
child_row options depth (node section (Symlink target) children) h even = absurd even

-- their children are such nodes, one link nearer to the leaves
pub next_row : (options : LayoutOptions) (depth : ℕ) (ds : List Dag) → Row options (suc depth) ds
    → Row options depth (flat_map child_list ds)
next_row options depth [] h = tt
next_row options depth (d ∷ ds) h = row_both options depth (child_list d) (flat_map child_list ds)
    (child_row options depth d h.0 h.1) (next_row options depth ds h.2)

-- ---- how many links they have, level by level

abbrev pub widths_of : ℕ → List Dag → List ℕ
widths_of level ds = flat_map (λ d. level_widths d level) ds

widths_below : (level : ℕ) (children : Children)
    → level_widths_of_children children level ≡ widths_of level (list_of children)
widths_below level no_child = refl
widths_below level (with_child d children) = ap (λ ns. level_widths d level ++ ns) (widths_below level children)

child_widths : (depth level : ℕ) (d : Dag) → HasLeavesAt (suc depth) d
    → level_widths d (suc level) ≡ widths_of level (child_list d)
child_widths depth level (unopened cid) even = absurd even
child_widths depth level (bare section fault) even = absurd even
child_widths depth level (node section Raw children) even = absurd (let e : suc depth ≡ 0 = even in omega (arith, e))
child_widths depth level (node section (File inline filesize parts) children) even = widths_below level children
child_widths depth level (node section (Basic es) children) even = absurd even
child_widths depth level (node section (Shard slots) children) even = absurd even
child_widths depth level (node section (Symlink target) children) even = absurd even

pub next_widths : (options : LayoutOptions) (depth level : ℕ) (ds : List Dag) → Row options (suc depth) ds
    → widths_of (suc level) ds ≡ widths_of level (flat_map child_list ds)
next_widths options depth level [] h = refl
next_widths options depth level (d ∷ ds) h =
    ap₂ (λ a b. a ++ b) (child_widths depth level d h.1) (next_widths options depth level ds h.2)
    ∙ sym (flat_map-append (λ d. level_widths d level) (child_list d) (flat_map child_list ds))

-- as many as before
pub mapped : {X Y : Type 0} (f : X → Y) (xs : List X) → length (map f xs) ≡ length xs
mapped f [] = refl
mapped f (x ∷ xs) = ap (λ n. suc n) (mapped f xs)

own_width : (options : LayoutOptions) (depth : ℕ) (d : Dag) → IsPart options d → HasLeavesAt (suc depth) d
    → level_widths d 0 ≡ length (child_list d) ∷ []
own_width options depth (unopened cid) h even = absurd even
own_width options depth (bare section fault) h even = absurd even
own_width options depth (node section Raw children) h even = absurd (let e : suc depth ≡ 0 = even in omega (arith, e))
own_width options depth (node section (File inline filesize parts) children) h even =
    let links : root_cids children ≡ map (λ p. p.cid) parts = h.checked.0.links in
    let many : length parts ≡ length (list_of children) = sym (mapped (λ p. p.cid) parts) ∙ sym (ap length links)
    ∙ as_many children in
    ap (λ n. n ∷ []) many
own_width options depth (node section (Basic es) children) h even = absurd even
own_width options depth (node section (Shard slots) children) h even = absurd even
own_width options depth (node section (Symlink target) children) h even = absurd even

pub own_widths : (options : LayoutOptions) (depth : ℕ) (ds : List Dag) → Row options (suc depth) ds
    → widths_of 0 ds ≡ map (λ d. length (child_list d)) ds
own_widths options depth [] h = refl
own_widths options depth (d ∷ ds) h = ap₂ (λ a b. a ++ b) (own_width options depth d h.0 h.1)
    (own_widths options depth ds h.2)

-- ---- their leaves

leaves_below : (children : Children) → leaves_of_children children ≡ flat_map leaves (list_of children)
leaves_below no_child = refl
leaves_below (with_child d children) = ap (λ ns. leaves d ++ ns) (leaves_below children)

child_leaves : (depth : ℕ) (d : Dag) → HasLeavesAt (suc depth) d → leaves d ≡ flat_map leaves (child_list d)
child_leaves depth (unopened cid) even = absurd even
child_leaves depth (bare section fault) even = absurd even
child_leaves depth (node section Raw children) even = absurd (let e : suc depth ≡ 0 = even in omega (arith, e))
child_leaves depth (node section (File inline filesize parts) children) even = leaves_below children
child_leaves depth (node section (Basic es) children) even = absurd even
child_leaves depth (node section (Shard slots) children) even = absurd even
child_leaves depth (node section (Symlink target) children) even = absurd even

pub next_leaves : (options : LayoutOptions) (depth : ℕ) (ds : List Dag) → Row options (suc depth) ds
    → flat_map leaves ds ≡ flat_map leaves (flat_map child_list ds)
next_leaves options depth [] h = refl
next_leaves options depth (d ∷ ds) h =
    ap₂ (λ a b. a ++ b) (child_leaves depth d h.1) (next_leaves options depth ds h.2) ∙ sym
    (flat_map-append leaves (child_list d) (flat_map child_list ds))
