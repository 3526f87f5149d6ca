-- What a file of few bytes in the importer's layout takes at most.
use Rattle.std.proofs.Common.{All, List, Option, Some, [], ap, arith, length, length-append, refl, subst, suc, sym, zero, ℕ, ◌*◌, ◌++◌, ◌+◌, ◌<◌, ◌∙◌, ◌∷◌, ◌≡◌, ◌≤◌}
use Rattle.std.proofs.lemmas.List.{length-map}
use Rattle.std.proofs.lemmas.List.Elements.{All-head, All-tail}
use Rattle.std.specs.Prelude.{map}
use Rattle.tg_audit.proofs.BlockSizes.{BlockLaws, all_left, all_right, block_fits, names_room}
use Rattle.tg_audit.proofs.Alike.{file_sort}
use Rattle.tg_audit.specs.Packing.{audit_options}
use Rattle.tg_import.specs.Counting.{counts_of}
use Rattle.tg_import.specs.Imported.{layout}
use Rattle.tg_import.specs.declared.summary.Summary.{Summary}
use Rattle.tg_model.specs.Content.{content, content_at, content_of_children}
use Rattle.tg_model.specs.Dag.{Children, Dag, IsWhole, Section, bare, blocks, blocks_of_children, no_child, node, root_cids, total_of, unopened, with_child}
use Rattle.tg_model.specs.ImportLayout.{AreFull, HasLeavesAt, HasPlainCid, HaveLeavesAt, IsLaidAt, IsLaidFile, file_unix, leaves, leaves_of_children, level_widths, level_widths_of_children, tsize_of, tsizes_of}
use Rattle.tg_model.specs.ShowsTree.{Shows}
use Rattle.tg_model.specs.Sound.{AreCheckedAt, IsCheckedAt, Position, part, positions, top}
use Rattle.tg_model.specs.declared.kinds.Kind.TheVariants.{Basic, File, Raw, Shard, Symlink}
use Rattle.tg_model.specs.declared.kinds.Part.{Part}
use Rattle.tg_tree.specs.Tree.{bytes_of, sort_within}
use Rattle.tg_tree.specs.declared.items.Sort.TheVariants as sorts
use Rattle.tg_tree.specs.declared.tree.Tree.{Tree, out-Tree}

-- a sound DAG in the layout where it stands
pub record IsAt (position : Position) (d : Dag) : Type 0 where
  pub whole : IsWhole d
  pub checked : IsCheckedAt position d
  pub laid : IsLaidAt (layout audit_options) position d
  pub plain : All HasPlainCid (blocks d)

-- the numbers of a summary together
abbrev pub all_of : Summary → ℕ
all_of s = s.files + s.folders + s.shards + s.bytes

-- how much a file takes at most, in Tsizes and in counts
abbrev pub file_most : ℕ
file_most = 16777216

-- ---- leaves

abbrev bytes_in : List (List ℕ) → ℕ
bytes_in [] = 0
bytes_in (leaf ∷ leaves) = length leaf + bytes_in leaves

bytes_both : (xs ys : List (List ℕ)) → bytes_in (xs ++ ys) ≡ bytes_in xs + bytes_in ys
bytes_both [] ys = omega arith
bytes_both (x ∷ xs) ys = let rest = bytes_both xs ys in omega (arith, rest)

pub rest_full : (number n m : ℕ) (ns : List ℕ) → AreFull number (n ∷ m ∷ ns) → AreFull number (m ∷ ns)
rest_full number n m ns h = record {
  full = λ i k before e. h.full (suc i) k (omega (arith, before)) e;
  last = λ i k is e. h.last (suc i) k (omega (arith, is)) e;
}

full_bytes : (ls : List (List ℕ)) → AreFull 1048576 (map length ls) → length ls * 1048576 ≤ bytes_in ls + 1048576
full_bytes [] h = omega arith
full_bytes (l ∷ []) h = omega arith
full_bytes (l ∷ m ∷ ls) h =
    let here : length l ≡ 1048576 = h.full 0 (length l) (omega arith) refl in
    let rest = full_bytes (m ∷ ls) (rest_full 1048576 (length l) (length m) (map length ls) h) in
    omega (arith, here, rest)

mutual
  leaf_bytes : (position : Position) (d : Dag) → IsCheckedAt position d → bytes_in (leaves d) ≤ length (content_at position d)
  leaf_bytes position (unopened cid) checked = omega arith
  leaf_bytes position (bare section fault) checked = omega arith
  leaf_bytes position (node section Raw children) checked =
      let both = length-append section.block (content_of_children [] children) in omega (arith, both)
  leaf_bytes position (node section (File inline filesize parts) children) checked =
      let both = length-append inline (content_of_children (positions position (File inline filesize parts)) children) in
      let rest = leaves_bytes (positions position (File inline filesize parts)) children checked.1 in
      omega (arith, both, rest)
  leaf_bytes position (node section (Basic es) children) checked = omega arith
  leaf_bytes position (node section (Shard slots) children) checked = omega arith
  leaf_bytes position (node section (Symlink target) children) checked = omega arith

  leaves_bytes : (places : List Position) (children : Children) → AreCheckedAt places children
      → bytes_in (leaves_of_children children) ≤ length (content_of_children places children)
  leaves_bytes places no_child checked = omega arith
  leaves_bytes [] (with_child d children) checked = absurd checked
  leaves_bytes (place ∷ places) (with_child d children) checked =
      let here = leaf_bytes place d checked.0 in
      let there = leaves_bytes places children checked.1 in
      let sums = bytes_both (leaves d) (leaves_of_children children) in
      let both = length-append (content_at place d) (content_of_children places children) in
      omega (arith, here, there, sums, both)

-- a node that has a link at each node has a leaf, and as many as links at least
abbrev Links : List ℕ → Type 0
Links widths = All (λ width. 0 < width) widths

mutual
  some_leaf : (k : ℕ) (position : Position) (d : Dag) → IsCheckedAt position d → HasLeavesAt k d → ((level : ℕ) → Links (level_widths d level))
      → 1 ≤ length (leaves d)
  some_leaf k position (unopened cid) checked even linked = absurd even
  some_leaf k position (bare section fault) checked even linked = absurd even
  some_leaf k position (node section Raw children) checked even linked = omega arith
  some_leaf zero position (node section (File inline filesize parts) children) checked even linked = absurd even
  some_leaf (suc k) position (node section (File inline filesize parts) children) checked even linked =
      let few : 0 < length parts = All-head (λ width. 0 < width) (length parts) [] (linked 0) in
      let many = some_leaves k (positions position (File inline filesize parts)) children checked.1 even (λ level. linked (suc level)) in
      let links : length (root_cids children) ≡ length parts = ap length checked.0.links ∙ length-map parts (λ p. p.cid) in
      omega (arith, few, many, links)
  some_leaf k position (node section (Basic es) children) checked even linked = absurd even
  some_leaf k position (node section (Shard slots) children) checked even linked = absurd even
  some_leaf k position (node section (Symlink target) children) checked even linked = absurd even

  some_leaves : (k : ℕ) (places : List Position) (children : Children) → AreCheckedAt places children → HaveLeavesAt k children
      → ((level : ℕ) → Links (level_widths_of_children children level)) → length (root_cids children) ≤ length (leaves_of_children children)
  some_leaves k places no_child checked even linked = omega arith
  some_leaves k [] (with_child d children) checked even linked = absurd checked
  some_leaves k (place ∷ places) (with_child d children) checked even linked =
      let here = some_leaf k place d checked.0 even.0
      (λ level. all_left (λ width. 0 < width) (level_widths d level) (level_widths_of_children children level) (linked level)) in
      let there = some_leaves k places children checked.1 even.1
      (λ level. all_right (λ width. 0 < width) (level_widths d level) (level_widths_of_children children level) (linked level)) in
      let both = length-append (leaves d) (leaves_of_children children) in
      omega (arith, here, there, both)

-- a node above the leaves, and how many links it has
record IsAbove (d : Dag) : Type 0 where
  number : ℕ
  width : level_widths d 0 ≡ number ∷ []
  many : ((level : ℕ) → Links (level_widths d level)) → number ≤ length (leaves d)

above_leaves : (k : ℕ) (position : Position) (d : Dag) → IsCheckedAt position d → HasLeavesAt (suc k) d → IsAbove d
above_leaves k position (unopened cid) checked even = absurd even
above_leaves k position (bare section fault) checked even = absurd even
above_leaves k position (node section Raw children) checked even = absurd (let e : suc k ≡ 0 = even in omega (arith, e))
above_leaves k position (node section (File inline filesize parts) children) checked even = record {
  number = length parts;
  width = refl;
  many = λ linked.
      let many = some_leaves k (positions position (File inline filesize parts)) children checked.1 even (λ level. linked (suc level)) in
      let links : length (root_cids children) ≡ length parts = ap length checked.0.links ∙ length-map parts (λ p. p.cid) in
      omega (arith, many, links);
}
above_leaves k position (node section (Basic es) children) checked even = absurd even
above_leaves k position (node section (Shard slots) children) checked even = absurd even
above_leaves k position (node section (Symlink target) children) checked even = absurd even

-- where the leaves lie two links or more below, there are 1,024 of them or more
many_leaves : (k : ℕ) (places : List Position) (children : Children) → AreCheckedAt places children → HaveLeavesAt (suc k) children
    → 2 ≤ length (root_cids children)
    → AreFull 1024 (level_widths_of_children children 0) → ((level : ℕ) → Links (level_widths_of_children children level))
    → 1024 ≤ length (leaves_of_children children)
many_leaves k places no_child checked even two full linked = absurd (omega (arith, two))
many_leaves k [] (with_child c children) checked even two full linked = absurd checked
many_leaves k (p ∷ places) (with_child c no_child) checked even two full linked = absurd (omega (arith, two))
many_leaves k (p ∷ []) (with_child c (with_child d children)) checked even two full linked = absurd checked.1
many_leaves k (p ∷ q ∷ places) (with_child c (with_child d children)) checked even two full linked =
    let first = above_leaves k p c checked.0 even.0 in
    let second = above_leaves k q d checked.1.0 even.1.0 in
    let rest = level_widths_of_children children 0 in
    let widths : level_widths_of_children (with_child c (with_child d children)) 0 ≡ first.number ∷ second.number ∷ rest =
    ap (λ (l : List ℕ). l ++ (level_widths d 0 ++ rest)) first.width ∙ ap (λ (l : List ℕ). first.number ∷ (l ++ rest)) second.width in
    let fills : AreFull 1024 (first.number ∷ second.number ∷ rest) = subst (AreFull 1024) widths full in
    let all : first.number ≡ 1024 = fills.full 0 first.number (omega arith) refl in
    let more = first.many
    (λ level. all_left (λ width. 0 < width) (level_widths c level) (level_widths_of_children (with_child d children) level) (linked level)) in
    let both = length-append (leaves c) (leaves_of_children (with_child d children)) in
    omega (arith, all, more, both)

-- ---- Tsizes

pub no_links : (children : Children) → root_cids children ≡ [] → tsizes_of children ≡ 0
no_links no_child e = refl
no_links (with_child d children) e = absurd (cc e)

pub no_content : (children : Children) → content_of_children [] children ≡ []
no_content no_child = refl
no_content (with_child d children) = refl

leaf_tsize : (position : Position) (d : Dag) → IsCheckedAt position d → HasLeavesAt 0 d → tsize_of d ≤ length (content_at position d)
leaf_tsize position (unopened cid) checked even = absurd even
leaf_tsize position (bare section fault) checked even = absurd even
leaf_tsize position (node section Raw children) checked even =
    let none = no_links children checked.0.links in
    let both = length-append section.block (content_of_children [] children) in
    omega (arith, none, both)
leaf_tsize position (node section (File inline filesize parts) children) checked even = absurd even
leaf_tsize position (node section (Basic es) children) checked even = absurd even
leaf_tsize position (node section (Shard slots) children) checked even = absurd even
leaf_tsize position (node section (Symlink target) children) checked even = absurd even

pub leaf_tsizes : (places : List Position) (children : Children) → AreCheckedAt places children → HaveLeavesAt 0 children
    → tsizes_of children ≤ length (content_of_children places children)
leaf_tsizes places no_child checked even = omega arith
leaf_tsizes [] (with_child d children) checked even = absurd checked
leaf_tsizes (place ∷ places) (with_child d children) checked even =
    let here = leaf_tsize place d checked.0 even.0 in
    let there = leaf_tsizes places children checked.1 even.1 in
    let both = length-append (content_at place d) (content_of_children places children) in
    omega (arith, here, there, both)

pub no_names : (parts : List Part) → names_room (map (λ p. []) parts) ≡ 71 * length parts
no_names [] = refl
no_names (p ∷ parts) = let rest = no_names parts in omega (arith, rest)

-- ---- a file

pub not_folder : (tree : Tree) (bytes : List ℕ) → bytes_of (Some tree) ≡ Some bytes → sort_within (out-Tree tree) ≡ sorts.Folder → ⊥
not_folder tree bytes is s = let no : sorts.File ≡ sorts.Folder = sym (file_sort (out-Tree tree) bytes is) ∙ s in cc no

pub some_one : (a b : List ℕ) → Some a ≡ Some b → a ≡ b
some_one a b e = cc e

pub record IsLight (most : ℕ) (d : Dag) : Type 0 where
  pub tsize : tsize_of d ≤ most
  pub counts : all_of (counts_of d) ≤ most

-- a file of at most 10,485,760 bytes that isn't a leaf has leaves alone below its root, and at most 1,024 of them
pub record IsOneLevel (parts : List Part) (children : Children) : Type 0 where
  pub even : HaveLeavesAt 0 children
  pub few : length parts ≤ 1024
  pub chunks : AreFull 1048576 (map length (leaves_of_children children))

pub one_level : (section : Section) (inline : List ℕ) (filesize : Option ℕ) (parts : List Part) (children : Children)
    → IsAt top (node section (File inline filesize parts) children)
    → length (content (node section (File inline filesize parts) children)) ≤ 10485760 → IsOneLevel parts children
one_level section inline filesize parts children h few = by file.depth file.even file.branches
  where
    file : IsLaidFile (layout audit_options) (node section (File inline filesize parts) children)
    file = h.laid.0

    links : length (root_cids children) ≡ length parts
    links = ap length h.checked.0.links ∙ length-map parts (λ p. p.cid)

    by : (depth : ℕ) → HasLeavesAt depth (node section (File inline filesize parts) children)
        → (0 < depth → All (λ width. 2 ≤ width) (length parts ∷ [])) → IsOneLevel parts children
    by zero even branches = absurd even
    by (suc zero) even branches = record { even = even; few = (file.levels 0).last 0 (length parts) (omega arith) refl; chunks = file.chunks }
    by (suc (suc k)) even branches =
        let two : 2 ≤ length parts = All-head (λ width. 2 ≤ width) (length parts) [] (branches (omega arith)) in
        let more = many_leaves k (map (λ p. part p.size) parts) children h.checked.1 even (omega (arith, two, links)) (file.levels 1)
        (λ level. file.linked (suc level)) in
        let full = full_bytes (leaves_of_children children) file.chunks in
        let bytes = leaf_bytes top (node section (File inline filesize parts) children) h.checked in
        absurd (omega (arith, more, full, bytes, few))

module _ (laws : BlockLaws) where
  linked_file : (section : Section) (inline : List ℕ) (filesize : Option ℕ) (parts : List Part) (children : Children)
      → IsAt top (node section (File inline filesize parts) children)
      → length (content (node section (File inline filesize parts) children)) ≤ 10485760
      → tsize_of (node section (File inline filesize parts) children) ≤ file_most
  linked_file section inline filesize parts children h few =
      let level = one_level section inline filesize parts children h few in
      let whole_content : length (content (node section (File inline filesize parts) children))
      ≡ length inline + length (content_of_children (map (λ p. part p.size) parts) children) =
      length-append inline (content_of_children (map (λ p. part p.size) parts) children) in
      let many = level.few in
      let block = block_fits laws section.block (map (λ p. []) parts) children
      (file_unix (total_of section (File inline filesize parts)) (map (λ p. p.size) parts)) h.laid.1 h.whole
      (All-tail HasPlainCid section (blocks_of_children children) h.plain) in
      let names = no_names parts in
      let sizes = length-map parts (λ p. p.size) in
      let rest = leaf_tsizes (map (λ p. part p.size) parts) children h.checked.1 level.even in
      omega (arith, many, block, names, sizes, rest, whole_content, few)

  pub light_file : (d : Dag) (tree : Tree) (bytes : List ℕ) → IsAt top d → Shows d tree → bytes_of (Some tree) ≡ Some bytes → length bytes ≤ 10485760
      → IsLight file_most d
  light_file (unopened cid) tree bytes h shows is few = absurd shows
  light_file (bare section fault) tree bytes h shows is few = absurd shows
  light_file (node section Raw children) tree bytes h shows is few =
      let same : length section.block ≡ length bytes = ap length (some_one section.block bytes (sym shows ∙ is)) in
      let none = no_links children h.checked.0.links in
      record { tsize = omega (arith, same, none, few); counts = omega (arith, same, few) }
  light_file (node section (File inline filesize parts) children) tree bytes h shows is few =
      let same : length (content (node section (File inline filesize parts) children)) ≡ length bytes =
      ap length (some_one (content (node section (File inline filesize parts) children)) bytes (sym shows ∙ is)) in
      record { tsize = linked_file section inline filesize parts children h (omega (arith, same, few)); counts = omega (arith, same, few) }
  light_file (node section (Basic es) children) tree bytes h shows is few = absurd (not_folder tree bytes is shows.0.folder)
  light_file (node section (Shard slots) children) tree bytes h shows is few = absurd (not_folder tree bytes is shows.0.folder)
  light_file (node section (Symlink target) children) tree bytes h shows is few = absurd h.laid
