-- What is bounded of a file in the importer's layout.
use Rattle.std.proofs.Common.{All, List, Option, Some, [], ap, arith, false, length, length-append, refl, subst, sym, ℕ, ◌*◌, ◌++◌, ◌+◌, ◌<◌, ◌^◌, ◌∙◌, ◌∷◌, ◌≡◌, ◌≤◌}
use Rattle.std.proofs.lemmas.Fmt.{length-decimal-le_succ}
use Rattle.std.proofs.lemmas.List.{length-map}
use Rattle.std.proofs.lemmas.List.Elements.{All-cons, All-head, All-nil, All-tail}
use Rattle.std.specs.Prelude.{decimal, map}
use Rattle.tg_audit.proofs.BlockSizes.{BlockLaws, block_fits}
use Rattle.tg_audit.proofs.FileSizes.{IsAt, no_names, not_folder, one_level, rest_full, some_one}
use Rattle.tg_audit.proofs.WithinNodes.{AreLow, IsBound, IsSmallBlock, no_link, no_room}
use Rattle.tg_audit.proofs.WithinReplies.{room_of}
use Rattle.tg_audit.proofs.WithinWeights.{weights}
use Rattle.tg_bytes.specs.Ascii.{line_feed, space}
use Rattle.tg_cid.specs.Cid.{CidParts}
use Rattle.tg_model.specs.Content.{content, content_of_children}
use Rattle.tg_model.specs.Dag.{Children, Dag, Section, bare, blocks_of_children, no_child, node, root_cids, total_of, unopened, with_child}
use Rattle.tg_model.specs.ImportLayout.{AreFull, HasPlainCid, HaveLeavesAt, IsLaidFile, file_unix, leaves_of_children}
use Rattle.tg_model.specs.Lookup.{is_directory}
use Rattle.tg_model.specs.ShowsTree.{Shows}
use Rattle.tg_model.specs.Sound.{AreCheckedAt, Position, part, top}
use Rattle.tg_model.specs.Texts.{file_line}
use Rattle.tg_model.specs.declared.kinds.Kind.TheVariants.{Basic, File, Raw, Shard, Symlink}
use Rattle.tg_model.specs.declared.kinds.Part.{Part}
use Rattle.tg_model_laws.specs.FileSizes.{TotalIsLength}
use Rattle.tg_tree.specs.Tree.{bytes_of}
use Rattle.tg_tree.specs.declared.tree.Tree.{Tree}

-- the first line of a file's record
file_line_few : (size : ℕ) (path : List ℕ) → size < 2 ^ 64 → length (file_line size path) ≤ length path + (size + 8)
file_line_few size path small =
    let digits = length-decimal-le_succ size small in
    let both = length-append (decimal size) (space ∷ (path ++ line_feed ∷ [])) in
    let rest = length-append path (line_feed ∷ []) in
    omega (arith, digits, both, rest)

-- ---- a leaf

-- of a file of at most one chunk
pub record IsLeafOf (bytes : List ℕ) (d : Dag) : Type 0 where
  pub section : Section
  pub is : d ≡ node section Raw no_child
  pub block : section.block ≡ bytes

pub leaf_of : (d : Dag) (tree : Tree) (bytes : List ℕ) → IsAt top d → Shows d tree → bytes_of (Some tree) ≡ Some bytes → length bytes ≤ 1048576 → IsLeafOf bytes d
leaf_of (unopened cid) tree bytes h shows is few = absurd shows
leaf_of (bare section fault) tree bytes h shows is few = absurd shows
leaf_of (node section Raw no_child) tree bytes h shows is few =
    record { section = section; is = refl; block = some_one section.block bytes (sym shows ∙ is) }
leaf_of (node section Raw (with_child d children)) tree bytes h shows is few = absurd (let none = h.checked.0.links in cc none)
leaf_of (node section (File inline filesize parts) children) tree bytes h shows is few =
    let same : length (content (node section (File inline filesize parts) children)) ≡ length bytes =
    ap length (some_one (content (node section (File inline filesize parts) children)) bytes (sym shows ∙ is)) in
    let leaf = h.laid.0.small (omega (arith, same, few)) in
    let no = leaf.1 in
    absurd (cc no)
leaf_of (node section (Basic es) children) tree bytes h shows is few = absurd (not_folder tree bytes is shows.0.folder)
leaf_of (node section (Shard slots) children) tree bytes h shows is few = absurd (not_folder tree bytes is shows.0.folder)
leaf_of (node section (Symlink target) children) tree bytes h shows is few = absurd h.laid

bound_leaf : (v : List ℕ → CidParts → ℕ) (near : ℕ) (section : Section) → length section.block ≤ 1048576
    → IsBound v 1 (length section.block + 60) 0 near (near + (2 * length section.block + 9)) (node section Raw no_child)
bound_leaf v near section few = record {
  low = tt;
  small = All-cons IsSmallBlock section [] (omega (arith, few)) (All-nil IsSmallBlock);
  rooms = omega arith;
  met = omega arith;
  text = λ path less.
      let line = file_line_few (length section.block) path (omega (arith, few)) in
      let both = length-append (file_line (length section.block) path) (section.block ++ line_feed ∷ []) in
      let rest = length-append section.block (line_feed ∷ []) in
      omega (arith, line, both, rest, less);
}

pub small_file : (v : List ℕ → CidParts → ℕ) (near most : ℕ) (d : Dag) (tree : Tree) (bytes : List ℕ) → IsAt top d → Shows d tree → bytes_of (Some tree) ≡ Some bytes
    → length bytes ≤ most → most ≤ 1048576 → IsBound v 1 (most + 60) 0 near (near + (2 * most + 9)) d
small_file v near most d tree bytes h shows is few less =
    let leaf = leaf_of d tree bytes h shows is (omega (arith, few, less)) in
    let size = ap length leaf.block in
    let own = bound_leaf v near leaf.section (omega (arith, size, few, less)) in
    let rooms = own.rooms in
    subst (IsBound v 1 (most + 60) 0 near (near + (2 * most + 9))) (sym leaf.is) (record {
      low = own.low;
      small = own.small;
      rooms = omega (arith, rooms, size, few);
      met = own.met;
      text = λ path near_is. let text = own.text path near_is in omega (arith, text, size, few);
    })

-- ---- a file of leaves

none_longer : (number : ℕ) (numbers : List ℕ) → AreFull number numbers → All (λ n. n ≤ number) numbers
none_longer number [] h = All-nil (λ n. n ≤ number)
none_longer number (n ∷ []) h = All-cons (λ n. n ≤ number) n [] (h.last 0 n (omega arith) refl) (All-nil (λ n. n ≤ number))
none_longer number (n ∷ m ∷ ns) h =
    let first : n ≡ number = h.full 0 n (omega arith) refl in
    All-cons (λ n. n ≤ number) n (m ∷ ns) (omega (arith, first)) (none_longer number (m ∷ ns) (rest_full number n m ns h))

record AreLeaves (v : List ℕ → CidParts → ℕ) (places : List Position) (children : Children) : Type 0 where
  low : AreLow 1 children
  small : All IsSmallBlock (blocks_of_children children)
  rooms : weights room_of no_link children ≤ length (content_of_children places children) + 60 * length (root_cids children)
  met : weights no_room v children ≤ 0

are_leaves : (v : List ℕ → CidParts → ℕ) (places : List Position) (children : Children) → AreCheckedAt places children → HaveLeavesAt 0 children
    → All (λ n. n ≤ 1048576) (map length (leaves_of_children children)) → AreLeaves v places children
are_leaves v places no_child checked even short = record { low = tt; small = All-nil IsSmallBlock; rooms = omega arith; met = omega arith }
are_leaves v [] (with_child d children) checked even short = absurd checked
are_leaves v (place ∷ places) (with_child (unopened cid) children) checked even short = absurd even.0
are_leaves v (place ∷ places) (with_child (bare section fault) children) checked even short = absurd even.0
are_leaves v (place ∷ places) (with_child (node section Raw (with_child d more)) children) checked even short =
    absurd (let none = checked.0.0.links in cc none)
are_leaves v (place ∷ places) (with_child (node section Raw no_child) children) checked even short =
    let here = All-head (λ n. n ≤ 1048576) (length section.block) (map length (leaves_of_children children)) short in
    let rest = are_leaves v places children checked.1 even.1 (All-tail (λ n. n ≤ 1048576) (length section.block) (map length (leaves_of_children children)) short) in
    let rooms = rest.rooms in
    let met = rest.met in
    let own = length-append section.block [] in
    let both = length-append (section.block ++ []) (content_of_children places children) in
    record {
      low = (tt, rest.low);
      small = All-cons IsSmallBlock section (blocks_of_children children) (omega (arith, here)) rest.small;
      rooms = omega (arith, rooms, own, both);
      met = omega (arith, met);
    }
are_leaves v (place ∷ places) (with_child (node section (File inline filesize parts) more) children) checked even short = absurd even.0
are_leaves v (place ∷ places) (with_child (node section (Basic es) more) children) checked even short = absurd even.0
are_leaves v (place ∷ places) (with_child (node section (Shard slots) more) children) checked even short = absurd even.0
are_leaves v (place ∷ places) (with_child (node section (Symlink target) more) children) checked even short = absurd even.0

module _ (laws : BlockLaws) (totals : TotalIsLength) (v : List ℕ → CidParts → ℕ) (near : ℕ) where
  linked : (section : Section) (inline : List ℕ) (filesize : Option ℕ) (parts : List Part) (children : Children)
      → IsAt top (node section (File inline filesize parts) children)
      → length (content (node section (File inline filesize parts) children)) ≤ 10485760
      → IsBound v 2 16777216 0 near (near + 20971530) (node section (File inline filesize parts) children)
  linked section inline filesize parts children h few =
      let level = one_level section inline filesize parts children h few in
      let places = map (λ p. part p.size) parts in
      let all = are_leaves v places children h.checked.1 level.even (none_longer 1048576 (map length (leaves_of_children children)) level.chunks) in
      let whole_content = length-append inline (content_of_children places children) in
      let links = ap length h.checked.0.links ∙ length-map parts (λ p. p.cid) in
      let many = level.few in
      let block = block_fits laws section.block (map (λ p. []) parts) children
      (file_unix (total_of section (File inline filesize parts)) (map (λ p. p.size) parts)) h.laid.1 h.whole
      (All-tail HasPlainCid section (blocks_of_children children) h.plain) in
      let names = no_names parts in
      let sizes = length-map parts (λ p. p.size) in
      let rooms = all.rooms in
      let met = all.met in
      let total = totals (node section (File inline filesize parts) children) (record { whole = h.whole; checked = h.checked }) tt in
      record {
        low = all.low;
        small = All-cons IsSmallBlock section (blocks_of_children children) (omega (arith, block, names, sizes, many)) all.small;
        rooms = omega (arith, block, names, sizes, many, links, rooms, whole_content, few);
        met = omega (arith, met);
        text = λ path less.
            let size = total_of section (File inline filesize parts) in
            let line = file_line_few size path (omega (arith, total, few)) in
            let rest = content_of_children places children ++ line_feed ∷ [] in
            let both = length-append (file_line size path) (inline ++ rest) in
            let front = length-append inline rest in
            let last = length-append (content_of_children places children) (line_feed ∷ []) in
            omega (arith, line, both, front, last, whole_content, total, few, less);
      }

  pub large_file : (d : Dag) (tree : Tree) (bytes : List ℕ) → IsAt top d → Shows d tree → bytes_of (Some tree) ≡ Some bytes → length bytes ≤ 10485760
      → IsBound v 2 16777216 0 near (near + 20971530) d
  large_file (unopened cid) tree bytes h shows is few = absurd shows
  large_file (bare section fault) tree bytes h shows is few = absurd shows
  large_file (node section Raw (with_child d children)) tree bytes h shows is few = absurd (let none = h.checked.0.links in cc none)
  large_file (node section Raw no_child) tree bytes h shows is few =
      let file : IsLaidFile _ (node section Raw no_child) = h.laid in
      let short : length section.block ≤ 1048576 = file.chunks.last 0 (length section.block) (omega arith) refl in
      let own = bound_leaf v near section short in
      let rooms = own.rooms in
      record {
        low = tt;
        small = own.small;
        rooms = omega (arith, rooms, short);
        met = own.met;
        text = λ path less. let text = own.text path less in omega (arith, text, short);
      }
  large_file (node section (File inline filesize parts) children) tree bytes h shows is few =
      let same : length (content (node section (File inline filesize parts) children)) ≡ length bytes =
      ap length (some_one (content (node section (File inline filesize parts) children)) bytes (sym shows ∙ is)) in
      linked section inline filesize parts children h (omega (arith, same, few))
  large_file (node section (Basic es) children) tree bytes h shows is few = absurd (not_folder tree bytes is shows.0.folder)
  large_file (node section (Shard slots) children) tree bytes h shows is few = absurd (not_folder tree bytes is shows.0.folder)
  large_file (node section (Symlink target) children) tree bytes h shows is few = absurd h.laid

-- a file is no directory
pub no_directory : (d : Dag) (tree : Tree) (bytes : List ℕ) → Shows d tree → bytes_of (Some tree) ≡ Some bytes → is_directory d ≡ false
no_directory (unopened cid) tree bytes shows is = refl
no_directory (bare section fault) tree bytes shows is = refl
no_directory (node section Raw children) tree bytes shows is = refl
no_directory (node section (File inline filesize parts) children) tree bytes shows is = refl
no_directory (node section (Basic es) children) tree bytes shows is = absurd (not_folder tree bytes is shows.0.folder)
no_directory (node section (Shard slots) children) tree bytes shows is = absurd (not_folder tree bytes is shows.0.folder)
no_directory (node section (Symlink target) children) tree bytes shows is = refl
