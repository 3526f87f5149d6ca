-- All nine queries of an audit are within the limits, where the directory of `many` has at most 1,048,575 shards, and so where it has
-- at most 393,113 files. By the levels of shards alone 393,114 files may have 65,793 shards on the first three levels and 196,557 on
-- each of the five below these, which are, with the root's block, 3 more than a listing that sends each block once may remember.
use Rattle.std.proofs.Common.{All, Bool, List, None, Option, Some, [], ap, arith, false, length, length-append, length-drop, length-take, lit<, lit≤, refl, subst, sym, true, ℕ, ◌+◌, ◌++◌, ◌-◌, ◌<◌, ◌∙◌, ◌∷◌, ◌≡◌, ◌≤◌}
use Rattle.std.proofs.lemmas.Fmt.{length-decimal-le}
use Rattle.std.proofs.lemmas.List.Elements.{All-from_recursion, All-head}
use Rattle.std.specs.List.{AllByRecursion}
use Rattle.std.specs.Map.{lookup}
use Rattle.std.specs.Prelude.{bytes_eq, codes, decimal, drop}
use Rattle.tg_audit.proofs.BlockSizes.{all_left}
use Rattle.tg_audit.proofs.DagEntries.{directory_of, file_says, missing_at}
use Rattle.tg_audit.proofs.FileSizes.{IsAt}
use Rattle.tg_audit.proofs.LightFolders.{imported_at}
use Rattle.tg_audit.proofs.WithinCounts.{IsShallow, length_is, of_opened, opened_all, total, total_both, total_small, one_entry}
use Rattle.tg_audit.proofs.WithinFiles.{leaf_of, no_directory}
use Rattle.tg_audit.proofs.WithinLimits.{IsFewOf, WithinLaws, ones, shallow, shown, sound, stands, within_of, one_heavy}
use Rattle.tg_audit.proofs.WithinListings.{directory_listed, opened}
use Rattle.tg_audit.proofs.WithinNodes.{IsSmallBlock}
use Rattle.tg_audit.proofs.WithinPaths.{Stands, ends_at, few_walked, one_section, places_both, stands_there, walk_sections}
use Rattle.tg_audit.proofs.WithinReplies.{room_of}
use Rattle.tg_audit.proofs.WithinTrees.{IsBoundMany, IsBoundTree, bound_many, drawn_short, empty_bound, most_files}
use Rattle.tg_audit.specs.Packing.{HoldsImported}
use Rattle.tg_audit.specs.Shards.{HasFewShards, inner, one_each, shards}
use Rattle.tg_audit_texts.specs.Queries.{absent_query, answer_queries, car_query}
use Rattle.tg_bytes.specs.Ascii.{slash}
use Rattle.tg_cid.specs.Cid.{CidParts}
use Rattle.tg_draws.specs.Draws.{IsDrawn}
use Rattle.tg_draws.specs.Trees.{AreFilesFrom, IsFileOf, IsFolderWith, IsTreeOf}
use Rattle.tg_draws.specs.declared.drawing.Drawn.{Drawn}
use Rattle.tg_heard.specs.Exchanges.{HasOneBlockEach, IsWithin}
use Rattle.tg_model.specs.Answer.{all_text, bundle, content_text, is_listed, node_text}
use Rattle.tg_model.specs.ByteRanges.{high_of, low_of}
use Rattle.tg_model.specs.Dag.{Dag, Section, bare, blocks, no_child, node, root_cid, unopened}
use Rattle.tg_model.specs.Ends.{EndsAlike}
use Rattle.tg_model.specs.LimitNumbers.{standard}
use Rattle.tg_model.specs.Lookup.{is_directory, lookup_path}
use Rattle.tg_model.specs.Lookup as lookups
use Rattle.tg_model.specs.PathWalk.{PathEnd, Stop, not_reached, path_walk, terminal}
use Rattle.tg_model.specs.Queries.{QueryParts, SpanParts}
use Rattle.tg_model.specs.ShowsTree.{Shows}
use Rattle.tg_model.specs.Sound.{IsSound, top}
use Rattle.tg_model.specs.Traversal.{at_terminal, from_end, opened_list, sections_of, traversal, walk_places}
use Rattle.tg_model.specs.declared.kinds.Kind.TheVariants.{Basic, File, Raw, Shard, Symlink}
use Rattle.tg_model.specs.declared.queries.Scope.TheVariants as scopes
use Rattle.tg_model.specs.declared.queries.SpanFrom.TheVariants as froms
use Rattle.tg_model_laws.specs.OpenedSections.{traversal_opened}
use Rattle.tg_query.specs.Requests.{car_params, from_text, to_text}
use Rattle.tg_tree.specs.Tree.{child}
use Rattle.tg_tree.specs.declared.tree.Tree.{Tree}

never : true ≡ false → ⊥
never e = cc e

-- a range has no more bytes than all
range_few : (span : Option SpanParts) (bytes : List ℕ) → length (content_text span bytes) ≤ length bytes
range_few None bytes = omega arith
range_few (Some span) bytes =
    let rest = drop (low_of span.from (length bytes)) bytes in
    let dropped = length-drop (low_of span.from (length bytes)) bytes in
    let taken = length-take (high_of span.to (length bytes) - low_of span.from (length bytes)) rest in
    omega (arith, dropped, taken)

-- its numbers are short
digits_few : (n : ℕ) → n < 100000000 → length (decimal n) ≤ 8
digits_few n small = length-decimal-le 8 n (lit< tt) (omega (arith, small)) (omega (arith, small))

params_few : (span : SpanParts) → length (from_text span.from) ≤ 10 → length (to_text span.to) ≤ 10 → length (car_params scopes.Entity (Some span)) ≤ 100
params_few span from to = let both = length-append (from_text span.from) (58 ∷ to_text span.to) in omega (arith, both, from, to)

-- the listing of a directory
listed_terminal : (u : Section → ℕ) (depth : ℕ) (t : Dag) → is_directory t ≡ true → opened u (at_terminal scopes.Entity None depth t) ≤ inner u t
listed_terminal u depth (unopened cid) is = absurd (cc is)
listed_terminal u depth (bare section fault) is = absurd (cc is)
listed_terminal u depth (node section Raw children) is = absurd (cc is)
listed_terminal u depth (node section (File inline filesize parts) children) is = absurd (cc is)
listed_terminal u depth (node section (Basic es) children) is = directory_listed u depth (node section (Basic es) children) is
listed_terminal u depth (node section (Shard slots) children) is = directory_listed u depth (node section (Shard slots) children) is
listed_terminal u depth (node section (Symlink target) children) is = absurd (cc is)

-- the bundle of a directory
bundled_text : (t : Dag) → is_directory t ≡ true → all_text t ≡ bundle (slash ∷ []) t
bundled_text (unopened cid) is = absurd (cc is)
bundled_text (bare section fault) is = absurd (cc is)
bundled_text (node section Raw children) is = absurd (cc is)
bundled_text (node section (File inline filesize parts) children) is = absurd (cc is)
bundled_text (node section (Basic es) children) is = refl
bundled_text (node section (Shard slots) children) is = refl
bundled_text (node section (Symlink target) children) is = absurd (cc is)

-- a walk to its end
at_root : (d : Dag) → is_directory d ≡ true → (path_walk [] d).end ≡ terminal d
at_root (unopened cid) is = absurd (cc is)
at_root (bare section fault) is = absurd (cc is)
at_root (node section kind children) is = refl

-- where a walk ends, or that it ends nowhere
nowhere : (end : PathEnd) → EndsAlike end (lookups.not_there 0) → (stop : Stop) × (end ≡ not_reached stop)
nowhere (terminal t) h = absurd h
nowhere (not_reached stop) h = (stop, refl)

module _ (laws : WithinLaws) (seed files : ℕ) (drawn : Drawn) (tree : Tree) (content : List ℕ) (d : Dag) (some : 0 < files) (few : files ≤ most_files)
    (drawn_is : IsDrawn seed files drawn) (is : IsTreeOf drawn tree) (holds : HoldsImported tree d content) (one : HasOneBlockEach d) (in_many : HasFewShards d) where
  abbrev root : CidParts
  root = root_cid d

  whole : IsSound d
  whole = sound laws seed files drawn tree content d few drawn_is is holds one

  at_top : IsAt top d
  at_top = stands laws seed files drawn tree content d few drawn_is is holds one

  shows : Shows d tree
  shows = shown laws seed files drawn tree content d few drawn_is is holds one

  bounds : IsBoundTree one_entry 1 d
  bounds = ones laws seed files drawn tree content d few drawn_is is holds one

  child_is : (name : List ℕ) (below : Option Tree)
      → lookup (bytes_eq name) ((codes "big", is.big) ∷ (codes "many", is.many) ∷ (codes "empty", is.empty) ∷ (codes "none", is.none) ∷ []) ≡ below → child tree name ≡ below
  child_is name below e = ap (lookup (bytes_eq name)) is.is_folder.entries_are ∙ e

  there : (name : List ℕ) (below : Tree) → child tree name ≡ Some below → Stands d name below
  there name below at = stands_there tree d name below is.is_folder.sort at_top shows at

  end_of : (name : List ℕ) (below : Tree) (x : Stands d name below) → (path_walk (name ∷ []) d).end ≡ terminal x.at.dag
  end_of name below x = ends_at (path_walk (name ∷ []) d).end (lookup_path (name ∷ []) d) x.at.dag (laws.alike d (name ∷ []) whole) (x.at.leads 0 [])

  -- ---- texts

  -- of a file
  terminal_text : (q : QueryParts) (t : Dag) (file : Tree) (bytes : List ℕ) → q.scope ≡ scopes.Entity → (path_walk q.path d).end ≡ terminal t → Shows t file → IsFileOf bytes file
      → length bytes ≤ 10485760 → length (traversal q d).text ≤ 570000000000
  terminal_text q t file bytes scope end shown of size =
      let plain = subst (λ s. is_listed s t ≡ false) (sym scope) (no_directory t file bytes shown of) in
      let text = ap length (laws.text q d t whole end plain
      ∙ ap (λ s. node_text s q.span t) scope ∙ file_says q.span file bytes t of shown) in
      let range = range_few q.span bytes in
      omega (arith, text, range, size)

  file_text : (name : List ℕ) (file : Tree) (bytes : List ℕ) (span : Option SpanParts) (dups : Bool) → child tree name ≡ Some file → IsFileOf bytes file
      → length bytes ≤ 10485760 → length (traversal (car_query root (name ∷ []) scopes.Entity span dups) d).text ≤ 570000000000
  file_text name file bytes span dups at of size =
      let x = there name file at in
      terminal_text (car_query root (name ∷ []) scopes.Entity span dups) x.at.dag file bytes refl (end_of name file x) x.at.shows of size

  big_few : length drawn.big ≤ 10485760
  big_few = let size = drawn_is.big.count_is in omega (arith, size)

  -- of the bundle of all
  is_dir : is_directory d ≡ true
  is_dir = (directory_of tree d is.is_folder.sort shows).directory

  bundle_text : length (traversal (car_query root [] scopes.All None true) d).text ≤ 570000000000
  bundle_text =
      let text = ap length (laws.text (car_query root [] scopes.All None true) d d whole (at_root d is_dir) refl ∙ bundled_text d is_dir) in
      let most = bounds.text (slash ∷ []) (lit≤ tt) in
      omega (arith, text, most)

  -- of the empty folder
  empty_text : length (traversal (car_query root (codes "empty" ∷ []) scopes.All None true) d).text ≤ 570000000000
  empty_text =
      let at = child_is (codes "empty") (Some is.empty) refl in
      let x = there (codes "empty") is.empty at in
      let dir = (directory_of is.empty x.at.dag is.empty_is.sort x.at.shows).directory in
      let text = ap length (laws.text (car_query root (codes "empty" ∷ []) scopes.All None true) d x.at.dag whole (end_of (codes "empty") is.empty x) refl ∙ bundled_text x.at.dag dir) in
      let own = empty_bound laws.blocks laws.totals one_entry 1 one_heavy seed files drawn tree few drawn_is is x.at.dag x.stands x.at.shows in
      let most = own.text (slash ∷ []) (lit≤ tt) in
      omega (arith, text, most)

  -- of a name that isn't there
  absent_text : length (traversal (absent_query root) d).text ≤ 570000000000
  absent_text =
      let none = missing_at tree d (codes "missing") is.is_folder.sort shows (child_is (codes "missing") None refl) 0 [] in
      let (stop, end) = nowhere (path_walk (codes "missing" ∷ []) d).end
      (subst (EndsAlike (path_walk (codes "missing" ∷ []) d).end) none (laws.alike d (codes "missing" ∷ []) whole)) in
      let text = ap (λ (e : PathEnd). length (from_end e scopes.Entity None (length (path_walk (codes "missing" ∷ []) d).sections + 1)).text) end in
      omega (arith, text)

  -- ---- the listing of `many`

  abbrev listing : QueryParts
  listing = car_query root (codes "many" ∷ []) scopes.Entity None false

  many_at : child tree (codes "many") ≡ Some is.many
  many_at = child_is (codes "many") (Some is.many) refl

  many : Stands d (codes "many") is.many
  many = there (codes "many") is.many many_at

  -- the root's block, and those of `many`
  listing_opened : (u : Section → ℕ) (most : ℕ) → ((section : Section) → length section.block ≤ 2097152 → u section ≤ most)
      → total u (opened_list listing d) + length (traversal listing d).text ≤ most + inner u many.at.dag
  listing_opened u most small =
      let walk = path_walk (codes "many" ∷ []) d in
      let depth = length walk.sections + 1 in
      let dir = (directory_of is.many many.at.dag is.many_is.sort many.at.shows).directory in
      let below = subst (λ (e : PathEnd). opened u (from_end e scopes.Entity None depth) ≤ inner u many.at.dag) (sym (end_of (codes "many") is.many many))
      (listed_terminal u depth many.at.dag dir) in
      let rest = from_end walk.end scopes.Entity None depth in
      let same = of_opened u rest in
      let both = ap (total u) (places_both (walk_places 1 walk.sections) rest.places ∙ ap (λ (l : List Section). l ++ sections_of rest.places) (walk_sections 1 walk.sections)) in
      let sum = total_both u walk.sections (sections_of rest.places) in
      let sections = subst (λ (x : Dag). (path_walk (codes "many" ∷ []) x).sections ≡ bounds.section ∷ []) (sym bounds.is) (one_section bounds.section bounds.es bounds.children (codes "many")) in
      let first = ap (total u) sections in
      let own = small bounds.section (All-head IsSmallBlock bounds.section _ (subst (λ (x : Dag). All IsSmallBlock (blocks x)) bounds.is bounds.small)) in
      omega (arith, below, same, both, sum, first, own)

  many_few : IsBoundMany files many.at.dag
  many_few = bound_many laws.blocks laws.totals one_entry 1 one_heavy seed files drawn tree few drawn_is is many.at.dag many.stands many.at.shows

  listing_seen : (total one_each (opened_list listing d) ≤ 1048576) × (total room_of (opened_list listing d) ≤ 1073741824)
  listing_seen =
      let blocks_are = listing_opened one_each 1 (λ section small. omega arith) in
      let rooms_are = listing_opened room_of 2097212 (λ section small. omega (arith, small)) in
      let shards_few = in_many many.at.dag (many.at.leads 0 []) in
      let own = many_few.own in
      (omega (arith, blocks_are, shards_few), omega (arith, rooms_are, own, shards_few))

  listing_text : length (traversal listing d).text ≤ 570000000000
  listing_text =
      let rooms_are = listing_opened room_of 2097212 (λ section small. omega (arith, small)) in
      let shards_few = in_many many.at.dag (many.at.leads 0 []) in
      let own = many_few.own in
      omega (arith, rooms_are, own, shards_few)

  -- ---- the first of `many`

  abbrev first : QueryParts
  first = car_query root (codes "many" ∷ codes "f000000" ∷ []) scopes.Entity None false

  record IsFirst : Type 0 where
    file : Tree
    bytes : List ℕ
    of : IsFileOf bytes file
    size : length bytes ≤ 65535
    dag : Dag
    shows_it : Shows dag file
    end : (path_walk (codes "many" ∷ codes "f000000" ∷ []) d).end ≡ terminal dag
    leaf : (section : Section) × (dag ≡ node section Raw no_child)

  first_is : IsFirst
  first_is = by drawn.many is.files (let count = drawn_is.many.count_is in omega (arith, count, some)) is.files_are is.many_is (drawn_short _ drawn.many _ drawn_is.many.drawn)
    where
      by : (files : List (List ℕ)) (es : List (List ℕ × Tree)) → 0 < length files → AreFilesFrom 0 files es → IsFolderWith es is.many
          → All (λ bytes. length bytes ≤ 65535) files → IsFirst
      by [] es more are with short = absurd (omega (arith, more))
      by (bytes ∷ files) [] more are with short = absurd are
      by (bytes ∷ files) (e ∷ es) more are with short =
          let named : e.0 ≡ codes "f000000" = are.0 in
          let at : child is.many (codes "f000000") ≡ Some e.1 =
          ap (lookup (bytes_eq (codes "f000000"))) with.entries_are ∙ ap (λ (name : List ℕ). lookup (bytes_eq (codes "f000000")) ((name, e.1) ∷ es)) named in
          let y = stands_there is.many many.at.dag (codes "f000000") e.1 with.sort many.stands many.at.shows at in
          let size = All-head (λ bytes. length bytes ≤ 65535) bytes files short in
          let leaf = leaf_of y.at.dag e.1 bytes y.stands y.at.shows are.1 (omega (arith, size)) in
          record {
            file = e.1;
            bytes = bytes;
            of = are.1;
            size = size;
            dag = y.at.dag;
            shows_it = y.at.shows;
            end = ends_at (path_walk (codes "many" ∷ codes "f000000" ∷ []) d).end (lookup_path (codes "many" ∷ codes "f000000" ∷ []) d) y.at.dag
                (laws.alike d (codes "many" ∷ codes "f000000" ∷ []) whole) (many.at.leads 0 (codes "f000000" ∷ []) ∙ y.at.leads 1 []);
            leaf = (leaf.section, leaf.is);
          }

  first_text : length (traversal first d).text ≤ 570000000000
  first_text = let size = first_is.size in terminal_text first first_is.dag first_is.file first_is.bytes refl first_is.end first_is.shows_it first_is.of (omega (arith, size))

  -- no more blocks than there are levels
  first_few : total one_each (opened_list first d) ≤ 18
  first_few =
      let walk = path_walk (codes "many" ∷ codes "f000000" ∷ []) d in
      let depth = length walk.sections + 1 in
      let rest = from_end walk.end scopes.Entity None depth in
      let all = shallow laws seed files drawn tree content d few drawn_is is holds one first in
      let walked = few_walked 17 1 walk.sections (all_left (IsShallow 17) (walk_places 1 walk.sections) rest.places all) (lit≤ tt) in
      let both = ap (total one_each) (places_both (walk_places 1 walk.sections) rest.places ∙ ap (λ (l : List Section). l ++ sections_of rest.places) (walk_sections 1 walk.sections)) in
      let sum = total_both one_each walk.sections (sections_of rest.places) in
      let same = length_is walk.sections in
      let last = subst (λ (e : PathEnd). total one_each (sections_of (from_end e scopes.Entity None depth).places) ≤ 1) (sym (first_is.end ∙ ap terminal first_is.leaf.1)) (lit≤ tt) in
      omega (arith, walked, both, sum, same, last)

  first_seen : (total one_each (opened_list first d) ≤ 1048576) × (total room_of (opened_list first d) ≤ 1073741824)
  first_seen =
      let blocks_are = first_few in
      let same = length_is (opened_list first d) in
      let rooms_are = total_small (opened_list first d) (traversal_opened IsSmallBlock first d (opened_all IsSmallBlock d bounds.small)) in
      (omega (arith, blocks_are), omega (arith, blocks_are, same, rooms_are))

  -- ---- all

  within_each : (q : QueryParts) → IsFewOf q d → IsWithin q standard d
  within_each q of = within_of laws seed files drawn tree content d few drawn_is is holds one q of

  pub within_shards : All (λ q. IsWithin q standard d) (answer_queries root ++ absent_query root ∷ [])
  within_shards = All-from_recursion (λ q. IsWithin q standard d) (answer_queries root ++ absent_query root ∷ []) nine
    where
      nine : AllByRecursion (λ q. IsWithin q standard d) (answer_queries root ++ absent_query root ∷ [])
      nine = (
        within_each _ (record { root = refl; car = refl; path = lit≤ tt; params = lit≤ tt; accept = lit≤ tt; dups = lit≤ tt; text = bundle_text; seen = λ e. absurd (never e) }),
        (
          within_each _ (record {
            root = refl;
            car = refl;
            path = lit≤ tt;
            params = params_few (record { from = froms.Start 1048575; to = Some 1048576 }) (let n = digits_few 1048575 (lit< tt) in omega (arith, n)) (let n = digits_few 1048576 (lit< tt) in omega (arith, n));
            accept = lit≤ tt;
            dups = lit≤ tt;
            text = file_text (codes "big") is.big drawn.big (Some (record { from = froms.Start 1048575; to = Some 1048576 })) true (child_is (codes "big") (Some is.big) refl) is.big_is big_few;
            seen = λ e. absurd (never e);
          }),
          (
            within_each _ (record {
              root = refl;
              car = refl;
              path = lit≤ tt;
              params = params_few (record { from = froms.Last 5; to = None }) (let n = digits_few 5 (lit< tt) in omega (arith, n)) (lit≤ tt);
              accept = lit≤ tt;
              dups = lit≤ tt;
              text = file_text (codes "big") is.big drawn.big (Some (record { from = froms.Last 5; to = None })) true (child_is (codes "big") (Some is.big) refl) is.big_is big_few;
              seen = λ e. absurd (never e);
            }),
            (
              within_each _ (record {
                root = refl;
                car = refl;
                path = lit≤ tt;
                params = params_few (record { from = froms.Start 20000000; to = None }) (let n = digits_few 20000000 (lit< tt) in omega (arith, n)) (lit≤ tt);
                accept = lit≤ tt;
                dups = lit≤ tt;
                text = file_text (codes "big") is.big drawn.big (Some (record { from = froms.Start 20000000; to = None })) true (child_is (codes "big") (Some is.big) refl) is.big_is big_few;
                seen = λ e. absurd (never e);
              }),
              (
                within_each _ (record { root = refl; car = refl; path = lit≤ tt; params = lit≤ tt; accept = lit≤ tt; dups = lit≤ tt; text = listing_text; seen = λ e. listing_seen }),
                (
                  within_each _ (record {
                    root = refl;
                    car = refl;
                    path = lit≤ tt;
                    params = lit≤ tt;
                    accept = lit≤ tt;
                    dups = lit≤ tt;
                    text = file_text (codes "none") is.none [] None true (child_is (codes "none") (Some is.none) refl) is.none_is (lit≤ tt);
                    seen = λ e. absurd (never e);
                  }),
                  (
                    within_each _ (record { root = refl; car = refl; path = lit≤ tt; params = lit≤ tt; accept = lit≤ tt; dups = lit≤ tt; text = empty_text; seen = λ e. absurd (never e) }),
                    (
                      within_each _ (record { root = refl; car = refl; path = lit≤ tt; params = lit≤ tt; accept = lit≤ tt; dups = lit≤ tt; text = first_text; seen = λ e. first_seen }),
                      (
                        within_each (absent_query root) (record { root = refl; car = refl; path = lit≤ tt; params = lit≤ tt; accept = lit≤ tt; dups = lit≤ tt; text = absent_text; seen = λ e. absurd (never e) }),
                        tt,
                      ),
                    ),
                  ),
                ),
              ),
            ),
          ),
        ),
      )

-- ---- by the number of files

found_one : (a b : Dag) → lookups.found a ≡ lookups.found b → a ≡ b
found_one a b e = cc e

-- few enough files have few enough shards
pub few_shards : WithinLaws → (seed files : ℕ) (drawn : Drawn) (tree : Tree) (content : List ℕ) (d : Dag) → files ≤ 393113 → IsDrawn seed files drawn
    → IsTreeOf drawn tree → HoldsImported tree d content → HasFewShards d
few_shards laws seed files drawn tree content d few drawn_is is holds m found =
    let at : child tree (codes "many") ≡ Some is.many = ap (lookup (bytes_eq (codes "many"))) is.is_folder.entries_are in
    let x = stands_there tree d (codes "many") is.many is.is_folder.sort (imported_at tree [] d holds.imported) holds.imported.shows at in
    let same = found_one x.at.dag m (sym (x.at.leads 0 []) ∙ found) in
    let most = bound_many laws.blocks laws.totals one_entry 1 one_heavy seed files drawn tree (omega (arith, few)) drawn_is is x.at.dag x.stands x.at.shows in
    let shards_few = most.few in
    subst (λ (y : Dag). shards y ≤ 1048575) same (omega (arith, shards_few, few))
