-- What is bounded of the DAG of a folder that is drawn with at most 1,000,000 files in `many`.
use Rattle.std.proofs.Common.{All, Bool, List, None, Some, [], ap, arith, false, length, lit≤, refl, subst, suc-mul, sym, true, ℕ, ◌*◌, ◌+◌, ◌∙◌, ◌∷◌, ◌≡◌, ◌≤◌}
use Rattle.std.proofs.Math.Nat.{add-mul}
use Rattle.std.proofs.lemmas.List.Elements.{All-cons, All-from_recursion, All-head, All-nil, All-tail}
use Rattle.std.proofs.lemmas.Map.Entries.{length-keys_of}
use Rattle.std.proofs.lemmas.Map.Keys.{IsDistinct-head, IsDistinct-tail}
use Rattle.std.proofs.lemmas.Nat.{mul-le}
use Rattle.std.proofs.lemmas.Slice.Eq.{bytes_eq-Decides}
use Rattle.std.specs.List.{AllByRecursion, IsDistinct}
use Rattle.std.specs.Map.{keys_of, lookup}
use Rattle.std.specs.Prelude.{bytes_eq, codes, map}
use Rattle.tg_audit.proofs.BlockSizes.{BlockLaws}
use Rattle.tg_audit.proofs.FileNames.{as_many}
use Rattle.tg_audit.proofs.FileSizes.{IsAt, not_folder}
use Rattle.tg_audit.proofs.FolderSizes.{AreAt, entries_differ, first_at, rest_at}
use Rattle.tg_audit.proofs.LightFolders.{holds_of}
use Rattle.tg_audit.proofs.NameSlots.{count}
use Rattle.tg_audit.proofs.WithinFiles.{large_file, small_file}
use Rattle.tg_audit.proofs.WithinFolders.{HasBoundEntries, IsHeavy, folder_bound, raised}
use Rattle.tg_audit.proofs.WithinNodes.{IsBound, IsLow, IsSmallBlock, no_link, no_room, plain_root}
use Rattle.tg_audit.proofs.WithinReplies.{IsPlainDigest, room_of}
use Rattle.tg_audit.proofs.WithinShards.{few_shards}
use Rattle.tg_audit.proofs.WithinWeights.{entries_weight, weight, weights}
use Rattle.tg_audit.specs.Shards.{inner, shards}
use Rattle.tg_cid.specs.Cid.{CidParts}
use Rattle.tg_draws.specs.Draws.{FilesDrawn, IsDrawn, file, no_file}
use Rattle.tg_draws.specs.Trees.{AreFilesFrom, IsTreeOf}
use Rattle.tg_draws.specs.declared.drawing.Drawn.{Drawn}
use Rattle.tg_model.specs.Answer.{bundle}
use Rattle.tg_model.specs.Content.{entries, named_children}
use Rattle.tg_model.specs.Dag.{Children, Dag, Section, bare, blocks, blocks_of_children, no_child, node, root_cid, root_cids, unopened, with_child}
use Rattle.tg_model.specs.ImportLayout.{HasPlainCid}
use Rattle.tg_model.specs.ShowsTree.{EntriesShow, Shows}
use Rattle.tg_model.specs.Sound.{top}
use Rattle.tg_model.specs.declared.kinds.Entry.{Entry}
use Rattle.tg_model.specs.declared.kinds.Kind.TheVariants.{Basic, File, Raw, Shard, Symlink}
use Rattle.tg_model_laws.specs.FileSizes.{TotalIsLength}
use Rattle.tg_tree.specs.Tree.{bytes_of, child, entries_of}
use Rattle.tg_tree.specs.declared.tree.Tree.{Tree}

-- the most files
abbrev pub most_files : ℕ
most_files = 1000000

-- ---- the files of `many`

record IsShortFile (name : List ℕ) (tree : Tree) : Type 0 where
  short : length name ≤ 7
  bytes : List ℕ
  is : bytes_of (Some tree) ≡ Some bytes
  few : length bytes ≤ 65535

pub drawn_short : (state : ℕ) (files : List (List ℕ)) (behind : ℕ) → FilesDrawn state files behind → All (λ bytes. length bytes ≤ 65535) files
drawn_short state _ _ (no_file s) = All-nil (λ (bytes : List ℕ). length bytes ≤ 65535)
drawn_short state _ _ (file s bytes between files behind d h) =
    let many = d.count_is in
    All-cons (λ bytes. length bytes ≤ 65535) bytes files (omega (arith, many)) (drawn_short between files behind h)

short_entries : (number : ℕ) (many : List (List ℕ)) (es : List (List ℕ × Tree)) → AreFilesFrom number many es → All (λ bytes. length bytes ≤ 65535) many
    → All (λ e. IsShortFile e.0 e.1) es
short_entries number [] es h short = subst (All (λ e. IsShortFile e.0 e.1)) (sym h) (All-nil (λ e. IsShortFile e.0 e.1))
short_entries number (bytes ∷ many) [] h short = absurd h
short_entries number (bytes ∷ many) (e ∷ es) h short =
    All-cons (λ e. IsShortFile e.0 e.1) e es
    (record {
      short = let seven : length e.0 ≡ 7 = ap length h.0 in omega (arith, seven);
      bytes = bytes;
      is = h.1;
      few = All-head (λ bytes. length bytes ≤ 65535) bytes many short;
    })
    (short_entries (number + 1) many es h.2 (All-tail (λ bytes. length bytes ≤ 65535) bytes many short))

-- ---- one of the root's entries is named `many`

abbrev is_many : List ℕ → Bool
is_many name = bytes_eq (codes "many") name

none_hit : (names : List (List ℕ)) (name : List ℕ) → name ≡ codes "many" → AllByRecursion (λ y. bytes_eq name y ≡ false) names → count is_many names ≤ 0
none_hit [] name is h = omega arith
none_hit (k ∷ names) name is h =
    let rest = none_hit names name is h.1 in
    let here : count is_many (k ∷ []) ≤ 0 = missed (is_many k) (subst (λ (n : List ℕ). bytes_eq n k ≡ false) is h.0) in
    omega (arith, rest, here)
  where
    missed : (b : Bool) → b ≡ false → count (λ (n : List ℕ). b) (k ∷ []) ≤ 0
    missed true e = absurd (cc e)
    missed false e = omega arith

one_hit : (names : List (List ℕ)) → IsDistinct bytes_eq names → count is_many names ≤ 1
one_hit [] h = omega arith
one_hit (k ∷ names) h = let all = by (is_many k) refl (one_hit names (IsDistinct-tail bytes_eq k names h)) in omega (arith, all)
  where
    by : (b : Bool) → is_many k ≡ b → count is_many names ≤ 1 → count (λ (n : List ℕ). b) (k ∷ []) + count is_many names ≤ 1
    by true is rest =
        let none = none_hit names k (sym ((bytes_eq-Decides (codes "many") k).0 is)) (IsDistinct-head bytes_eq k names h) in omega (arith, none)
    by false is rest = omega (arith, rest)

-- ---- what is bounded

-- of the DAG of `many`
pub record IsBoundMany (files : ℕ) (m : Dag) : Type 0 where
  pub own : inner room_of m ≤ 80000000 + 238 * shards m
  pub few : 2 * shards m ≤ 131586 + 5 * files

-- of the whole, whose root is one block
pub record IsBoundTree (v : List ℕ → CidParts → ℕ) (heavy : ℕ) (d : Dag) : Type 0 where
  pub low : IsLow 17 d
  pub small : All IsSmallBlock (blocks d)
  pub rooms : weight room_of no_link d ≤ 290000000000
  pub met : weight no_room v d ≤ 4 * heavy + 1000000 * heavy
  pub text : (path : List ℕ) → length path ≤ 1 → length (bundle path d) ≤ 570000000000
  pub section : Section
  pub es : List Entry
  pub children : Children
  pub is : d ≡ node section (Basic es) children

module _ (laws : BlockLaws) (totals : TotalIsLength) (v : List ℕ → CidParts → ℕ) (heavy : ℕ) (is_heavy : IsHeavy v heavy) (seed files : ℕ) (drawn : Drawn) (tree : Tree)
    (few : files ≤ most_files) (drawn_is : IsDrawn seed files drawn) (is : IsTreeOf drawn tree) where
  each_file : All (λ e. IsShortFile e.0 e.1) (entries_of is.many)
  each_file = subst (All (λ e. IsShortFile e.0 e.1)) (sym is.many_is.entries_are)
      (short_entries 0 drawn.many is.files is.files_are (drawn_short _ drawn.many _ drawn_is.many.drawn))

  files_bound : HasBoundEntries v is.many 1 65595 0 45 131124
  files_bound name below d at stands shown =
      let one = holds_of IsShortFile (entries_of is.many) each_file name below at in
      (one.short, small_file v 45 65535 d below one.bytes stands shown one.is one.few (lit≤ tt))

  file_count : length (keys_of (entries_of is.many)) ≡ files
  file_count =
      let keys = length-keys_of (entries_of is.many) in
      let same = ap length is.many_is.entries_are in
      let all = as_many 0 drawn.many is.files is.files_are in
      let count_is = drawn_is.many.count_is in
      omega (arith, keys, same, all, count_is)

  many_bound : (m : Dag) → IsAt top m → Shows m is.many → IsBound v 9 70000000000 (1000000 * heavy) 23 140000000000 m
  many_bound m stands shown =
      let all = folder_bound laws v heavy is_heavy is.many 1 65595 0 23 45 131124 (lit≤ tt) files_bound m is.many_is.sort stands shown in
      let number = all.few in
      let names = file_count in
      let rooms = all.rooms in
      let met = all.met in
      let times = mul-le (length (entries m)) (heavy + 0) 1000000 heavy (omega (arith, number, names, few)) (omega arith) in
      record {
        low = all.low;
        small = all.small;
        rooms = omega (arith, number, names, few, rooms);
        met = omega (arith, met, times);
        text = λ path less. let text = all.text path less in omega (arith, number, names, few, text);
      }

  pub bound_many : (m : Dag) → IsAt top m → Shows m is.many → IsBoundMany files m
  bound_many m stands shown =
      let all = folder_bound laws v heavy is_heavy is.many 1 65595 0 23 45 131124 (lit≤ tt) files_bound m is.many_is.sort stands shown in
      let number = all.few in
      let names = file_count in
      let own = all.own in
      let some = few_shards laws m stands in
      record { own = omega (arith, number, names, few, own); few = omega (arith, number, names, some) }

  none_inside : HasBoundEntries v is.empty 1 0 0 45 0
  none_inside name below d at stands shown =
      absurd (let no : lookup (bytes_eq name) (entries_of is.empty) ≡ None = ap (lookup (bytes_eq name)) is.empty_is.entries_are in let both : Some below ≡ None = sym at ∙ no in cc both)

  pub empty_bound : (m : Dag) → IsAt top m → Shows m is.empty → IsBound v 9 70000000000 0 23 140000000000 m
  empty_bound m stands shown =
      let all = folder_bound laws v heavy is_heavy is.empty 1 0 0 23 45 0 (lit≤ tt) none_inside m is.empty_is.sort stands shown in
      let number = all.few in
      let keys = length-keys_of (entries_of is.empty) in
      let none = ap length is.empty_is.entries_are in
      let rooms = all.rooms in
      let met = all.met in
      let times = mul-le (length (entries m)) (heavy + 0) 0 (heavy + 0) (omega (arith, number, keys, none)) (omega arith) in
      record {
        low = all.low;
        small = all.small;
        rooms = omega (arith, number, keys, none, rooms);
        met = omega (arith, met, times);
        text = λ path less. let text = all.text path less in omega (arith, number, keys, none, text);
      }

  wider : (levels above room lines links : ℕ) (d : Dag) → IsLow levels d → IsBound v levels room 0 23 lines d → room ≤ 70000000000 → lines ≤ 140000000000
      → IsLow 9 d → IsBound v 9 70000000000 links 23 140000000000 d
  wider levels above room lines links d low own less shorter high =
      let rooms = own.rooms in
      let met = own.met in
      record {
        low = high;
        small = own.small;
        rooms = omega (arith, rooms, less);
        met = omega (arith, met);
        text = λ path near. let text = own.text path near in omega (arith, text, shorter);
      }

  -- what is bounded of the root's entries, by their names
  abbrev IsOneOf : List ℕ → Tree → Type 0
  IsOneOf name below = (d : Dag) → IsAt top d → Shows d below → (length name ≤ 7) × IsBound v 9 70000000000 (count is_many (name ∷ []) * (1000000 * heavy)) 23 140000000000 d

  big_bound : IsOneOf (codes "big") is.big
  big_bound d stands shown =
      let size = drawn_is.big.count_is in
      let own = large_file laws totals v 23 d is.big drawn.big stands shown is.big_is (omega (arith, size)) in
      (lit≤ tt, wider 2 7 16777216 20971553 _ d own.low own (lit≤ tt) (lit≤ tt) (raised 2 7 d own.low))

  none_bound : IsOneOf (codes "none") is.none
  none_bound d stands shown =
      let own = small_file v 23 0 d is.none [] stands shown is.none_is (lit≤ tt) (lit≤ tt) in
      (lit≤ tt, wider 1 8 60 32 _ d own.low own (lit≤ tt) (lit≤ tt) (raised 1 8 d own.low))

  links_least : (name : List ℕ) (d : Dag) → IsBound v 9 70000000000 0 23 140000000000 d
      → IsBound v 9 70000000000 (count is_many (name ∷ []) * (1000000 * heavy)) 23 140000000000 d
  links_least name d own = record { low = own.low; small = own.small; rooms = own.rooms; met = (let met = own.met in omega (arith, met)); text = own.text }

  abbrev root_entries : List (List ℕ × Tree)
  root_entries = (codes "big", is.big) ∷ (codes "many", is.many) ∷ (codes "empty", is.empty) ∷ (codes "none", is.none) ∷ []

  four : All (λ (e : List ℕ × Tree). IsOneOf e.0 e.1) root_entries
  four = All-from_recursion (λ (e : List ℕ × Tree). IsOneOf e.0 e.1) root_entries (
    big_bound,
    (
      λ d stands shown.
          let own = many_bound d stands shown in
          (lit≤ tt, record { low = own.low; small = own.small; rooms = own.rooms; met = (let met = own.met in omega (arith, met)); text = own.text }),
      (
        λ d stands shown. (lit≤ tt, links_least (codes "empty") d (empty_bound d stands shown)),
        (none_bound, tt),
      ),
    ),
  )

  each_entry : (name : List ℕ) (below : Tree) (d : Dag) → child tree name ≡ Some below → IsAt top d → Shows d below
      → (length name ≤ 7) × IsBound v 9 70000000000 (count is_many (name ∷ []) * (1000000 * heavy)) 23 140000000000 d
  each_entry name below d at =
      holds_of IsOneOf (entries_of tree) (subst (All (λ (e : List ℕ × Tree). IsOneOf e.0 e.1)) (sym is.is_folder.entries_are) four) name below at d

  entries_bound : HasBoundEntries v tree 9 70000000000 (1000000 * heavy) 23 140000000000
  entries_bound name below d at stands shown =
      let two = each_entry name below d at stands shown in
      let own = two.1 in
      let met = own.met in
      let once = one_name name in
      let times = mul-le (count is_many (name ∷ [])) (1000000 * heavy) 1 (1000000 * heavy) once (omega arith) in
      (two.0, record { low = own.low; small = own.small; rooms = own.rooms; met = omega (arith, met, times); text = own.text })
    where
      one_name : (name : List ℕ) → count is_many (name ∷ []) ≤ 1
      one_name name = by (is_many name)
        where
          by : (b : Bool) → count (λ (n : List ℕ). b) (name ∷ []) ≤ 1
          by true = omega arith
          by false = omega arith

  -- ---- the root

  root_met : (es : List Entry) (children : Children) → AreAt (map (λ e. top) es) children → root_cids children ≡ map (λ e. e.cid) es → EntriesShow es children tree
      → entries_weight no_room v es + weights no_room v children ≤ length es * heavy + count is_many (map (λ e. e.name) es) * (1000000 * heavy)
  root_met [] no_child h leads shown = omega arith
  root_met [] (with_child d children) h leads shown = absurd h.checked
  root_met (e ∷ es) no_child h leads shown = absurd (cc leads)
  root_met (e ∷ es) (with_child d children) h leads ((below, at, here), shown) =
      let stands = first_at top (map (λ e. top) es) d children h in
      let two = each_entry e.name below d at stands here in
      let here_cid : root_cid d ≡ e.cid = cc leads in
      let behind : root_cids children ≡ map (λ e. e.cid) es = cc leads in
      let rest = root_met es children (rest_at top (map (λ e. top) es) d children h) behind shown in
      let own = two.1.met in
      let heavy_here = is_heavy e.name e.cid two.0 (subst IsPlainDigest here_cid (plain_root top d stands)) in
      let hits = add-mul (count is_many (e.name ∷ [])) (count is_many (map (λ e. e.name) es)) (1000000 * heavy) in
      let same : count is_many (map (λ e. e.name) (e ∷ es)) * (1000000 * heavy) ≡ (count is_many (e.name ∷ []) + count is_many (map (λ e. e.name) es)) * (1000000 * heavy) =
      ap (λ (n : ℕ). n * (1000000 * heavy)) (omega arith) in
      let times = suc-mul (length es) heavy in
      omega (arith, own, heavy_here, rest, hits, same, times)

  pub bound_tree : (d : Dag) → IsAt top d → Shows d tree → IsBoundTree v heavy d
  bound_tree (unopened cid) h shown = absurd shown
  bound_tree (bare section fault) h shown = absurd shown
  bound_tree (node section Raw children) h shown = absurd (not_folder tree section.block shown is.is_folder.sort)
  bound_tree (node section (File inline filesize parts) children) h shown = absurd (not_folder tree _ shown is.is_folder.sort)
  bound_tree (node section (Basic es) children) h shown =
      let all = folder_bound laws v heavy is_heavy tree 9 70000000000 (1000000 * heavy) 1 23 140000000000 (lit≤ tt) entries_bound (node section (Basic es) children) is.is_folder.sort h shown in
      let number = all.few in
      let keys = length-keys_of (entries_of tree) in
      let four_are = ap length is.is_folder.entries_are in
      let rooms = all.rooms in
      let places : AreAt (map (λ e. top) es) children = record { whole = h.whole; checked = h.checked.1; laid = h.laid.3; plain = All-tail HasPlainCid section (blocks_of_children children) h.plain } in
      let met = root_met es children places h.checked.0.links shown.1 in
      let hits = one_hit (map (λ e. e.name) es) (entries_differ laws section.cid section.block es h.checked.0.reads) in
      let once = mul-le (count is_many (map (λ e. e.name) es)) (1000000 * heavy) 1 (1000000 * heavy) hits (omega arith) in
      let many = same_many es children h.checked.0.links in
      let times = mul-le (length es) heavy 4 heavy (omega (arith, number, keys, four_are, many)) (omega arith) in
      record {
        low = all.low;
        small = all.small;
        rooms = omega (arith, number, keys, four_are, rooms);
        met = omega (arith, met, once, times);
        text = λ path less. let text = all.text path less in omega (arith, number, keys, four_are, text);
        section = section;
        es = es;
        children = children;
        is = refl;
      }
    where
      same_many : (es : List Entry) (children : Children) → root_cids children ≡ map (λ e. e.cid) es → length (named_children es children) ≡ length es
      same_many [] no_child leads = refl
      same_many [] (with_child d children) leads = refl
      same_many (e ∷ es) no_child leads = absurd (cc leads)
      same_many (e ∷ es) (with_child d children) leads = let rest = same_many es children (cc leads) in omega (arith, rest)
  bound_tree (node section (Shard slots) children) h shown =
      let all = folder_bound laws v heavy is_heavy tree 9 70000000000 (1000000 * heavy) 1 23 140000000000 (lit≤ tt) entries_bound (node section (Shard slots) children) is.is_folder.sort h shown in
      let number = all.few in
      let keys = length-keys_of (entries_of tree) in
      let four_are = ap length is.is_folder.entries_are in
      let weighs = all.weighs in
      let asks = h.laid.0 in
      absurd (omega (arith, number, keys, four_are, weighs, asks))
  bound_tree (node section (Symlink target) children) h shown = absurd h.laid
