-- What is said of the folder `many` in its DAG: its bundle and its listing are those that are expected by what was drawn.
use Rattle.sha2.specs.Sha256.{sha256}
use Rattle.std.proofs.Common.{All, Contains, List, None, [], ap, arith, inl, inr, length, refl, subst, suc, sym, true, zero, ℕ, ◌*◌, ◌++◌, ◌+◌, ◌<◌, ◌∙◌, ◌∷◌, ◌≡◌, ◌≤◌, ◌⊎◌}
use Rattle.std.proofs.lemmas.List.Elements.{All-contains}
use Rattle.std.proofs.lemmas.List.Sorted.{Contains-permutation, IsNonDecreasingBy-from_all_adjacent, IsPermutation-sym, sum_by-IsPermutation}
use Rattle.std.proofs.lemmas.List.Sums.{sum_by-cons}
use Rattle.std.specs.List.{flat_map, sum_by}
use Rattle.std.specs.Map.{keys_of, lookup}
use Rattle.std.specs.Prelude.{bytes_eq, codes, map, nat_lt}
use Rattle.tg_audit.proofs.DagEntries.{IsDirectoryOf, IsShownIn, directory_of}
use Rattle.tg_audit.proofs.DirectoryTexts.{IsAtTop, NamesAscend, directory_says, entries_at, entry_bundle, names_ascend, weight_is}
use Rattle.tg_audit.proofs.FileNames.{number_of}
use Rattle.tg_audit.proofs.FileSizes.{IsAt}
use Rattle.tg_audit.proofs.FileTexts.{file_at, file_bundle, file_in, file_order, leaf_cid, plain_name}
use Rattle.tg_audit.proofs.HashOrder.{HashesRise, hashes_rise}
use Rattle.tg_audit.proofs.Members.{all_from, first_one, none_in, one_of, other_one}
use Rattle.tg_audit.proofs.NameSlots.{Ascend}
use Rattle.tg_audit.proofs.NumberLists.{AreAmong, NoneTwice, ascend_once, one_ascending, one_in_order, one_sum}
use Rattle.tg_audit.proofs.NumberedNames.{AreNamed, HashesOf, SaysOf, hashes_apart, hashes_once, hashes_rise_in, named_ascend, named_count, named_has, named_hashes, named_inside, named_list, named_texts, names_long, names_sorted, numbered, one_number}
use Rattle.tg_audit.proofs.Orders.{one_order, rises_by}
use Rattle.tg_audit_texts.specs.Expected.{IsHashOrder, IsOrder, bytes_at, file_record, files_bundled, named_from, numbers_from, raw_cid_of}
use Rattle.tg_cid.specs.Cid.{CidParts}
use Rattle.tg_draws.specs.Trees.{AreFilesFrom, IsFileOf, IsFolderWith, file_name}
use Rattle.tg_model.specs.Answer.{bundle, entity_text, listing_of, named_of}
use Rattle.tg_model.specs.Content.{DirEntry, entries}
use Rattle.tg_model.specs.Dag.{Dag, bare, node, unopened}
use Rattle.tg_model.specs.ImportLayout.{weight_of}
use Rattle.tg_model.specs.Lookup.{is_directory}
use Rattle.tg_model.specs.ShowsTree.{Shows}
use Rattle.tg_model.specs.Sound.{top}
use Rattle.tg_model.specs.Texts.{Named, dir_line, is_before, joined, listing, listing_line, sorted}
use Rattle.tg_model.specs.declared.kinds.Kind.TheVariants.{Basic, File, Raw, Shard, Symlink}
use Rattle.tg_model_laws.specs.FileSizes.{TotalIsLength}
use Rattle.tg_murmur.specs.NameHash.{name_hash}
use Rattle.tg_tree.specs.declared.tree.Tree.{Tree}

-- ---- the numbers of files

numbers_ascend : (number : ℕ) (files : List (List ℕ)) → Ascend number (numbers_from number files)
numbers_ascend number [] = tt
numbers_ascend number (bytes ∷ files) = (omega arith, numbers_ascend (number + 1) files)

numbers_inside : (number : ℕ) (files : List (List ℕ)) (n : ℕ) → Contains (numbers_from number files) n → n < number + length files
numbers_inside number [] n c = absurd (none_in n c)
numbers_inside number (bytes ∷ files) n c = elim (one_of number n (numbers_from (number + 1) files) c) [
  | inl same ↦ omega (arith, same)
  | inr behind ↦ (let less = numbers_inside (number + 1) files n behind in omega (arith, less))
]

numbers_have : (number : ℕ) (files : List (List ℕ)) (i : ℕ) → i < length files → Contains (numbers_from number files) (number + i)
numbers_have number [] i less = absurd (omega (arith, less))
numbers_have number (bytes ∷ files) zero less =
    let none : number ≡ number + 0 = omega arith in
    subst (Contains (number ∷ numbers_from (number + 1) files)) none (first_one number (numbers_from (number + 1) files))
numbers_have number (bytes ∷ files) (suc i) less =
    let next : (number + 1) + i ≡ number + suc i = omega arith in
    other_one number (number + suc i) (numbers_from (number + 1) files)
    (subst (Contains (numbers_from (number + 1) files)) next (numbers_have (number + 1) files i (omega (arith, less))))

numbers_count : (number : ℕ) (files : List (List ℕ)) → length (numbers_from number files) ≡ length files
numbers_count number [] = refl
numbers_count number (bytes ∷ files) = let rest = numbers_count (number + 1) files in omega (arith, rest)

pub as_many : (l : List ℕ) → sum_by (λ n. 1) l ≡ length l
as_many [] = refl
as_many (n ∷ l) = omega (arith, sum_by-cons (λ (n : ℕ). 1) n l, as_many l)

-- the CID of the file with a number
abbrev cid_at : List (List ℕ) → ℕ → CidParts
cid_at many n = raw_cid_of (sha256 (bytes_at many n))

abbrev file_named : List (List ℕ) → ℕ → Named
file_named many n = record { name = file_name n; cid = cid_at many n }

named_numbers : (all : List (List ℕ)) (number : ℕ) (files : List (List ℕ)) → ((i : ℕ) → bytes_at all (number + i) ≡ bytes_at files i)
    → named_from number files ≡ map (file_named all) (numbers_from number files)
named_numbers all number [] same = refl
named_numbers all number (bytes ∷ files) same =
    let none : number + 0 ≡ number = omega arith in
    let first : bytes_at all number ≡ bytes = subst (λ (n : ℕ). bytes_at all n ≡ bytes) none (same 0) in
    ap (λ (b : List ℕ). (let it : Named = record { name = file_name number; cid = raw_cid_of (sha256 b) } in it) ∷ named_from (number + 1) files) (sym first)
    ∙ ap (λ (l : List Named). file_named all number ∷ l)
    (named_numbers all (number + 1) files
    (λ i. (let next : number + suc i ≡ (number + 1) + i = omega arith in subst (λ (n : ℕ). bytes_at all n ≡ bytes_at files i) next (same (suc i)))))

-- ---- a directory

-- it stands in one block, in the order of its names, or is sharded, in that of their hashes
pub record IsPlain (d : Dag) : Type 0 where
  pub ascend : NamesAscend (entries d)
  pub light : weight_of (entries d) ≤ 16384

pub record IsSharded (d : Dag) : Type 0 where
  pub rise : HashesRise (entries d)
  pub heavy : 16384 < weight_of (entries d)

pub plain_or_sharded : (d : Dag) → is_directory d ≡ true → IsAt top d → IsPlain d ⊎ IsSharded d
plain_or_sharded (unopened cid) is h = absurd (cc is)
plain_or_sharded (bare section fault) is h = absurd (cc is)
plain_or_sharded (node section Raw children) is h = absurd (cc is)
plain_or_sharded (node section (File inline filesize parts) children) is h = absurd (cc is)
plain_or_sharded (node section (Basic es) children) is h = inl (record { ascend = names_ascend es children h.laid.1; light = h.laid.0 })
plain_or_sharded (node section (Shard slots) children) is h = inr (record { rise = hashes_rise section slots children h; heavy = h.laid.0 })
plain_or_sharded (node section (Symlink target) children) is h = absurd (cc is)

entity_listing : (d : Dag) → is_directory d ≡ true → entity_text None d ≡ listing_of d
entity_listing (unopened cid) is = absurd (cc is)
entity_listing (bare section fault) is = absurd (cc is)
entity_listing (node section Raw children) is = absurd (cc is)
entity_listing (node section (File inline filesize parts) children) is = absurd (cc is)
entity_listing (node section (Basic es) children) is = refl
entity_listing (node section (Shard slots) children) is = refl
entity_listing (node section (Symlink target) children) is = absurd (cc is)

-- ---- the folder `many`

module _ (sizes : TotalIsLength) (files : List (List ℕ)) (few : length files ≤ 1000000) (short : (k : ℕ) → length (bytes_at files k) ≤ 1048576) where
  abbrev count : ℕ
  count = length files

  ordered : (a b : ℕ) → a < count → b < count → is_before (file_name a) (file_name b) ≡ nat_lt a b
  ordered a b ia ib = file_order a b (omega (arith, ia, few)) (omega (arith, ib, few))

  abbrev all : List ℕ
  all = numbers_from 0 files

  all_ascend : Ascend 0 all
  all_ascend = numbers_ascend 0 files

  all_inside : (n : ℕ) → Contains all n → n < count
  all_inside n c = let less = numbers_inside 0 files n c in omega (arith, less)

  all_have : (n : ℕ) → n < count → Contains all n
  all_have n less = let same : 0 + n ≡ n = omega arith in subst (Contains all) same (numbers_have 0 files n less)

  module _ (tree : Tree) (listed : List (List ℕ × Tree)) (are : AreFilesFrom 0 files listed) (folder : IsFolderWith listed tree) (d : Dag) (shows : Shows d tree)
      (stands : IsAt top d) where
    dir : IsDirectoryOf tree d
    dir = directory_of tree d folder.sort shows

    is_number : (own : List ℕ) → Contains (map (λ entry. entry.name) (entries d)) own → (n : ℕ) × (n < count) × (own ≡ file_name n)
    is_number own c =
        let (n, less, same) = number_of 0 files listed are own (subst (λ (l : List (List ℕ × Tree)). Contains (keys_of l) own) folder.entries_are ((dir.names.names own).0 c)) in
        (n, omega (arith, less), same)

    both : (ns : List ℕ) × AreNamed file_name count ordered (entries d) ns
    both = numbered file_name count ordered (entries d) is_number

    inside : (n : ℕ) → Contains both.0 n → n < count
    inside = named_inside file_name count ordered (entries d) both.0 both.1

    has : (n : ℕ) → n < count → Contains both.0 n
    has n less =
        let same : 0 + n ≡ n = omega arith in
        named_has file_name count ordered (entries d) both.0 both.1 n less
        ((dir.names.names (file_name n)).1 (subst (λ (l : List (List ℕ × Tree)). Contains (keys_of l) (file_name n)) (sym folder.entries_are)
        (subst (λ (k : ℕ). Contains (keys_of listed) (file_name k)) same (file_in 0 files listed are n less))))

    to : AreAmong both.0 all
    to n c = all_have n (inside n c)

    back : AreAmong all both.0
    back n c = has n (all_inside n c)

    -- ---- what an entry is

    record IsFileAt (e : DirEntry) (n : ℕ) : Type 0 where
      below : Tree
      file : IsFileOf (bytes_at files n) below
      shown : Shows e.dag below
      at : IsAt top e.dag

    file_of : (e : DirEntry) → Contains (entries d) e → (n : ℕ) → n < count → e.name ≡ file_name n → IsFileAt e n
    file_of e c n less named =
        let (tree_below, child_is, shown_below) = All-contains (IsShownIn tree) (entries d) e dir.shown c in
        let (k, k_less, k_named, is_file) = file_at 0 files listed are e.name tree_below (sym (ap (lookup (bytes_eq e.name)) folder.entries_are) ∙ child_is) in
        let none : 0 + k ≡ k = omega arith in
        let same : k ≡ n = one_number file_name count ordered k n k_less less (sym (k_named ∙ ap file_name none) ∙ named) in
        record {
          below = tree_below;
          file = subst (λ (m : ℕ). IsFileOf (bytes_at files m) tree_below) same is_file;
          shown = shown_below;
          at = All-contains IsAtTop (entries d) e (entries_at top d stands) c;
        }

    abbrev record_at : ℕ → List ℕ
    record_at n = file_record (codes "/many/" ++ file_name n) (bytes_at files n)

    records : All (SaysOf file_name count ordered (entry_bundle (codes "/many")) record_at) (entries d)
    records = all_from (SaysOf file_name count ordered (entry_bundle (codes "/many")) record_at) (entries d) (λ e c n less named.
        let x = file_of e c n less named in
        file_bundle sizes (joined (codes "/many") e.name) (bytes_at files n) x.below e.dag x.at x.file x.shown
        ∙ ap (λ (path : List ℕ). file_record path (bytes_at files n)) (ap (joined (codes "/many")) named ∙ ap (λ (l : List ℕ). codes "/many/" ++ l) (plain_name n)))

    same_named : (a b : Named) → a.name ≡ b.name → a.cid ≡ b.cid → a ≡ b
    same_named a b n c = λ i. record { name = n i; cid = c i }

    lines : All (SaysOf file_name count ordered named_of (file_named files)) (entries d)
    lines = all_from (SaysOf file_name count ordered named_of (file_named files)) (entries d) (λ e c n less named.
        let x = file_of e c n less named in
        same_named (named_of e) (file_named files n) named (leaf_cid (bytes_at files n) x.below e.dag x.at x.file x.shown (short n)))

    -- ---- their order

    count_is : length both.0 ≡ length all → length (entries d) ≡ count
    count_is same = named_count file_name count ordered (entries d) both.0 both.1 ∙ same ∙ numbers_count 0 files

    weight : length both.0 ≡ length all → weight_of (entries d) ≡ 43 * count
    weight same =
        let number = count_is same in
        let names = names_long file_name count ordered (λ n less. refl) (entries d) both.0 both.1 in
        let whole = weight_is (entries d) (entries_at top d stands) in
        omega (arith, number, names, whole)

    plain_order : IsPlain d → both.0 ≡ all
    plain_order p = one_ascending 0 both.0 all (named_ascend file_name count ordered (entries d) both.0 both.1 p.ascend) all_ascend to back

    hashes : IsSharded d → HashesOf file_name count ordered both.0
    hashes s = named_hashes file_name count ordered (entries d) both.0 both.1 s.rise

    shard_once : IsSharded d → NoneTwice both.0
    shard_once s = hashes_once file_name count ordered both.0 (hashes s)

    shard_sum : IsSharded d → (f : ℕ → ℕ) → sum_by f both.0 ≡ sum_by f all
    shard_sum s f = one_sum both.0 all (shard_once s) (ascend_once 0 all all_ascend) to back f

    shard_order : IsSharded d → (order : List ℕ) → IsHashOrder all order → both.0 ≡ order
    shard_order s order h =
        one_order (λ n. name_hash (file_name n)) both.0 order
        (λ f. shard_sum s f ∙ sym (sum_by-IsPermutation f all order h.permutation))
        (hashes_rise_in file_name count ordered both.0 (hashes s))
        (rises_by (λ n. name_hash (file_name n)) order (IsNonDecreasingBy-from_all_adjacent (λ n. name_hash (file_name n)) order h.ascends))
        (λ x y in_x in_y e.
        hashes_apart file_name count ordered both.0 (hashes s) x y in_x
        (back y (Contains-permutation order all y (IsPermutation-sym all order h.permutation) in_y)) e)

    order_is : (order : List ℕ) → IsOrder files order → both.0 ≡ order
    order_is order h = elim (plain_or_sharded d dir.directory stands) [
      | inl p ↦
          let same = plain_order p in
          let whole = weight (ap length same) in
          let light = p.light in
          same ∙ sym (h.plain (omega (arith, whole, light)))
      | inr s ↦
          let same : length both.0 ≡ length all = sym (as_many both.0) ∙ shard_sum s (λ n. 1) ∙ as_many all in
          let whole = weight same in
          let heavy = s.heavy in
          shard_order s order (h.sharded (omega (arith, whole, heavy)))
    ]

    once : NoneTwice both.0
    once = elim (plain_or_sharded d dir.directory stands) [
      | inl p ↦ ascend_once 0 both.0 (named_ascend file_name count ordered (entries d) both.0 both.1 p.ascend)
      | inr s ↦ shard_once s
    ]

    -- ---- its texts

    pub many_bundle : (order : List ℕ) → IsOrder files order → bundle (codes "/many") d ≡ dir_line (codes "/many") ++ files_bundled files order
    many_bundle order h =
        directory_says (codes "/many") d dir.directory stands
        ∙ ap (λ (l : List ℕ). dir_line (codes "/many") ++ l)
        (named_texts file_name count ordered (entry_bundle (codes "/many")) record_at (entries d) both.0 both.1 records ∙ ap (flat_map record_at) (order_is order h))

    pub many_listing : entity_text None d ≡ listing (named_from 0 files)
    many_listing =
        entity_listing d dir.directory
        ∙ ap (flat_map listing_line)
        (ap sorted (named_list file_name count ordered named_of (file_named files) (entries d) both.0 both.1 lines)
        ∙ names_sorted file_name count ordered (cid_at files) both.0 inside
        ∙ ap (map (file_named files)) (one_in_order both.0 all once (ascend_once 0 all all_ascend) to back)
        ∙ sym (names_sorted file_name count ordered (cid_at files) all all_inside)
        ∙ ap sorted (sym (named_numbers files 0 files (λ i. (let same : 0 + i ≡ i = omega arith in ap (bytes_at files) same)))))
