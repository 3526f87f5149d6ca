-- A drawn folder isn't imported only where two files of `many` have names with one hash.
use Rattle.std.proofs.Common.{All, Contains, List, None, Option, Some, [], ap, ap₂, arith, length, refl, subst, suc, sym, true, ℕ, ◌+◌, ◌∙◌, ◌∷◌, ◌≡◌, ◌≤◌}
use Rattle.std.proofs.lemmas.List.Elements.{All-cons, All-contains, All-from_recursion, All-head, All-nil, All-tail}
use Rattle.std.proofs.lemmas.List.Sorted.{sum_by-IsPermutation}
use Rattle.std.proofs.lemmas.Map.Keys.{IsDistinct-cons}
use Rattle.std.specs.Bool.{Decides}
use Rattle.std.specs.List.{IsDistinct}
use Rattle.std.specs.Map.{keys_of, lookup}
use Rattle.std.specs.Option.{option_and_then}
use Rattle.std.specs.Prelude.{bytes_eq, codes, map}
use Rattle.tg_audit.proofs.BlockSizes.{BlockLaws}
use Rattle.tg_audit.proofs.FileNames.{as_many, good_file, names_differ, none_twice, number_of, short_files}
use Rattle.tg_audit.proofs.FileSizes.{all_of, light_file}
use Rattle.tg_audit.proofs.Alike.{file_sort}
use Rattle.tg_audit.proofs.LightFolders.{HaveOneHashIn, IsFolderOfLight, IsLightFile, files_level, folder_is_light, imported_at, no_file_fault, shown_at}
use Rattle.tg_audit.proofs.ImportLevels.{IsLightFolder, IsLightItem, level, refused_below}
use Rattle.tg_audit.proofs.Members.{none_in}
use Rattle.tg_audit.specs.Complete.{HaveOneHash as HaveFileHash}
use Rattle.tg_audit.specs.Packing.{audit_options}
use Rattle.tg_draws.specs.Draws.{IsDrawn}
use Rattle.tg_draws.specs.Trees.{AreFilesFrom, IsFileOf, IsTreeOf, file_name}
use Rattle.tg_draws.specs.declared.drawing.Drawn.{Drawn}
use Rattle.tg_import.specs.Counting.{nothing}
use Rattle.tg_import.specs.Refused.{HasFolderFault, RefusesFolder, item_fault, max_levels, sort_fault, weight_of_items}
use Rattle.tg_import.specs.declared.fault.ImportFault.{ImportFault}
use Rattle.tg_import.specs.declared.fault.ImportFault.TheVariants as faults
use Rattle.tg_import.specs.declared.summary.Summary.{Summary}
use Rattle.tg_model.specs.Computed.{is_good_name}
use Rattle.tg_model.specs.Dag.{Section}
use Rattle.tg_model.specs.EntryNames.{IsGoodName}
use Rattle.tg_murmur.specs.NameHash.{name_hash}
use Rattle.tg_tree.specs.Tree.{bytes_of, child, entries_of, item_of, items_of, tree_at}
use Rattle.tg_tree.specs.declared.items.Item.{Item}
use Rattle.tg_tree.specs.declared.items.Sort.{Sort}
use Rattle.tg_tree.specs.declared.tree.Tree.{Tree, out-Tree}

module _ (laws : BlockLaws) (good : (name : List ℕ) → Decides (is_good_name name) (IsGoodName name)) (seed files : ℕ) (drawn : Drawn)
    (tree : Tree) (fault : ImportFault) (few : files ≤ 1000000) (drawn_is : IsDrawn seed files drawn) (is : IsTreeOf drawn tree) where
  abbrev root_entries : List (List ℕ × Tree)
  root_entries = (codes "big", is.big) ∷ (codes "many", is.many) ∷ (codes "empty", is.empty) ∷ (codes "none", is.none) ∷ []

  few_files : length drawn.many ≤ 1000000
  few_files = let count = drawn_is.many.count_is in omega (arith, few, count)

  file_entries : (number : ℕ) (many : List (List ℕ)) (entries : List (List ℕ × Tree)) → AreFilesFrom number many entries
      → All (λ bytes. length bytes ≤ 10485760) many
      → All (λ e. IsLightFile e.0 e.1) entries
  file_entries number [] entries h short = subst (All (λ e. IsLightFile e.0 e.1)) (sym h) (All-nil (λ e. IsLightFile e.0 e.1))
  file_entries number (bytes ∷ many) [] h short = absurd h
  file_entries number (bytes ∷ many) (e ∷ entries) h short =
      All-cons (λ e. IsLightFile e.0 e.1) e entries
      (record {
        good = subst IsGoodName (sym h.0) (good_file number);
        short = let seven : length e.0 ≡ 7 = ap length h.0 in omega (arith, seven);
        bytes = bytes;
        is = h.1;
        few = All-head (λ bytes. length bytes ≤ 10485760) bytes many short;
      })
      (file_entries (number + 1) many entries h.2 (All-tail (λ bytes. length bytes ≤ 10485760) bytes many short))

  many_folder : IsFolderOfLight is.many
  many_folder = record {
    sort = is.many_is.sort;
    each = subst (All (λ e. IsLightFile e.0 e.1)) (sym is.many_is.entries_are)
        (file_entries 0 drawn.many is.files is.files_are (short_files drawn_is.between drawn.many drawn_is.behind drawn_is.many.drawn));
    differ = subst (λ (l : List (List ℕ × Tree)). IsDistinct bytes_eq (keys_of l)) (sym is.many_is.entries_are)
        (names_differ 0 drawn.many is.files (let most = few_files in omega (arith, most)) is.files_are);
    few =
        let most = few_files in
        let same = ap length is.many_is.entries_are in
        let count = as_many 0 drawn.many is.files is.files_are in
        omega (arith, most, same, count);
  }

  empty_folder : IsFolderOfLight is.empty
  empty_folder = record {
    sort = is.empty_is.sort;
    each = subst (All (λ e. IsLightFile e.0 e.1)) (sym is.empty_is.entries_are) (All-nil (λ e. IsLightFile e.0 e.1));
    differ = subst (λ (l : List (List ℕ × Tree)). IsDistinct bytes_eq (keys_of l)) (sym is.empty_is.entries_are) none_twice;
    few = let same : length (entries_of is.empty) ≡ 0 = ap length is.empty_is.entries_are in omega (arith, same);
  }

  -- what stands at the paths of one name and of two
  and_some : (o : Option Tree) → option_and_then (λ found. Some found) o ≡ o
  and_some None = refl
  and_some (Some t) = refl

  at_name : (name : List ℕ) (below : Tree) → lookup (bytes_eq name) root_entries ≡ Some below → child tree name ≡ Some below
  at_name name below e = ap (lookup (bytes_eq name)) is.is_folder.entries_are ∙ e

  reach_root : (name : List ℕ) → tree_at (Some tree) (name ∷ []) ≡ child tree name
  reach_root name = and_some (child tree name)

  reach_below : (name : List ℕ) (folder : Tree) → child tree name ≡ Some folder → (inner : List ℕ)
      → tree_at (Some tree) (name ∷ inner ∷ []) ≡ child folder inner
  reach_below name folder at inner =
      ap (λ (o : Option Tree). option_and_then (λ found. tree_at (Some found) (inner ∷ [])) o) at ∙ and_some (child folder inner)

  -- a file and a folder of the root
  file_item : (name : List ℕ) (below : Tree) (bytes : List ℕ) → is_good_name name ≡ true → length name ≤ 7 → child tree name ≡ Some below
      → IsFileOf bytes below → length bytes ≤ 10485760
      → IsLightItem (Some tree) [] 20000000000000 (item_of (name, below))
  file_item name below bytes ok short at file short_bytes = record {
    good = (good name).0 ok;
    short = short;
    light = λ d imported.
        let light = light_file laws d below bytes (imported_at tree (name ∷ []) d imported)
        (shown_at tree (name ∷ []) d below imported (reach_root name ∙ at)) file short_bytes in
        let tsize = light.tsize in
        let counts = light.counts in
        record { tsize = omega (arith, tsize); counts = omega (arith, counts) };
  }

  folder_item : (name : List ℕ) (below : Tree) → is_good_name name ≡ true → length name ≤ 7 → child tree name ≡ Some below → IsFolderOfLight below
      → IsLightItem (Some tree) [] 20000000000000 (item_of (name, below))
  folder_item name below ok short at folder = record {
    good = (good name).0 ok;
    short = short;
    light = λ d imported. folder_is_light laws below d folder (imported_at tree (name ∷ []) d imported)
        (shown_at tree (name ∷ []) d below imported (reach_root name ∙ at));
  }

  root_light : IsLightFolder tree [] tree 20000000000000
  root_light = record {
    here = refl;
    each = subst (λ (l : List (List ℕ × Tree)). All (IsLightItem (Some tree) [] 20000000000000) (map item_of l)) (sym is.is_folder.entries_are)
        (All-from_recursion (IsLightItem (Some tree) [] 20000000000000) (map item_of root_entries) (
          file_item (codes "big") is.big drawn.big refl (omega arith) (at_name (codes "big") is.big refl) is.big_is
              (let size = drawn_is.big.count_is in omega (arith, size)),
          (
            folder_item (codes "many") is.many refl (omega arith) (at_name (codes "many") is.many refl) many_folder,
            (
              folder_item (codes "empty") is.empty refl (omega arith) (at_name (codes "empty") is.empty refl) empty_folder,
              (file_item (codes "none") is.none [] refl (omega arith) (at_name (codes "none") is.none refl) is.none_is (omega arith), tt),
            ),
          ),
        ));
    differ = subst (λ (l : List (List ℕ × Tree)). IsDistinct bytes_eq (keys_of l)) (sym is.is_folder.entries_are)
        (IsDistinct-cons bytes_eq (codes "big") (codes "many" ∷ codes "empty" ∷ codes "none" ∷ []) (refl, (refl, (refl, tt)))
        (IsDistinct-cons bytes_eq (codes "many") (codes "empty" ∷ codes "none" ∷ []) (refl, (refl, tt))
        (IsDistinct-cons bytes_eq (codes "empty") (codes "none" ∷ []) (refl, tt) (IsDistinct-cons bytes_eq (codes "none") [] tt none_twice))));
    few = let four : length (entries_of tree) ≡ 4 = ap length is.is_folder.entries_are in omega (arith, four);
    room = let four : length (entries_of tree) ≡ 4 = ap length is.is_folder.entries_are in omega (arith, four);
  }

  -- two names in `many` are those of two numbers
  in_many : HaveOneHashIn is.many fault → HaveFileHash files fault
  in_many h =
      let count : length drawn.many ≡ files = drawn_is.many.count_is in
      let entries : keys_of (entries_of is.many) ≡ keys_of is.files = ap keys_of is.many_is.entries_are in
      let (one, less, one_is) = number_of 0 drawn.many is.files is.files_are h.first
      (subst (λ (l : List (List ℕ)). Contains l h.first) entries h.first_in) in
      let (other, fewer, other_is) = number_of 0 drawn.many is.files is.files_are h.second
      (subst (λ (l : List (List ℕ)). Contains l h.second) entries h.second_in) in
      record {
        two = record {
          one = one;
          other = other;
          is_one = omega (arith, less, count);
          is_other = omega (arith, fewer, count);
          differ = λ e. h.differ (one_is ∙ ap file_name e ∙ sym other_is);
          same = ap name_hash (sym one_is) ∙ h.same ∙ ap name_hash other_is;
        };
        fault_is = h.fault_is ∙ ap₂ (λ (a b : List ℕ). faults.SameHash a b) one_is other_is;
      }

  in_empty : HaveOneHashIn is.empty fault → ⊥
  in_empty h = none_in h.first (subst (λ (l : List (List ℕ × Tree)). Contains (keys_of l) h.first) is.empty_is.entries_are h.first_in)

  -- an entry of the root that isn't imported
  module _ (levels : ℕ) where
    abbrev IsRefused : Item → Type 0
    IsRefused item = (counted : Summary) (kept : List Section) → all_of counted ≤ 100000000000000
        → item_fault (refused_below tree (suc levels)) (Some tree) [] counted item kept fault → HaveFileHash files fault

    file_refused : (name : List ℕ) (below : Tree) (bytes : List ℕ) → child tree name ≡ Some below → IsFileOf bytes below → length bytes ≤ 10485760
        → IsRefused (item_of (name, below))
    file_refused name below bytes at file short counted kept most h =
        absurd (no_file_fault (Some tree) (name ∷ []) counted kept bytes fault (ap bytes_of (reach_root name ∙ at) ∙ file) short (omega (arith, most))
        (subst (λ (s : Sort). sort_fault (refused_below tree (suc levels)) (Some tree) (name ∷ []) counted s kept fault)
        (file_sort (out-Tree below) bytes file) h))

    folder_refused : (name : List ℕ) (below : Tree) → child tree name ≡ Some below → IsFolderOfLight below
        → (HaveOneHashIn below fault → HaveFileHash files fault)
        → IsRefused (item_of (name, below))
    folder_refused name below at folder on counted kept most h =
        on (files_level laws tree levels (name ∷ []) below (reach_root name ∙ at) (reach_below name below at) folder counted kept fault most
        (subst (λ (s : Sort). sort_fault (refused_below tree (suc levels)) (Some tree) (name ∷ []) counted s kept fault) folder.sort h))

    refused : All IsRefused (items_of tree)
    refused = subst (λ (l : List (List ℕ × Tree)). All IsRefused (map item_of l)) (sym is.is_folder.entries_are)
        (All-from_recursion IsRefused (map item_of root_entries) (
          file_refused (codes "big") is.big drawn.big (at_name (codes "big") is.big refl) is.big_is
              (let size = drawn_is.big.count_is in omega (arith, size)),
          (
            folder_refused (codes "many") is.many (at_name (codes "many") is.many refl) many_folder in_many,
            (
              folder_refused (codes "empty") is.empty (at_name (codes "empty") is.empty refl) empty_folder (λ h. absurd (in_empty h)),
              (file_refused (codes "none") is.none [] (at_name (codes "none") is.none refl) is.none_is (omega arith), tt),
            ),
          ),
        ))

    root_weight : weight_of_items (items_of tree) ≡ 160
    root_weight = ap (λ (l : List (List ℕ × Tree)). weight_of_items (map item_of l)) is.is_folder.entries_are

    root_level : (kept : List Section) → RefusesFolder (suc (suc levels)) audit_options (Some tree) [] nothing kept fault → HaveFileHash files fault
    root_level kept h =
        level tree (suc levels) [] tree 20000000000000 root_light nothing 0 (omega arith) (omega arith) fault (HaveFileHash files fault)
        (λ item counted kept among most why. All-contains IsRefused (items_of tree) item refused among counted kept (omega (arith, most)) why)
        (λ items first second same is_hash weight two. absurd
        (let sums = sum_by-IsPermutation (λ (item : Item). length item.name + 36) (items_of tree) items same in
        let light = root_weight in
        omega (arith, weight, sums, light)))
        kept h

  pub import_causes : HasFolderFault max_levels audit_options (Some tree) [] nothing fault → HaveFileHash files fault
  import_causes (kept, h) = root_level 30 kept h
