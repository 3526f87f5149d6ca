-- A folder of files that are light isn't imported only where two of its names have one hash.
use Rattle.std.proofs.Common.{All, Bool, Contains, IfSome, List, Option, Some, [], ap, arith, cond, false, inl, inr, length, refl, subst, suc, sym, true, ℕ, ◌++◌, ◌∙◌, ◌∷◌, ◌≡◌, ◌≤◌}
use Rattle.std.proofs.lemmas.List.Elements.{All-cons, All-contains, All-head, All-nil, All-tail}
use Rattle.std.proofs.lemmas.List.Sorted.{Contains-permutation, IsPermutation-map, IsPermutation-sym}
use Rattle.std.specs.List.Sorted.{IsPermutation}
use Rattle.std.proofs.lemmas.Map.Entries.{length-keys_of}
use Rattle.std.proofs.lemmas.Slice.Eq.{bytes_eq-Decides}
use Rattle.std.specs.List.{IsDistinct}
use Rattle.std.specs.Map.{keys_of, lookup}
use Rattle.std.specs.Prelude.{bytes_eq, map, ◌≢◌}
use Rattle.tg_bytes.specs.OrderLaws.{less_apart}
use Rattle.tg_audit.proofs.BlockSizes.{BlockLaws}
use Rattle.tg_audit.proofs.FileSizes.{IsAt, IsLight, all_of, file_most, light_file}
use Rattle.tg_audit.proofs.Alike.{file_sort}
use Rattle.tg_audit.proofs.FolderSizes.{HasLightEntries, light_folder}
use Rattle.tg_audit.proofs.ImportLevels.{IsLightFolder, IsLightItem, level, names_are, refused_below, passed}
use Rattle.tg_audit.proofs.Members.{first_one, none_in, one_of, other_one}
use Rattle.tg_audit.specs.Packing.{audit_options}
use Rattle.tg_import.specs.Counting.{one_file, plus}
use Rattle.tg_import.specs.Imported.{IsImported}
use Rattle.tg_import.specs.Refused.{IsFileFault, IsTooLong, RefusesFolder, item_names, sort_fault}
use Rattle.tg_import.specs.declared.fault.ImportFault.{ImportFault}
use Rattle.tg_import.specs.declared.fault.ImportFault.TheVariants as faults
use Rattle.tg_import.specs.declared.summary.Summary.{Summary}
use Rattle.tg_model.specs.Dag.{Dag, Section}
use Rattle.tg_model.specs.EntryNames.{IsGoodName}
use Rattle.tg_model.specs.ShowsTree.{Shows}
use Rattle.tg_model.specs.Sound.{top}
use Rattle.tg_murmur.specs.NameHash.{name_hash}
use Rattle.tg_tree.specs.Tree.{bytes_of, child, entries_of, item_of, items_of, names_of, sort_of, tree_at}
use Rattle.tg_tree.specs.declared.items.Item.{Item}
use Rattle.tg_tree.specs.declared.items.Sort.TheVariants as sorts
use Rattle.tg_tree.specs.declared.items.Sort.{Sort}
use Rattle.tg_tree.specs.declared.tree.Tree.{Tree, out-Tree}

-- ---- what has a name in a folder

found_in : (es : List (List ℕ × Tree)) (name : List ℕ) → Contains (keys_of es) name → (b : Tree) × (lookup (bytes_eq name) es ≡ Some b)
found_in [] name c = absurd (none_in name c)
found_in (e ∷ es) name c = by (bytes_eq name e.0) refl (λ d. found_in es name d)
  where
    by : (t : Bool) → bytes_eq name e.0 ≡ t → (Contains (keys_of es) name → (b : Tree) × (lookup (bytes_eq name) es ≡ Some b))
        → (b : Tree) × (cond (bytes_eq name e.0) (Some e.1) (lookup (bytes_eq name) es) ≡ Some b)
    by true is on = (e.1, ap (λ (t : Bool). cond t (Some e.1) (lookup (bytes_eq name) es)) is)
    by false is on = elim (one_of e.0 name (keys_of es) c) [
      | inl same ↦ absurd (let no : false ≡ true = sym is ∙ (bytes_eq-Decides name e.0).1 (sym same) in cc no)
      | inr behind ↦ (let (b, at) = on behind in (b, ap (λ (t : Bool). cond t (Some e.1) (lookup (bytes_eq name) es)) is ∙ at))
    ]

-- what holds of each entry holds of the one that has a name
pub holds_of : (P : List ℕ → Tree → Type 0) (es : List (List ℕ × Tree)) → All (λ e. P e.0 e.1) es → (name : List ℕ) (b : Tree)
    → lookup (bytes_eq name) es ≡ Some b → P name b
holds_of P [] all name b at = absurd (cc at)
holds_of P (e ∷ es) all name b at = by (bytes_eq name e.0) refl at (λ at. holds_of P es (All-tail (λ e. P e.0 e.1) e es all) name b at)
  where
    by : (t : Bool) → bytes_eq name e.0 ≡ t → cond t (Some e.1) (lookup (bytes_eq name) es) ≡ Some b
        → (lookup (bytes_eq name) es ≡ Some b → P name b) → P name b
    by true is at on =
        let same : e.1 ≡ b = cc at in
        subst (P name) same (subst (λ (n : List ℕ). P n e.1) (sym ((bytes_eq-Decides name e.0).0 is)) (All-head (λ e. P e.0 e.1) e es all))
    by false is at on = on at

-- ---- folders of light files

pub record IsLightFile (name : List ℕ) (tree : Tree) : Type 0 where
  pub good : IsGoodName name
  pub short : length name ≤ 7
  pub bytes : List ℕ
  pub is : bytes_of (Some tree) ≡ Some bytes
  pub few : length bytes ≤ 10485760

pub record IsFolderOfLight (folder : Tree) : Type 0 where
  pub sort : sort_of folder ≡ sorts.Folder
  pub each : All (λ e. IsLightFile e.0 e.1) (entries_of folder)
  pub differ : IsDistinct bytes_eq (names_of (Some folder))
  pub few : length (entries_of folder) ≤ 1000000

-- two of its names have one hash, and the fault shows them
pub record HaveOneHashIn (folder : Tree) (fault : ImportFault) : Type 0 where
  pub first : List ℕ
  pub second : List ℕ
  pub first_in : Contains (names_of (Some folder)) first
  pub second_in : Contains (names_of (Some folder)) second
  pub differ : first ≢ second
  pub same : name_hash first ≡ name_hash second
  pub fault_is : fault ≡ faults.SameHash first second

pub imported_at : (tree : Tree) (path : List (List ℕ)) (d : Dag) → IsImported audit_options (Some tree) path d → IsAt top d
imported_at tree path d h = record { whole = h.sound.whole; checked = h.sound.checked; laid = h.laid; plain = h.plain }

pub shown_at : (tree : Tree) (path : List (List ℕ)) (d : Dag) (b : Tree) → IsImported audit_options (Some tree) path d
    → tree_at (Some tree) path ≡ Some b → Shows d b
shown_at tree path d b h at = subst (λ (t : Option Tree). IfSome t (Shows d)) at h.shows

-- no file is too long
not_long : (counted : Summary) (size : ℕ) → size ≤ 10485760 → all_of counted ≤ 200000000000000 → IsTooLong counted size → ⊥
not_long counted size few most (inl long) = omega (arith, few, long)
not_long counted size few most (inr many) = let more = passed (plus counted (one_file size)) many in omega (arith, few, most, more)

pub no_file_fault : (told : Option Tree) (path : List (List ℕ)) (counted : Summary) (kept : List Section) (bytes : List ℕ) (fault : ImportFault)
    → bytes_of (tree_at told path) ≡ Some bytes
    → length bytes ≤ 10485760 → all_of counted ≤ 200000000000000 → IsFileFault told path counted kept fault → ⊥
no_file_fault told path counted kept bytes (faults.TooBig at) is few most h =
    not_long counted (length bytes) few most (subst (λ (o : Option (List ℕ)). IfSome o (λ bytes. IsTooLong counted (length bytes))) is h.1)
no_file_fault told path counted kept bytes _ is few most h = h

module _ (laws : BlockLaws) where
  light_entries : (folder : Tree) → IsFolderOfLight folder → HasLightEntries folder
  light_entries folder is name below d at stands shown =
      let file = holds_of IsLightFile (entries_of folder) is.each name below at in
      (file.short, light_file laws d below file.bytes stands shown file.is file.few)

  pub folder_is_light : (folder : Tree) (d : Dag) → IsFolderOfLight folder → IsAt top d → Shows d folder → IsLight 20000000000000 d
  folder_is_light folder d is stands shown =
      let light = light_folder laws folder (light_entries folder is) d is.sort stands shown in
      let few = is.few in
      let names = length-keys_of (entries_of folder) in
      let tsize = light.tsize in
      let counts = light.counts in
      record { tsize = omega (arith, few, names, tsize); counts = omega (arith, few, names, counts) }

  -- ---- such a folder at a path

  module _ (tree : Tree) (levels : ℕ) (path : List (List ℕ)) (folder : Tree) (here : tree_at (Some tree) path ≡ Some folder)
      (reach : (name : List ℕ) → tree_at (Some tree) (path ++ name ∷ []) ≡ child folder name) (is : IsFolderOfLight folder) where
    record IsFileItem (item : Item) : Type 0 where
      sort : item.sort ≡ sorts.File
      bytes : List ℕ
      at : bytes_of (tree_at (Some tree) (path ++ item.name ∷ [])) ≡ Some bytes
      few : length bytes ≤ 10485760

    abbrev IsAmong : List (List ℕ × Tree) → Type 0
    IsAmong es = (name : List ℕ) → Contains (keys_of es) name → Contains (keys_of (entries_of folder)) name

    among_rest : (e : List ℕ × Tree) (es : List (List ℕ × Tree)) → IsAmong (e ∷ es) → IsAmong es
    among_rest e es among name c = among name (other_one e.0 name (keys_of es) c)

    light_items : (es : List (List ℕ × Tree)) → IsAmong es → All (λ e. IsLightFile e.0 e.1) es
        → All (IsLightItem (Some tree) path file_most) (map item_of es)
    light_items [] among all = All-nil (IsLightItem (Some tree) path file_most)
    light_items (e ∷ es) among all =
        let own = All-head (λ e. IsLightFile e.0 e.1) e es all in
        let (b, at) = found_in (entries_of folder) e.0 (among e.0 (first_one e.0 (keys_of es))) in
        let file = holds_of IsLightFile (entries_of folder) is.each e.0 b at in
        All-cons (IsLightItem (Some tree) path file_most) (item_of e) (map item_of es)
        (record {
          good = own.good;
          short = own.short;
          light = λ d imported.
              light_file laws d b file.bytes (imported_at tree (path ++ e.0 ∷ []) d imported)
              (shown_at tree (path ++ e.0 ∷ []) d b imported (reach e.0 ∙ at)) file.is file.few;
        })
        (light_items es (among_rest e es among) (All-tail (λ e. IsLightFile e.0 e.1) e es all))

    file_items : (es : List (List ℕ × Tree)) → IsAmong es → All (λ e. IsLightFile e.0 e.1) es → All IsFileItem (map item_of es)
    file_items [] among all = All-nil IsFileItem
    file_items (e ∷ es) among all =
        let own = All-head (λ e. IsLightFile e.0 e.1) e es all in
        let (b, at) = found_in (entries_of folder) e.0 (among e.0 (first_one e.0 (keys_of es))) in
        let file = holds_of IsLightFile (entries_of folder) is.each e.0 b at in
        All-cons IsFileItem (item_of e) (map item_of es)
        (record { sort = file_sort (out-Tree e.1) own.bytes own.is; bytes = file.bytes; at = ap bytes_of (reach e.0 ∙ at) ∙ file.is; few = file.few })
        (file_items es (among_rest e es among) (All-tail (λ e. IsLightFile e.0 e.1) e es all))

    is_light : IsLightFolder tree path folder file_most
    is_light = record {
      here = here;
      each = light_items (entries_of folder) (λ name c. c) is.each;
      differ = is.differ;
      few = is.few;
      room = let few = is.few in omega (arith, few);
    }

    names_in : (items : List Item) → IsPermutation (items_of folder) items → (name : List ℕ) → Contains (item_names items) name
        → Contains (names_of (Some folder)) name
    names_in items same name c =
        subst (λ (l : List (List ℕ)). Contains l name) (names_are (entries_of folder))
        (Contains-permutation (item_names items) (item_names (items_of folder)) name
        (IsPermutation-sym (item_names (items_of folder)) (item_names items)
        (IsPermutation-map (λ (item : Item). item.name) (items_of folder) items same)) c)

    pub files_level : (counted : Summary) (kept : List Section) (fault : ImportFault) → all_of counted ≤ 100000000000000
        → RefusesFolder (suc levels) audit_options (Some tree) path counted kept fault → HaveOneHashIn folder fault
    files_level counted kept fault few h =
        level tree levels path folder file_most is_light counted 100000000000000 (omega arith) few fault (HaveOneHashIn folder fault)
        (λ item more kept among most refused.
        let file = All-contains IsFileItem (items_of folder) item (file_items (entries_of folder) (λ name c. c) is.each) among in
        absurd (no_file_fault (Some tree) (path ++ item.name ∷ []) more kept file.bytes fault file.at file.few (omega (arith, most))
        (subst (λ (s : Sort). sort_fault (refused_below tree levels) (Some tree) (path ++ item.name ∷ []) more s kept fault) file.sort refused)))
        (λ items first second same is_hash weight two. record {
          first = first;
          second = second;
          first_in = names_in items same first two.first_in;
          second_in = names_in items same second two.second_in;
          differ = less_apart first second two.before;
          same = two.same;
          fault_is = is_hash;
        })
        kept h
