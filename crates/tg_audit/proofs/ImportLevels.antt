-- Why a folder whose entries are all light isn't imported: two of its names have one hash, or an entry isn't imported.
use Rattle.std.proofs.Common.{All, Bool, Contains, List, Option, Some, [], ap, arith, cond, false, inl, inr, length, length-append, refl, subst, suc, sym, true, ℕ, ◌*◌, ◌++◌, ◌+◌, ◌<◌, ◌∙◌, ◌∷◌, ◌≡◌, ◌≤◌}
use Rattle.std.proofs.Math.Nat.{suc-mul}
use Rattle.std.proofs.lemmas.Cmp.{nat_list_eq_equiv}
use Rattle.std.proofs.lemmas.List.{length-map}
use Rattle.std.proofs.lemmas.List.Elements.{All-contains, All-head, All-tail, Contains-append_right}
use Rattle.std.proofs.lemmas.List.Sorted.{All-permutation, Contains-permutation, IsPermutation-map, IsPermutation-sym, IsPermutation-trans, length_permutation}
use Rattle.std.proofs.lemmas.Map.Keys.{IsDistinct-IsPermutation, IsDistinct-head, IsDistinct-tail}
use Rattle.std.proofs.lemmas.Nat.{mul-le}
use Rattle.std.proofs.lemmas.Slice.Eq.{bytes_eq-Decides}
use Rattle.std.specs.List.{AllByRecursion, IsDistinct}
use Rattle.std.specs.List.Sorted.{IsPermutation}
use Rattle.std.specs.Map.{keys_of}
use Rattle.std.specs.Prelude.{bytes_eq, map, nat_lt}
use Rattle.tg_audit.proofs.BlockSizes.{all_left}
use Rattle.tg_audit.proofs.FileSizes.{IsLight, all_of}
use Rattle.tg_audit.proofs.Members.{first_one, none_in, one_of}
use Rattle.tg_audit.specs.Packing.{audit_options}
use Rattle.tg_files.specs.Folders.{Lists}
use Rattle.tg_import.specs.Counting.{counts_of_children, one_folder, one_sharded, plus}
use Rattle.tg_import.specs.Imported.{AreImported, IsImported}
use Rattle.tg_import.specs.Refused.{HasDirectoryFault, HasItemFault, HasNameFault, HaveOneHash, IsCrowdedFault, IsDirectoryFault, IsNameFault, PassesTotal, Refusal, RefusesFolder, entry_limit, item_fault, item_names, max_total, own_count, weight_of_items}
use Rattle.tg_import.specs.declared.fault.ImportFault.{ImportFault}
use Rattle.tg_import.specs.declared.fault.ImportFault.TheVariants as faults
use Rattle.tg_import.specs.declared.summary.Summary.{Summary}
use Rattle.tg_model.specs.Dag.{Children, Dag, Section, no_child, with_child}
use Rattle.tg_model.specs.EntryNames.{IsGoodName}
use Rattle.tg_model.specs.ImportLayout.{tsizes_of}
use Rattle.tg_tree.specs.Tree.{entries_of, item_of, items_of, names_of, tree_at}
use Rattle.tg_tree.specs.declared.items.Item.{Item}
use Rattle.tg_tree.specs.declared.tree.Tree.{Tree}

-- an entry has a good and short name, and what was imported of it is light
pub record IsLightItem (told : Option Tree) (path : List (List ℕ)) (most : ℕ) (item : Item) : Type 0 where
  pub good : IsGoodName item.name
  pub short : length item.name ≤ 7
  pub light : (d : Dag) → IsImported audit_options told (path ++ item.name ∷ []) d → IsLight most d

-- at the path stands a folder of such entries, whose names differ
pub record IsLightFolder (tree : Tree) (path : List (List ℕ)) (folder : Tree) (most : ℕ) : Type 0 where
  pub here : tree_at (Some tree) path ≡ Some folder
  pub each : All (IsLightItem (Some tree) path most) (items_of folder)
  pub differ : IsDistinct bytes_eq (names_of (Some folder))
  pub few : length (entries_of folder) ≤ 1000000
  pub room : length (entries_of folder) * most ≤ 100000000000000

-- ---- numbers

pub passed : (s : Summary) → PassesTotal s → max_total < all_of s
passed s (inl h) = omega (arith, h)
passed s (inr (inl h)) = omega (arith, h)
passed s (inr (inr (inl h))) = omega (arith, h)
passed s (inr (inr (inr h))) = omega (arith, h)

own_few : (b : Bool) → all_of (cond b one_sharded one_folder) ≤ 2
own_few true = omega arith
own_few false = omega arith

record AreLight (most : ℕ) (number : ℕ) (children : Children) : Type 0 where
  tsizes : tsizes_of children ≤ number * most
  counts : all_of (counts_of_children children) ≤ number * most

imported_light : (told : Option Tree) (path : List (List ℕ)) (most : ℕ) (items : List Item) (children : Children)
    → All (IsLightItem told path most) items
    → AreImported audit_options told path items children → AreLight most (length items) children
imported_light told path most [] no_child all h = record { tsizes = omega arith; counts = omega arith }
imported_light told path most [] (with_child d children) all h = absurd h
imported_light told path most (item ∷ items) no_child all h = absurd h
imported_light told path most (item ∷ items) (with_child d children) all h =
    let first = (All-head (IsLightItem told path most) item items all).light d h.0 in
    let rest = imported_light told path most items children (All-tail (IsLightItem told path most) item items all) h.1 in
    let times = suc-mul (length items) most in
    let tsize = first.tsize in
    let tsizes = rest.tsizes in
    let counts = first.counts in
    let all = rest.counts in
    record { tsizes = omega (arith, times, tsize, tsizes); counts = omega (arith, times, counts, all) }

-- ---- names

at_middle : (P : List ℕ → Type 0) (before : List Item) (item : Item) (after : List Item) → AllByRecursion P (item_names (before ++ item ∷ after))
    → P item.name
at_middle P [] item after h = h.0
at_middle P (x ∷ before) item after h = at_middle P before item after h.1

not_twice : (before : List Item) (item : Item) (after : List Item) → IsDistinct bytes_eq (item_names (before ++ item ∷ after))
    → Contains (item_names before) item.name → ⊥
not_twice [] item after differ c = none_in item.name c
not_twice (x ∷ before) item after differ c = elim (one_of x.name item.name (item_names before) c) [
  | inl same ↦ (let no : false ≡ true =
      sym (at_middle (λ y. bytes_eq x.name y ≡ false) before item after
      (IsDistinct-head bytes_eq x.name (item_names (before ++ item ∷ after)) differ))
      ∙ (bytes_eq-Decides x.name item.name).1 same in
      cc no)
  | inr behind ↦ not_twice before item after (IsDistinct-tail bytes_eq x.name (item_names (before ++ item ∷ after)) differ) behind
]

pub names_are : (es : List (List ℕ × Tree)) → map (λ item. item.name) (map item_of es) ≡ keys_of es
names_are [] = refl
names_are (e ∷ es) = ap (λ (l : List (List ℕ)). e.0 ∷ l) (names_are es)

in_middle : (before : List Item) (item : Item) (after : List Item) → Contains (before ++ item ∷ after) item
in_middle before item after = Contains-append_right before (item ∷ after) item (first_one item after)

-- ---- a level

-- what is said of a folder below
abbrev pub refused_below : Tree → ℕ → Refusal
refused_below tree levels path counted kept fault = RefusesFolder levels audit_options (Some tree) path counted kept fault

module _ (tree : Tree) (levels : ℕ) (path : List (List ℕ)) (folder : Tree) (most : ℕ) (is : IsLightFolder tree path folder most) (counted : Summary)
    (bound : ℕ) (small : bound ≤ 1000000000000000) (few : all_of counted ≤ bound) (fault : ImportFault) (G : Type 0)
    (on_item : (item : Item) (counted : Summary) (kept : List Section) → Contains (items_of folder) item → all_of counted ≤ bound + 100000000000000
    → item_fault (refused_below tree levels) (Some tree) path counted item kept fault → G)
    (on_hash : (items : List Item) (first second : List ℕ) → IsPermutation (items_of folder) items → fault ≡ faults.SameHash first second
    → 16384 < weight_of_items items
    → HaveOneHash items first second → G) where
  module _ (items : List Item) (same : IsPermutation (items_of folder) items) where
    light : All (IsLightItem (Some tree) path most) items
    light = All-permutation (IsLightItem (Some tree) path most) (items_of folder) items same is.each

    count : length items ≡ length (entries_of folder)
    count = length_permutation (items_of folder) items same ∙ length-map (entries_of folder) item_of

    room : length items * most ≤ 100000000000000
    room =
        let all = is.room in
        let times : length items * most ≡ length (entries_of folder) * most = ap (λ (n : ℕ). n * most) count in
        omega (arith, all, times)

    differ : IsDistinct bytes_eq (item_names items)
    differ =
        IsDistinct-IsPermutation bytes_eq nat_list_eq_equiv.symm (item_names (items_of folder)) (item_names items)
        (IsPermutation-map (λ (item : Item). item.name) (items_of folder) items same)
        (subst (IsDistinct bytes_eq) (sym (names_are (entries_of folder))) is.differ)

    not_crowded : (f : ImportFault) → IsCrowdedFault path items f → ⊥
    not_crowded (faults.TooBig at) h = let many : entry_limit ≤ length items = h.1 in let some = is.few in omega (arith, many, some, count)
    not_crowded _ h = h

    no_name : (f : ImportFault) → HasNameFault path items f → ⊥
    no_name f h = by f h.is
      where
        light_item : IsLightItem (Some tree) path most h.item
        light_item = All-contains (IsLightItem (Some tree) path most) items h.item light
            (subst (λ (l : List Item). Contains l h.item) (sym h.whole) (in_middle h.before h.item h.after))

        by : (f : ImportFault) → IsNameFault path h.before h.item f → ⊥
        by (faults.BadName at) (where_at, inl bad) = bad light_item.good
        by (faults.BadName at) (where_at, inr twice) =
            not_twice h.before h.item h.after (subst (λ (l : List Item). IsDistinct bytes_eq (item_names l)) h.whole differ) twice
        by (faults.LongName at) n = let long : 255 < length h.item.name = n.2 in let short = light_item.short in omega (arith, long, short)
        by _ n = n

    by_item : (kept : List Section)
        → HasItemFault (refused_below tree levels) audit_options (Some tree) path counted items kept fault → G
    by_item kept h =
        let there : Contains items h.item = subst (λ (l : List Item). Contains l h.item) (sym h.whole) (in_middle h.before h.item h.after) in
        let before = all_left (IsLightItem (Some tree) path most) h.before (h.item ∷ h.after)
        (subst (All (IsLightItem (Some tree) path most)) h.whole light) in
        let all = (imported_light (Some tree) path most h.before h.children before h.imported).counts in
        let whole : length items ≡ length h.before + length (h.item ∷ h.after) = ap length h.whole ∙ length-append h.before (h.item ∷ h.after) in
        let fewer : length h.before ≤ length items = omega (arith, whole) in
        let times = mul-le (length h.before) most (length items) most fewer (omega arith) in
        let most_room = room in
        on_item h.item (plus counted (counts_of_children h.children)) h.rest
        (Contains-permutation items (items_of folder) h.item (IsPermutation-sym (items_of folder) items same) there)
        (omega (arith, few, all, times, most_room)) h.is

    by_directory : (kept : List Section) → HasDirectoryFault audit_options (Some tree) path counted items kept fault → G
    by_directory kept h = by fault refl h.is
      where
        all : AreLight most (length items) h.children
        all = imported_light (Some tree) path most items h.children light h.imported

        by : (f : ImportFault) → fault ≡ f → IsDirectoryFault audit_options path counted items h.children f → G
        by (faults.TooBig at) e (where_at, inl big) =
            absurd (let tsizes = all.tsizes in let most_room = room in omega (arith, big, tsizes, most_room))
        by (faults.TooBig at) e (where_at, inr many) = absurd
            (let pass = passed (plus (plus counted (counts_of_children h.children)) (own_count audit_options items)) many in
            let own = own_few (nat_lt audit_options.shard (weight_of_items items)) in
            let counts = all.counts in
            let most_room = room in
            omega (arith, pass, own, counts, most_room, few, small))
        by (faults.SameHash first second) e d = on_hash items first second same e d.0 d.1
        by _ e d = absurd d

  pub level : (kept : List Section) → RefusesFolder (suc levels) audit_options (Some tree) path counted kept fault → G
  level kept (items, are, why) =
      let same : IsPermutation (items_of folder) items =
      IsPermutation-trans (items_of folder) are.listed items (subst (λ (t : Option Tree). Lists t are.listed) is.here are.lists) are.same in
      elim why [
        | inl crowded ↦ absurd (not_crowded items same fault crowded.1)
        | inr (inl name) ↦ absurd (no_name items same fault name.1)
        | inr (inr (good, inl item)) ↦ by_item items same kept item
        | inr (inr (good, inr directory)) ↦ by_directory items same kept directory
      ]
