-- Items in the order of their names' bytes, of which the names so far may stand in one directory.
use Rattle.std.proofs.Common.{◌≡◌, ⊎_elim, ℕ, ◌+◌, ◌-◌, ◌<◌, ◌≤◌, true, List, [], ◌∷◌, ◌++◌, length, get_or, take, drop, refl, ap, sym, ◌∙◌, subst, arith}
use Rattle.std.proofs.Math.Nat.{eq-or-lt_of_le}
use Rattle.std.proofs.Math.Seq.{take-length}
use Rattle.std.proofs.lemmas.Bool.{false_from_ne_true}
use Rattle.std.proofs.lemmas.List.{drop_more, get_or-map, get_or-take, get_or_default, length-map, length-take, take-append-drop}
use Rattle.std.proofs.lemmas.Map.Keys.{IsDistinct-from_apart, Less-from_sorted, sorted_from_all_adjacent}
use Rattle.std.proofs.lemmas.Map.Lookups.{exact_bytes}
use Rattle.std.proofs.lemmas.Slice.Eq.{bytes_eq-Decides}
use Rattle.std.specs.Cmp.Lexicographic.{nat_list_cmp_total}
use Rattle.std.specs.List.{IsDistinct}
use Rattle.std.specs.Ordering.{is_le}
use Rattle.std.specs.Prelude.{Contains, bytes_eq}
use Rattle.std.specs.declared.cmp.Ordering.{Ordering}
use Rattle.std.specs.declared.cmp.Ordering.TheVariants.{Equal, Greater, Less}
use Rattle.tg_bytes.specs.Order.{bytes_cmp}
use Rattle.tg_bytes.specs.OrderLaws.{less_apart}
use Rattle.tg_import.specs.Imported.{AreEntryNames, IsEntryName}
use Rattle.tg_import.specs.Refused.{HasNameFault, IsNameFault, item_names}
use Rattle.tg_import.specs.Steps.{StandsBefore}
use Rattle.tg_import.specs.declared.fault.ImportFault.{ImportFault}
use Rattle.tg_tree.specs.Tree.{NamesRise}
use Rattle.tg_tree.specs.declared.items.Item.{Item}

-- the first so many items have names that may stand in a directory, each before the next
pub record AreTaken (items : List Item) (i : ℕ) : Type 0 where
  pub inside : i ≤ length items
  pub each : (k : ℕ) (d : Item) → k < i → IsEntryName (get_or items k d).name
  pub rise : (k : ℕ) (d : Item) → k + 1 < i → bytes_cmp (get_or items k d).name (get_or items (k + 1) d).name ≡ Less

pub none_taken : (items : List Item) → AreTaken items 0
none_taken items = record { inside = omega arith; each = λ k d lt. absurd (omega arith); rise = λ k d lt. absurd (omega arith) }

less_from_le : (o : Ordering) → is_le o ≡ true → (o ≡ Equal → ⊥) → o ≡ Less
less_from_le Less h differ = refl
less_from_le Equal h differ = absurd (differ refl)
less_from_le Greater h differ = absurd (cc)

pub one_more : (items : List Item) (i : ℕ) (item : Item) → NamesRise items → AreTaken items i → i < length items → item ≡ get_or items i item
    → IsEntryName item.name → (StandsBefore items i → ⊥) → AreTaken items (i + 1)
one_more items i item up taken lt is here other = record {
  inside = omega arith;
  each = λ k d less.
      ⊎_elim
      (λ (same : k ≡ i). subst (λ (x : Item). IsEntryName x.name) (is ∙ get_or_default items i item d lt ∙ ap (λ (n : ℕ). get_or items n d) (sym same)) here)
      (λ (low : k < i). taken.each k d low)
      (eq-or-lt_of_le {n = k} {m = i} (omega arith));
  rise = λ k d less.
      ⊎_elim
      (λ (same : k + 1 ≡ i).
      less_from_le (bytes_cmp (get_or items k d).name (get_or items (k + 1) d).name) (up k d (omega arith))
      (λ e. other (
        omega arith,
        λ d2.
            let back : i - 1 ≡ k = omega arith in
            let equal = exact_bytes (get_or items k d).name (get_or items (k + 1) d).name e in
            ap (λ (n : ℕ). (get_or items n d2).name) back ∙ ap (λ (x : Item). x.name) (get_or_default items k d2 d (omega arith)) ∙ equal
            ∙ ap (λ (x : Item). x.name) (get_or_default items (k + 1) d d2 (omega arith)) ∙ ap (λ (n : ℕ). (get_or items n d2).name) same,
      )))
      (λ (low : k + 1 < i). taken.rise k d low)
      (eq-or-lt_of_le {n = k + 1} {m = i} (omega arith));
}

-- names that rise differ
names_differ : (names : List (List ℕ)) → ((k : ℕ) → k + 1 < length names → bytes_cmp (get_or names k []) (get_or names (k + 1) []) ≡ Less) → IsDistinct bytes_eq names
names_differ names up =
    IsDistinct-from_apart bytes_eq names
    (λ i j d lt below.
    let sorted = sorted_from_all_adjacent nat_list_cmp_total names [] up in
    let less = Less-from_sorted bytes_cmp names i j d sorted lt below in
    false_from_ne_true (bytes_eq (get_or names i d) (get_or names j d)) (λ e. less_apart (get_or names i d) (get_or names j d) less ((bytes_eq-Decides (get_or names i d) (get_or names j d)).0 e)))

pub names_taken : (items : List Item) (i : ℕ) (item : Item) → AreTaken items i → AreEntryNames (item_names (take i items))
names_taken items i item taken =
    let count = length-take i items in
    let named = length-map (take i items) (λ (x : Item). x.name) in
    record {
      each = λ k d lt.
          subst IsEntryName (sym (get_or-map (λ (x : Item). x.name) (take i items) k item d (omega (arith, named)) ∙ ap (λ (x : Item). x.name) (get_or-take i items k item (omega (arith, named, count)))))
          (taken.each k item (omega (arith, named, count, taken.inside)));
      differ = names_differ (item_names (take i items))
          (λ k lt.
          let a = get_or-map (λ (x : Item). x.name) (take i items) k item [] (omega (arith, named)) ∙ ap (λ (x : Item). x.name) (get_or-take i items k item (omega (arith, named, count))) in
          let b = get_or-map (λ (x : Item). x.name) (take i items) (k + 1) item [] (omega (arith, named)) ∙ ap (λ (x : Item). x.name) (get_or-take i items (k + 1) item (omega (arith, named, count))) in
          rw (a, b) (taken.rise k item (omega (arith, named, count))));
    }

pub all_taken : (items : List Item) → AreTaken items (length items) → AreEntryNames (item_names items)
all_taken [] taken = record { each = λ k d lt. absurd (omega arith); differ = names_differ [] (λ k lt. absurd (omega arith)) }
all_taken (item ∷ items) taken = subst (λ (l : List Item). AreEntryNames (item_names l)) (take-length (item ∷ items)) (names_taken (item ∷ items) (length (item ∷ items)) item taken)

-- an item with those before and behind it
pub around : (items : List Item) (i : ℕ) (item : Item) → i < length items → item ≡ get_or items i item → items ≡ take i items ++ item ∷ drop (i + 1) items
around items i item lt is =
    sym (take-append-drop i items) ∙ ap (λ (l : List Item). take i items ++ l) (drop_more items i item lt ∙ ap (λ (x : Item). x ∷ drop (i + 1) items) (sym is))

-- the first name that may not
pub name_fault : (path : List (List ℕ)) (items : List Item) (i : ℕ) (item : Item) (fault : ImportFault) → AreTaken items i → i < length items → item ≡ get_or items i item
    → IsNameFault path (take i items) item fault → HasNameFault path items fault
name_fault path items i item fault taken lt is what = record {
  before = take i items;
  item = item;
  after = drop (i + 1) items;
  whole = around items i item lt is;
  good = names_taken items i item taken;
  is = what;
}

pub stood_before : (items : List Item) (i : ℕ) (item : Item) → i < length items → item ≡ get_or items i item → StandsBefore items i → Contains (item_names (take i items)) item.name
stood_before items i item lt is before =
    let count = length-take i items in
    let named = length-map (take i items) (λ (x : Item). x.name) in (
      i - 1,
      omega (arith, named, count, before.0),
      get_or-map (λ (x : Item). x.name) (take i items) (i - 1) item item.name (omega (arith, count, before.0)) ∙ ap (λ (x : Item). x.name) (get_or-take i items (i - 1) item (omega (arith, before.0)))
          ∙ before.1 item ∙ ap (λ (x : Item). x.name) (sym is),
    )
