-- Items in the order of their names.
use Rattle.std.proofs.Common.{arith, ◌≡◌, ◌∙◌, ◌+◌, ℕ, get_or, List, false, true, refl, ap}
use Rattle.std.specs.Cmp.Lexicographic.{nat_list_cmp_total}
use Rattle.std.specs.List.Sorted.{IsSortedByKey}
use Rattle.std.specs.Ordering.{is_le, is_lt, ordering_reverse}
use Rattle.std.specs.declared.cmp.Ordering.{Ordering}
use Rattle.std.specs.declared.cmp.Ordering.TheVariants.{Less, Equal, Greater}
use Rattle.tg_bytes.specs.Order.{bytes_cmp}
use Rattle.tg_tree.specs.declared.items.Item.{Item}
use Rattle.tg_tree.specs.Tree.{NamesRise}

le_from_reverse : (o : Ordering) → is_lt o ≡ false → is_le (ordering_reverse o) ≡ true
le_from_reverse Less h = absurd (cc)
le_from_reverse Equal h = refl
le_from_reverse Greater h = refl

-- of two names the second of which isn't below the first, the first is at most the second
at_most : (a b : List ℕ) → is_lt (bytes_cmp b a) ≡ false → is_le (bytes_cmp a b) ≡ true
at_most a b h = ap is_le (nat_list_cmp_total.antisymm a b) ∙ le_from_reverse (bytes_cmp b a) h

pub rise_from_sorted : (items : List Item) → IsSortedByKey (λ item. item.name) bytes_cmp items → NamesRise items
rise_from_sorted items up = λ k d h. at_most (get_or items k d).name (get_or items (k + 1) d).name (up k d (omega arith) h)
