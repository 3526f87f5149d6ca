-- Entries in the order of their names' bytes.
use Rattle.std.proofs.Common.{◌≡◌, ℕ, ◌+◌, ◌<◌, List, [], length, get_or, ap, ap₂, sym, ◌∙◌, arith}
use Rattle.std.specs.List.{IsDistinct}
use Rattle.std.specs.List.Sorted.{IsSortedByKey}
use Rattle.std.specs.Prelude.{bytes_eq, map}
use Rattle.std.specs.declared.cmp.Ordering.TheVariants.{Less}
use Rattle.std.proofs.lemmas.List.{get_or-map, length-map}
use Rattle.std.proofs.lemmas.Option.{get_or_from_slice_get, slice_get_within}
use Rattle.tg_bytes.specs.Order.{bytes_cmp}
use Rattle.tg_hamt.specs.NameLaws.{other_names}
use Rattle.tg_model.specs.ImportLayout.{AreSorted}
use Rattle.tg_model.specs.declared.kinds.Entry.{Entry}
use Rattle.tg_model.specs.declared.kinds.NewEntry.{NewEntry}
use Rattle.tg_bytes.specs.OrderLaws.{other_way}
use Rattle.tg_model.specs.NameOrder.{before_from_less}

-- ---- entries

abbrev pub basic_entry : NewEntry → Entry
basic_entry entry = record { name = entry.name; cid = entry.cid }

less_at : (es : List NewEntry) → IsSortedByKey (λ (e : NewEntry). e.name) bytes_cmp es → IsDistinct bytes_eq (map (λ (e : NewEntry). e.name) es)
    → (i : ℕ) (d : NewEntry) → i + 1 < length es → bytes_cmp (get_or es i d).name (get_or es (i + 1) d).name ≡ Less
less_at es rises differ i d inside =
    other_way (get_or es (i + 1) d).name (get_or es i d).name (λ same. other_names es i (i + 1) d differ (omega arith) inside (sym same)) (rises i d (omega arith) inside)

-- those of a directory in one block stand in the order of their names' bytes
pub entries_sorted : (es : List NewEntry) → IsSortedByKey (λ (e : NewEntry). e.name) bytes_cmp es → IsDistinct bytes_eq (map (λ (e : NewEntry). e.name) es)
    → AreSorted (map basic_entry es)
entries_sorted es rises differ i a b first second =
    let d : NewEntry = record { name = []; cid = a.cid; tsize = 0 } in
    let count = length-map es basic_entry in
    let within = slice_get_within (map basic_entry es) (i + 1) b second in
    let inside : i + 1 < length es = omega (arith, count, within) in
    let a_is : (get_or es i d).name ≡ a.name =
    ap (λ (e : Entry). e.name) (sym (get_or-map basic_entry es i d (basic_entry d) (omega (arith, inside))) ∙ get_or_from_slice_get (map basic_entry es) i a (basic_entry d) first) in
    let b_is : (get_or es (i + 1) d).name ≡ b.name =
    ap (λ (e : Entry). e.name) (sym (get_or-map basic_entry es (i + 1) d (basic_entry d) inside) ∙ get_or_from_slice_get (map basic_entry es) (i + 1) b (basic_entry d) second) in
    let less = less_at es rises differ i d inside in
    before_from_less a.name b.name (ap₂ (λ (x y : List ℕ). bytes_cmp x y) (sym a_is) (sym b_is) ∙ less)
