-- What the listing of a directory opens: its own block, or those of its shards.
use Rattle.std.proofs.Common.{List, None, Option, Some, [], arith, length, length-append, ℕ, ◌+◌, ◌++◌, ◌∷◌, ◌≤◌}
use Rattle.std.specs.Prelude.{map, true, ◌≡◌}
use Rattle.tg_audit.specs.Shards.{if_unnamed, inner, inner_slots}
use Rattle.tg_model.specs.Dag.{Children, Dag, Section, bare, no_child, node, unopened, with_child}
use Rattle.tg_model.specs.Lookup.{is_directory}
use Rattle.tg_model.specs.PathWalk.{Spot, TraversalEnd, spot_at, stopped, whole}
use Rattle.tg_model.specs.Sound.{Position, child, position_fault, top}
use Rattle.tg_model.specs.Traversal.{Reach, Traversal, after_end, and_then, entry_visit, giving_entries, giving_place, giving_text, listed, slot_visit, traverse, traverse_children, unless_bad, visit_by_name, visited, Place}
use Rattle.tg_model.specs.declared.fault.BlockFault.{BlockFault}
use Rattle.tg_model.specs.declared.kinds.Entry.{Entry}
use Rattle.tg_model.specs.declared.kinds.Kind.TheVariants.{Basic, File, Raw, Shard, Symlink}
use Rattle.tg_model.specs.declared.kinds.Slot.{Slot}

-- by what a section weighs
module _ (u : Section → ℕ) where
  -- what is opened, and said
  abbrev pub places_of : List Place → ℕ
  places_of [] = 0
  places_of (p ∷ places) = u p.section + places_of places

  abbrev pub opened : Traversal → ℕ
  opened t = places_of t.places + length t.text

  places_both : (a b : List Place) → places_of (a ++ b) ≤ places_of a + places_of b
  places_both [] b = omega arith
  places_both (p ∷ a) b = let rest = places_both a b in omega (arith, rest)

  then_opened : (a b : Traversal) → opened (and_then a b) ≤ opened a + opened b
  then_opened a b = by a.end
    where
      by : (e : TraversalEnd) → opened (after_end e a b) ≤ opened a + opened b
      by whole = let places = places_both a.places b.places in let text = length-append a.text b.text in omega (arith, places, text)
      by (stopped stop) = omega arith

  standing : (spot : Spot) (fault : Option BlockFault) (t : Traversal) (most : ℕ) → opened t ≤ most → opened (unless_bad spot fault t) ≤ most
  standing spot None t most h = h
  standing spot (Some fault) t most h = omega arith

  entries_listed : (es : List Entry) (depth : ℕ) (children : Children) → opened (traverse_children (map (λ e. entry_visit listed e.name e.cid) es) depth children) ≤ 0
  entries_listed es depth no_child = omega arith
  entries_listed [] depth (with_child d children) = omega arith
  entries_listed (e ∷ es) depth (with_child d children) = let rest = entries_listed es depth children in omega (arith, rest)

  slot_listed : (position : Position) (slot : Slot) (name : Option (List ℕ)) (depth : ℕ) (d : Dag) → ((above : List ℕ) → opened (traverse listed (child above) depth d) ≤ inner u d)
      → opened (visited (λ reach at. traverse reach at depth d) (visit_by_name listed position slot.slot slot.cid name).into) ≤ if_unnamed name (inner u d)
  slot_listed position slot (Some name) depth d below = omega arith
  slot_listed position slot None depth d below = below _

  mutual
    inside_listed : (above : List ℕ) (depth : ℕ) (d : Dag) → opened (traverse listed (child above) depth d) ≤ inner u d
    inside_listed above depth (unopened cid) = omega arith
    inside_listed above depth (bare section None) = omega arith
    inside_listed above depth (bare section (Some fault)) = omega arith
    inside_listed above depth (node section Raw children) = omega arith
    inside_listed above depth (node section (File inline filesize parts) children) = omega arith
    inside_listed above depth (node section (Basic es) children) = omega arith
    inside_listed above depth (node section (Shard slots) children) =
        let here = giving_place (record { section = section; depth = depth }) [] in
        let below = traverse_children (map (slot_visit listed (child above)) slots) (depth + 1) children in
        let last = giving_text [] in
        let one = then_opened here (and_then below last) in
        let two = then_opened below last in
        let rest = slots_listed (child above) slots (depth + 1) children in
        standing (spot_at section.cid depth (child above)) (position_fault (child above) (Shard slots)) (and_then here (and_then below last)) (inner u (node section (Shard slots) children))
        (omega (arith, one, two, rest))
    inside_listed above depth (node section (Symlink target) children) = omega arith

    slots_listed : (position : Position) (slots : List Slot) (depth : ℕ) (children : Children)
        → opened (traverse_children (map (slot_visit listed position) slots) depth children) ≤ inner_slots u slots children
    slots_listed position slots depth no_child = omega arith
    slots_listed position [] depth (with_child d children) = omega arith
    slots_listed position (slot ∷ slots) depth (with_child d children) =
        let inside = λ (reach : Reach) (at : Position). traverse reach at depth d in
        let visit = slot_visit listed position slot in
        let here = visited inside visit.into in
        let rest = traverse_children (map (slot_visit listed position) slots) depth children in
        let one = then_opened (giving_entries visit.met) (and_then here rest) in
        let two = then_opened here rest in
        let into = slot_listed position slot slot.name depth d (λ above. inside_listed above depth d) in
        let more = slots_listed position slots depth children in
        omega (arith, one, two, into, more)

  pub directory_listed : (depth : ℕ) (d : Dag) → is_directory d ≡ true → opened (traverse listed top depth d) ≤ inner u d
  directory_listed depth (unopened cid) is = absurd (cc is)
  directory_listed depth (bare section fault) is = absurd (cc is)
  directory_listed depth (node section Raw children) is = absurd (cc is)
  directory_listed depth (node section (File inline filesize parts) children) is = absurd (cc is)
  directory_listed depth (node section (Basic es) children) is =
      let here = giving_place (record { section = section; depth = depth }) [] in
      let below = traverse_children (map (λ e. entry_visit listed e.name e.cid) es) (depth + 1) children in
      let last = giving_text [] in
      let one = then_opened here (and_then below last) in
      let two = then_opened below last in
      let rest = entries_listed es (depth + 1) children in
      omega (arith, one, two, rest)
  directory_listed depth (node section (Shard slots) children) is =
      let here = giving_place (record { section = section; depth = depth }) [] in
      let below = traverse_children (map (slot_visit listed top) slots) (depth + 1) children in
      let last = giving_text [] in
      let one = then_opened here (and_then below last) in
      let two = then_opened below last in
      let rest = slots_listed top slots (depth + 1) children in
      standing (spot_at section.cid depth top) (position_fault top (Shard slots)) (and_then here (and_then below last)) (inner u (node section (Shard slots) children))
      (omega (arith, one, two, rest))
  directory_listed depth (node section (Symlink target) children) is = absurd (cc is)
