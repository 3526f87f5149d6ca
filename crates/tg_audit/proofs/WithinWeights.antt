-- What a query's traversal opens and meets of a DAG is no more than all of the DAG.
use Rattle.std.proofs.Common.{Bool, List, None, Option, Some, [], arith, false, length, suc, true, zero, ℕ, ◌+◌, ◌++◌, ◌∷◌, ◌≡◌, ◌≤◌}
use Rattle.tg_cid.specs.Cid.{CidParts}
use Rattle.tg_model.specs.Dag.{Children, Dag, Section, bare, no_child, node, unopened, with_child}
use Rattle.tg_model.specs.PathWalk.{PathEnd, PathWalk, Spot, StepTo, TraversalEnd, absent, child_below, not_folder_here, not_reached, path_walk, spot_at, step_of, stopped, terminal, to_child, to_entry, unless_misfit, walk_child, walk_from, walk_step, whole}
use Rattle.tg_model.specs.Queries.{QueryParts, SpanParts}
use Rattle.tg_model.specs.Sound.{Position, passed, position_fault, top, part}
use Rattle.tg_model.specs.Traversal.{ListedEntry, Place, Reach, Traversal, Visit, after_end, and_then, at_terminal, block_alone, bundled, entire, from_end, giving_entries, giving_place, giving_text, is_met, listed, part_visits, passed_over, ranged, text_before, text_behind, traversal, traverse, traverse_children, unless_bad, visited, visits, walk_places, entry_visit, slot_visit, visit_by_name}
use Rattle.std.specs.Prelude.{if◌then◌else◌, map, ◌-◌}
use Rattle.tg_model.specs.declared.fault.BlockFault.{BlockFault}
use Rattle.tg_model.specs.declared.kinds.Entry.{Entry}
use Rattle.tg_model.specs.declared.kinds.Kind.{Kind}
use Rattle.tg_model.specs.declared.kinds.Kind.TheVariants.{Basic, File, Raw, Shard, Symlink}
use Rattle.tg_model.specs.declared.kinds.Part.{Part}
use Rattle.tg_model.specs.declared.kinds.Slot.{Slot}
use Rattle.tg_model.specs.declared.queries.Scope.{Scope}
use Rattle.tg_model.specs.declared.queries.Scope.TheVariants as scopes
use Rattle.tg_murmur.specs.NameHash.{slot_of}

-- by what a section weighs, and what an entry does
module _ (u : Section → ℕ) (v : List ℕ → CidParts → ℕ) where
  -- ---- DAGs

  abbrev pub entries_weight : List Entry → ℕ
  entries_weight [] = 0
  entries_weight (e ∷ es) = v e.name e.cid + entries_weight es

  abbrev pub named_weight : Option (List ℕ) → CidParts → ℕ
  named_weight (Some name) cid = v name cid
  named_weight None cid = 0

  abbrev pub slots_weight : List Slot → ℕ
  slots_weight [] = 0
  slots_weight (slot ∷ slots) = named_weight slot.name slot.cid + slots_weight slots

  abbrev pub links_weight : Kind → ℕ
  links_weight Raw = 0
  links_weight (File inline filesize parts) = 0
  links_weight (Basic es) = entries_weight es
  links_weight (Shard slots) = slots_weight slots
  links_weight (Symlink target) = 0

  abbrev mutual
    pub weight : Dag → ℕ
    weight (unopened cid) = 0
    weight (bare section fault) = u section
    weight (node section kind children) = u section + (links_weight kind + weights children)

    pub weights : Children → ℕ
    weights no_child = 0
    weights (with_child d children) = weight d + weights children

  -- ---- traversals

  abbrev pub places_weight : List Place → ℕ
  places_weight [] = 0
  places_weight (p ∷ places) = u p.section + places_weight places

  abbrev pub met_weight : List ListedEntry → ℕ
  met_weight [] = 0
  met_weight (m ∷ met) = v m.name m.cid + met_weight met

  abbrev pub given : Traversal → ℕ
  given t = places_weight t.places + met_weight t.met

  places_both : (a b : List Place) → places_weight (a ++ b) ≡ places_weight a + places_weight b
  places_both [] b = omega arith
  places_both (p ∷ a) b = let rest = places_both a b in omega (arith, rest)

  met_both : (a b : List ListedEntry) → met_weight (a ++ b) ≡ met_weight a + met_weight b
  met_both [] b = omega arith
  met_both (m ∷ a) b = let rest = met_both a b in omega (arith, rest)

  pub then_given : (a b : Traversal) → given (and_then a b) ≤ given a + given b
  then_given a b = by a.end
    where
      by : (e : TraversalEnd) → given (after_end e a b) ≤ given a + given b
      by whole = let places = places_both a.places b.places in let met = met_both a.met b.met in omega (arith, places, met)
      by (stopped stop) = omega arith

  -- ---- what is met at links

  abbrev todo_weight : List Visit → ℕ
  todo_weight [] = 0
  todo_weight (visit ∷ todo) = met_weight visit.met + todo_weight todo

  parts_met : (low high from : ℕ) (parts : List Part) → todo_weight (part_visits low high from parts) ≤ 0
  parts_met low high from [] = omega arith
  parts_met low high from (p ∷ parts) = by (is_met low high from p.size) (parts_met low high (from + p.size) parts)
    where
      by : (b : Bool) → todo_weight (part_visits low high (from + p.size) parts) ≤ 0
          → todo_weight ((if b then record { met = []; into = Some (ranged (low - from) (high - from), part p.size) } else passed_over) ∷ part_visits low high (from + p.size) parts) ≤ 0
      by true rest = omega (arith, rest)
      by false rest = omega (arith, rest)

  all_met : (parts : List Part) → todo_weight (map (λ p. record { met = []; into = Some (entire, part p.size) }) parts) ≤ 0
  all_met [] = omega arith
  all_met (p ∷ parts) = let rest = all_met parts in omega (arith, rest)

  none_met : (parts : List Part) → todo_weight (map (λ p. passed_over) parts) ≤ 0
  none_met [] = omega arith
  none_met (p ∷ parts) = let rest = none_met parts in omega (arith, rest)

  entry_met : (reach : Reach) (name : List ℕ) (cid : CidParts) → met_weight (entry_visit reach name cid).met ≤ v name cid
  entry_met (bundled path) name cid = omega arith
  entry_met entire name cid = omega arith
  entry_met (ranged low high) name cid = omega arith
  entry_met listed name cid = omega arith

  slot_met : (reach : Reach) (position : Position) (slot : Slot) → met_weight (slot_visit reach position slot).met ≤ named_weight slot.name slot.cid
  slot_met reach position slot = by reach slot.name
    where
      by : (reach : Reach) (name : Option (List ℕ)) → met_weight (visit_by_name reach position slot.slot slot.cid name).met ≤ named_weight name slot.cid
      by reach (Some name) = entry_met reach name slot.cid
      by (bundled path) None = omega arith
      by entire None = omega arith
      by (ranged low high) None = omega arith
      by listed None = omega arith

  entries_met : (reach : Reach) (es : List Entry) → todo_weight (map (λ e. entry_visit reach e.name e.cid) es) ≤ entries_weight es
  entries_met reach [] = omega arith
  entries_met reach (e ∷ es) = let here = entry_met reach e.name e.cid in let rest = entries_met reach es in omega (arith, here, rest)

  slots_met : (reach : Reach) (position : Position) (slots : List Slot) → todo_weight (map (slot_visit reach position) slots) ≤ slots_weight slots
  slots_met reach position [] = omega arith
  slots_met reach position (slot ∷ slots) =
      let here = slot_met reach position slot in let rest = slots_met reach position slots in omega (arith, here, rest)

  visits_met : (reach : Reach) (position : Position) (kind : Kind) → todo_weight (visits reach position kind) ≤ links_weight kind
  visits_met reach position Raw = omega arith
  visits_met (bundled path) position (File inline filesize parts) = all_met parts
  visits_met entire position (File inline filesize parts) = all_met parts
  visits_met (ranged low high) position (File inline filesize parts) = parts_met low high (length inline) parts
  visits_met listed position (File inline filesize parts) = none_met parts
  visits_met reach position (Basic es) = entries_met reach es
  visits_met reach position (Shard slots) = slots_met reach position slots
  visits_met reach position (Symlink target) = omega arith

  -- ---- from a node on

  pub standing : (spot : Spot) (fault : Option BlockFault) (t : Traversal) (most : ℕ) → given t ≤ most → given (unless_bad spot fault t) ≤ most
  standing spot None t most h = h
  standing spot (Some fault) t most h = omega arith

  going_in : (inside : Reach → Position → Traversal) (into : Option (Reach × Position)) (most : ℕ)
      → ((reach : Reach) (position : Position) → given (inside reach position) ≤ most) → given (visited inside into) ≤ most
  going_in inside None most h = omega arith
  going_in inside (Some visit) most h = h visit.0 visit.1

  mutual
    pub traverse_given : (reach : Reach) (position : Position) (depth : ℕ) (d : Dag) → given (traverse reach position depth d) ≤ weight d
    traverse_given reach position depth (unopened cid) = omega arith
    traverse_given reach position depth (bare section None) = omega arith
    traverse_given reach position depth (bare section (Some fault)) = omega arith
    traverse_given reach position depth (node section kind children) =
        let here = giving_place (record { section = section; depth = depth }) (text_before reach position section kind) in
        let below = traverse_children (visits reach position kind) (depth + 1) children in
        let last = giving_text (text_behind reach kind) in
        let one = then_given here (and_then below last) in
        let two = then_given below last in
        let rest = children_given (visits reach position kind) (depth + 1) children in
        let met = visits_met reach position kind in
        standing (spot_at section.cid depth position) (position_fault position kind) (and_then here (and_then below last)) (weight (node section kind children))
        (omega (arith, one, two, rest, met))

    children_given : (todo : List Visit) (depth : ℕ) (children : Children) → given (traverse_children todo depth children) ≤ todo_weight todo + weights children
    children_given todo depth no_child = omega arith
    children_given [] depth (with_child d children) = omega arith
    children_given (visit ∷ todo) depth (with_child d children) =
        let inside = λ (reach : Reach) (position : Position). traverse reach position depth d in
        let here = visited inside visit.into in
        let rest = traverse_children todo depth children in
        let one = then_given (giving_entries visit.met) (and_then here rest) in
        let two = then_given here rest in
        let into = going_in inside visit.into (weight d) (λ reach position. traverse_given reach position depth d) in
        let more = children_given todo depth children in
        omega (arith, one, two, into, more)

  alone_given : (depth : ℕ) (d : Dag) → given (block_alone depth d) ≤ weight d
  alone_given depth (unopened cid) = omega arith
  alone_given depth (bare section fault) = omega arith
  alone_given depth (node section kind children) = omega arith

  terminal_given : (scope : Scope) (span : Option SpanParts) (depth : ℕ) (d : Dag) → given (at_terminal scope span depth d) ≤ weight d
  terminal_given scopes.Block span depth d = alone_given depth d
  terminal_given scopes.Entity span depth d = traverse_given _ top depth d
  terminal_given scopes.All span depth d = traverse_given _ top depth d

  -- ---- along a path

  abbrev pub end_weight : PathEnd → ℕ
  end_weight (terminal d) = weight d
  end_weight (not_reached stop) = 0

  abbrev pub sections_weight : List Section → ℕ
  sections_weight [] = 0
  sections_weight (section ∷ sections) = u section + sections_weight sections

  abbrev pub walk_weight : PathWalk → ℕ
  walk_weight walk = sections_weight walk.sections + end_weight walk.end

  fitting : (section : Section) (spot : Spot) (fault : Option BlockFault) (walk : PathWalk) (most : ℕ) → walk_weight walk ≤ most
      → walk_weight (unless_misfit section spot fault walk) ≤ u section + most
  fitting section spot None walk most h = omega (arith, h)
  fitting section spot (Some fault) walk most h = omega arith

  stepped : (i : ℕ) (entry_walk child_walk : ℕ → PathWalk) (step : StepTo) (most : ℕ) → ((k : ℕ) → walk_weight (entry_walk k) ≤ most)
      → ((k : ℕ) → walk_weight (child_walk k) ≤ most) → walk_weight (walk_step i entry_walk child_walk step) ≤ most
  stepped i entry_walk child_walk (to_entry k) most e c = e k
  stepped i entry_walk child_walk (to_child k) most e c = c k
  stepped i entry_walk child_walk absent most e c = omega arith
  stepped i entry_walk child_walk not_folder_here most e c = omega arith

  mutual
    walk_given : (i : ℕ) (position : Position) (depth : ℕ) (path : List (List ℕ)) (d : Dag) → walk_weight (walk_from i position depth path d) ≤ weight d
    walk_given i position depth path (unopened cid) = omega arith
    walk_given i position depth [] (bare section fault) = omega arith
    walk_given i position depth (name ∷ path) (bare section None) = omega arith
    walk_given i position depth (name ∷ path) (bare section (Some fault)) = omega arith
    walk_given i position depth [] (node section kind children) = omega arith
    walk_given i position depth (name ∷ path) (node section kind children) =
        let step = stepped i (λ k. walk_child k (i + 1) top (depth + 1) path children)
        (λ k. walk_child k i (child_below position (slot_of name (length (passed position)))) (depth + 1) (name ∷ path) children)
        (step_of kind (length (passed position)) name) (weights children)
        (λ k. walked_child k (i + 1) top (depth + 1) path children)
        (λ k. walked_child k i (child_below position (slot_of name (length (passed position)))) (depth + 1) (name ∷ path) children) in
        let all = fitting section (spot_at section.cid depth position) (position_fault position kind) _ (weights children) step in
        omega (arith, all)

    walked_child : (k i : ℕ) (position : Position) (depth : ℕ) (path : List (List ℕ)) (children : Children)
        → walk_weight (walk_child k i position depth path children) ≤ weights children
    walked_child k i position depth path no_child = omega arith
    walked_child zero i position depth path (with_child d children) = let here = walk_given i position depth path d in omega (arith, here)
    walked_child (suc k) i position depth path (with_child d children) = let rest = walked_child k i position depth path children in omega (arith, rest)

  end_given : (end : PathEnd) (scope : Scope) (span : Option SpanParts) (depth : ℕ) → given (from_end end scope span depth) ≤ end_weight end
  end_given (terminal d) scope span depth = terminal_given scope span depth d
  end_given (not_reached stop) scope span depth = omega arith

  walked_places : (depth : ℕ) (sections : List Section) → places_weight (walk_places depth sections) ≤ sections_weight sections
  walked_places depth [] = omega arith
  walked_places depth (section ∷ sections) = let rest = walked_places (depth + 1) sections in omega (arith, rest)

  pub traversal_given : (q : QueryParts) (d : Dag) → given (traversal q d) ≤ weight d
  traversal_given q d =
      let walk = path_walk q.path d in
      let below = from_end walk.end q.scope q.span (length walk.sections + 1) in
      let both = places_both (walk_places 1 walk.sections) below.places in
      let places = walked_places 1 walk.sections in
      let rest = end_given walk.end q.scope q.span (length walk.sections + 1) in
      let all = walk_given 0 top 1 q.path d in
      omega (arith, both, places, rest, all)
