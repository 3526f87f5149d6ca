-- A traversal below a whole and checked node comes through, whatever is asked of it.
use Rattle.std.proofs.Common.{◌≡◌, Option, Some, None, List, [], ◌∷◌, ℕ, ◌+◌, refl, sym, subst}
use Rattle.tg_model_laws.proofs.VisitPlaces.{visits_stand}
use Rattle.tg_model_laws.specs.Standing.{Each, Stands}
use Rattle.tg_model.specs.Dag.{AreWhole, Dag, IsWhole, Children, bare, with_child, no_child, node, unopened}
use Rattle.tg_model.specs.PathWalk.{Spot, TraversalEnd, spot_at, whole}
use Rattle.tg_model.specs.Sound.{AreCheckedAt, IsCheckedAt, Position, position_fault, positions}
use Rattle.tg_model.specs.Traversal.{Reach, Traversal, Visit, after_end, giving_text, text_behind, traverse, traverse_children, unless_bad, visited, visits}
use Rattle.tg_model.specs.declared.fault.BlockFault.{BlockFault}

-- behind a traversal that came through another comes through, with the first's end as a variable
after_whole : (end : TraversalEnd) (a b : Traversal) → end ≡ whole → b.end ≡ whole → (after_end end a b).end ≡ whole
after_whole whole a b e w = w
after_whole other a b e w = cc

-- a node that may stand there comes through
unless_whole : (spot : Spot) (fault : Option BlockFault) (t : Traversal) → fault ≡ None → t.end ≡ whole → (unless_bad spot fault t).end ≡ whole
unless_whole spot None t e w = w
unless_whole spot (Some fault) t e w = cc

-- a child that is gone into at its position comes through, and one that is passed over too
visited_whole : (into : Option (Reach × Position)) (position : Position) (inside : Reach → Position → Traversal) → Stands into position
    → ((reach : Reach) → (inside reach position).end ≡ whole) → (visited inside into).end ≡ whole
visited_whole None position inside stands here = refl
visited_whole (Some into) position inside stands here =
    subst (λ (p : Position). (inside into.0 p).end ≡ whole) (sym stands) (here into.0)

mutual
  -- a traversal below a node comes through
  pub traverse-whole : (reach : Reach) (position : Position) (depth : ℕ) (d : Dag) → IsWhole d → IsCheckedAt position d → (traverse reach position depth d).end ≡ whole
  traverse-whole reach position depth (unopened cid) w h = absurd w
  traverse-whole reach position depth (bare section fault) w h = absurd w
  traverse-whole reach position depth (node section kind children) w h =
      let inside : Traversal = traverse_children (visits reach position kind) (depth + 1) children in
      unless_whole (spot_at section.cid depth position) (position_fault position kind) _ h.0.stands
      (after_whole inside.end inside (giving_text (text_behind reach kind))
      (traverse_children-whole (visits reach position kind) (positions position kind) (depth + 1) children (visits_stand reach position kind) w h.1) refl)

  -- and so does one of children that are gone into at their positions
  traverse_children-whole : (todo : List Visit) (places : List Position) (depth : ℕ) (children : Children) → Each Stands todo places → AreWhole children → AreCheckedAt places children
      → (traverse_children todo depth children).end ≡ whole
  traverse_children-whole todo places depth no_child stand w h = refl
  traverse_children-whole [] places depth (with_child d children) stand w h = refl
  traverse_children-whole (visit ∷ todo) [] depth (with_child d children) stand w h = absurd h
  traverse_children-whole (visit ∷ todo) (place ∷ places) depth (with_child d children) stand w h =
      let inside : Traversal = visited (λ reach position. traverse reach position depth d) visit.into in
      after_whole inside.end inside (traverse_children todo depth children)
      (visited_whole visit.into place (λ reach position. traverse reach position depth d) stand.0 (λ reach. traverse-whole reach place depth d w.0 h.0))
      (traverse_children-whole todo places depth children stand.1 w.1 h.1)
