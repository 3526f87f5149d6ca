-- Where a path leads to a terminal, the traversal stops at none of its segments.
use Rattle.std.proofs.Common.{List, None, Option, Some, [], ap, length, subst, sym, ℕ, ◌+◌, ◌∷◌, ◌≡◌}
use Rattle.std.specs.Prelude.{IfSome, IsSome}
use Rattle.tg_export.specs.Cars.{HasResolved}
use Rattle.tg_model.specs.Dag.{Children, Dag, Section, bare, no_child, node, unopened, with_child}
use Rattle.tg_model.specs.PathWalk.{PathEnd, Spot, Stop, TraversalEnd, path_walk, spot_at, stopped, terminal, whole}
use Rattle.tg_model.specs.Queries.{QueryParts, SpanParts}
use Rattle.tg_model.specs.Sound.{Position, position_fault, top}
use Rattle.tg_model.specs.StoreView.{store_view}
use Rattle.tg_model.specs.Stores.{Store}
use Rattle.tg_model.specs.Traversal.{Reach, Traversal, Visit, after_end, and_then, at_terminal, from_end, giving_entries, giving_place, giving_text, text_before, text_behind, traversal, traverse, traverse_children, unless_bad, visited, visits}
use Rattle.tg_model.specs.declared.fault.BlockFault.{BlockFault}
use Rattle.tg_model.specs.declared.queries.Scope.{Scope}
use Rattle.tg_model.specs.declared.queries.Scope.TheVariants as scopes
use Rattle.tg_model_laws.specs.Openings.{IsAtBlock, IsAtPlace}
use Rattle.tg_store.specs.AttachedPacks.{IsAttachedIn}
use Rattle.tg_walk.specs.Walks.{HasEnded, max_depth}

-- ---- below a terminal

-- a traversal comes through, or stops at a block
abbrev EndsAtPlace : Traversal → Type 0
EndsAtPlace t = IsAtPlace t.end

both_at_place : (end : TraversalEnd) (a b : Traversal) → EndsAtPlace a → EndsAtPlace b → EndsAtPlace (after_end end a b)
both_at_place whole a b h g = g
both_at_place (stopped stop) a b h g = h

unless_at_place : (spot : Spot) (fault : Option BlockFault) (t : Traversal) → EndsAtPlace t → EndsAtPlace (unless_bad spot fault t)
unless_at_place spot None t h = h
unless_at_place spot (Some fault) t h = tt

visited_at_place : (into : Option (Reach × Position)) (depth : ℕ) (d : Dag) → ((reach : Reach) (position : Position) → EndsAtPlace (traverse reach position depth d))
    → EndsAtPlace (visited (λ reach position. traverse reach position depth d) into)
visited_at_place None depth d h = tt
visited_at_place (Some into) depth d h = h into.0 into.1

mutual
  node_at_place : (reach : Reach) (position : Position) (depth : ℕ) (d : Dag) → EndsAtPlace (traverse reach position depth d)
  node_at_place reach position depth (unopened cid) = tt
  node_at_place reach position depth (bare section None) = tt
  node_at_place reach position depth (bare section (Some fault)) = tt
  node_at_place reach position depth (node section kind children) =
      let here : Traversal = giving_place (record { section = section; depth = depth }) (text_before reach position section kind) in
      let below : Traversal = traverse_children (visits reach position kind) (depth + 1) children in
      let behind : Traversal = giving_text (text_behind reach kind) in
      unless_at_place (spot_at section.cid depth position) (position_fault position kind) (and_then here (and_then below behind))
      (both_at_place whole here (and_then below behind) tt (both_at_place below.end below behind (children_at_place (visits reach position kind) (depth + 1) children) tt))

  children_at_place : (todo : List Visit) (depth : ℕ) (children : Children) → EndsAtPlace (traverse_children todo depth children)
  children_at_place todo depth no_child = tt
  children_at_place [] depth (with_child d children) = tt
  children_at_place (visit ∷ todo) depth (with_child d children) =
      let met : Traversal = giving_entries visit.met in
      let inside : Traversal = visited (λ reach position. traverse reach position depth d) visit.into in
      let rest : Traversal = traverse_children todo depth children in
      both_at_place whole met (and_then inside rest) tt
      (both_at_place inside.end inside rest (visited_at_place visit.into depth d (λ reach position. node_at_place reach position depth d)) (children_at_place todo depth children))

terminal_at_place : (scope : Scope) (span : Option SpanParts) (depth : ℕ) (t : Dag) → EndsAtPlace (at_terminal scope span depth t)
terminal_at_place scopes.Block span depth (unopened cid) = tt
terminal_at_place scopes.Block span depth (bare section fault) = tt
terminal_at_place scopes.Block span depth (node section kind children) = tt
terminal_at_place scopes.Entity span depth t = node_at_place _ top depth t
terminal_at_place scopes.All span depth t = node_at_place _ top depth t

-- ---- on the way to it

at_block : (q : QueryParts) (d t : Dag) (stop : Stop) → (path_walk q.path d).end ≡ terminal t → (traversal q d).end ≡ stopped stop → IsAtBlock stop
at_block q d t stop leads ends =
    let depth : ℕ = length (path_walk q.path d).sections + 1 in
    let place : EndsAtPlace (traversal q d) =
    subst (λ (end : PathEnd). EndsAtPlace (from_end end q.scope q.span depth)) (sym leads) (terminal_at_place q.scope q.span depth t) in
    subst IsAtPlace ends place

-- a walk over a store that has the path's terminal stops at a block
walk_at_block : (q : QueryParts) (store : Store) (sections : List Section) (stop : Stop) → HasResolved store q → HasEnded q store max_depth sections (stopped stop) → IsAtBlock stop
walk_at_block q store sections stop resolved ended =
    at_block q (store_view store q.root) resolved.leads.d stop resolved.leads.end (ap (λ (t : Traversal). t.end) ended.ends.full)

-- ---- of a pack that tells its content

-- a walk over what it holds doesn't have the path's terminal and stop at one of its segments
pub no_segment : (q : QueryParts) (sections : List Section) (stop : Stop) (content : Option (List ℕ)) (told : Option Store) → (IsAtBlock stop → ⊥) → IsSome content → IsAttachedIn content told
    → IfSome told (λ store. HasResolved store q × HasEnded q store max_depth sections (stopped stop)) → ⊥
no_segment q sections stop None told at some attached so = absurd (cc some)
no_segment q sections stop (Some bytes) None at some attached so = attached
no_segment q sections stop (Some bytes) (Some store) at some attached so = at (walk_at_block q store sections stop so.0 so.1)
