-- A traversal that is cut at a depth, beside the whole one.
use Rattle.std.proofs.Common.{◌≡◌, ◌⊎◌, ℕ, zero, suc, ◌+◌, ◌<◌, ◌≤◌, Bool, All, List, [], ◌∷◌, ◌++◌, None, Option, Some, cond, inl, inr, length, refl, sym, ap, ap₂, subst, ◌∙◌, arith, zero-add}
use Rattle.std.specs.Prelude.{nat_lt}
use Rattle.std.proofs.lemmas.Bool.{cases_lt, le-ltb, lt-ltb}
use Rattle.std.proofs.lemmas.List.Elements.{All-append, All-cons, All-head, All-nil, All-tail}
use Rattle.tg_model_laws.specs.Depths.{children_down_to, down_to}
use Rattle.tg_model.specs.Dag.{Children, Dag, Section, bare, no_child, node, unopened, with_child}
use Rattle.tg_model.specs.PathWalk.{PathWalk, child_below, not_folder, not_there, step_of, stopped_at, Spot, Stop, StepTo, TraversalEnd, bad_block, behind, gone, spot_at, stopped, terminal, to_child, to_entry, absent, not_folder_here, unless_misfit, walk_child, walk_from, walk_step, whole}
use Rattle.tg_model.specs.Queries.{SpanParts}
use Rattle.tg_model.specs.declared.queries.Scope.{Scope}
use Rattle.tg_model.specs.declared.queries.Scope.TheVariants as scopes
use Rattle.tg_model.specs.Sound.{Position, passed, position_fault, top}
use Rattle.tg_model.specs.Traversal.{Place, Reach, Traversal, Visit, after_end, all_reach, entire, entity_reach, and_then, at_terminal, ended, from_end, giving_entries, giving_place, giving_text, text_before, text_behind, traversal, traverse, traverse_children, unless_bad, visited, visits, walk_places}
use Rattle.tg_model.specs.declared.fault.BlockFault.{BlockFault}
use Rattle.tg_model.specs.declared.kinds.Kind.{Kind}
use Rattle.tg_murmur.specs.NameHash.{slot_of}
use Rattle.tg_reply.specs.Cutting.{CutsBeforeDeeper, IsCutBefore, IsGoneDeeper, before_deeper}

module _ (most : ℕ) where
  abbrev Within : List Place → Type 0
  Within places = All (λ (p : Place). p.depth ≤ most) places

  -- some place is deeper
  abbrev Deeper : List Place → Type 0
  Deeper [] = ⊥
  Deeper (p ∷ places) = (most < p.depth) ⊎ Deeper places

  -- both come through, with the same places; or the cut one stops, and the other does or has a deeper place: it stops alike,
  -- or the cut one stops where a deeper block is wanted
  record Through (t u : Traversal) : Type 0 where
    cut : t.end ≡ whole
    full : u.end ≡ whole
    places : t.places ≡ u.places
    within : Within u.places

  record Stops (t u : Traversal) : Type 0 where
    stop : Stop
    cut : t.end ≡ stopped stop
    places : t.places ≡ before_deeper most u.places
    full : ((s : Stop) × (u.end ≡ stopped s)) ⊎ Deeper u.places
    ends : (u.end ≡ stopped stop) ⊎ IsGoneDeeper most (stopped stop)

  abbrev Beside : Traversal → Traversal → Type 0
  Beside t u = Through t u ⊎ Stops t u

  -- ---- places

  deeper_first : (p : Place) (places : List Place) → most < p.depth → before_deeper most (p ∷ places) ≡ []
  deeper_first p places h = ap (λ (b : Bool). cond b [] (p ∷ before_deeper most places)) (lt-ltb most p.depth h)

  within_first : (p : Place) (places : List Place) → p.depth ≤ most → before_deeper most (p ∷ places) ≡ p ∷ before_deeper most places
  within_first p places h = ap (λ (b : Bool). cond b [] (p ∷ before_deeper most places)) (le-ltb most p.depth h)

  within_all : (places more : List Place) → Within places → before_deeper most (places ++ more) ≡ places ++ before_deeper most more
  within_all [] more w = refl
  within_all (p ∷ places) more w =
      within_first p (places ++ more) (All-head (λ (p : Place). p.depth ≤ most) p places w)
      ∙ ap (λ (l : List Place). p ∷ l) (within_all places more (All-tail (λ (p : Place). p.depth ≤ most) p places w))

  deeper_stays : (places more : List Place) → Deeper places → before_deeper most (places ++ more) ≡ before_deeper most places
  deeper_stays [] more d = absurd d
  deeper_stays (p ∷ places) more (inl h) = deeper_first p (places ++ more) h ∙ sym (deeper_first p places h)
  deeper_stays (p ∷ places) more (inr h) =
      ap (λ (l : List Place). cond (nat_lt most p.depth) [] (p ∷ l)) (deeper_stays places more h)

  deeper_append : (places more : List Place) → Deeper places → Deeper (places ++ more)
  deeper_append [] more d = absurd d
  deeper_append (p ∷ places) more (inl h) = inl h
  deeper_append (p ∷ places) more (inr h) = inr (deeper_append places more h)

  deeper_behind : (places more : List Place) → Deeper more → Deeper (places ++ more)
  deeper_behind [] more d = d
  deeper_behind (p ∷ places) more d = inr (deeper_behind places more d)

  deeper_not_within : (places : List Place) → Deeper places → Within places → ⊥
  deeper_not_within [] d w = d
  deeper_not_within (p ∷ places) (inl h) w = omega (arith, h, All-head (λ (p : Place). p.depth ≤ most) p places w)
  deeper_not_within (p ∷ places) (inr h) w = deeper_not_within places h (All-tail (λ (p : Place). p.depth ≤ most) p places w)

  -- ---- one behind another

  then_through : (a b : Traversal) → a.end ≡ whole → (and_then a b).places ≡ a.places ++ b.places
  then_through a b e = ap (λ (x : TraversalEnd). (after_end x a b).places) e

  then_end : (a b : Traversal) → a.end ≡ whole → (and_then a b).end ≡ b.end
  then_end a b e = ap (λ (x : TraversalEnd). (after_end x a b).end) e

  then_stops : (a b : Traversal) (s : Stop) → a.end ≡ stopped s → and_then a b ≡ a
  then_stops a b s e = ap (λ (x : TraversalEnd). after_end x a b) e

  both : (a b u v : Traversal) → Beside a u → Beside b v → Beside (and_then a b) (and_then u v)
  both a b u v (inl h) (inl k) = inl (record {
    cut = then_end a b h.cut ∙ k.cut;
    full = then_end u v h.full ∙ k.full;
    places = then_through a b h.cut ∙ ap₂ (λ (x y : List Place). x ++ y) h.places k.places ∙ sym (then_through u v h.full);
    within = subst Within (sym (then_through u v h.full)) (All-append (λ (p : Place). p.depth ≤ most) u.places v.places h.within k.within);
  })
  both a b u v (inl h) (inr k) = inr (record {
    stop = k.stop;
    cut = then_end a b h.cut ∙ k.cut;
    places =
        then_through a b h.cut ∙ ap₂ (λ (x y : List Place). x ++ y) h.places k.places ∙ sym (within_all u.places v.places h.within)
        ∙ ap (before_deeper most) (sym (then_through u v h.full));
    full = by_full k.full;
    ends = by_ends k.ends;
  })
    where
      by_ends : (v.end ≡ stopped k.stop) ⊎ IsGoneDeeper most (stopped k.stop) → ((and_then u v).end ≡ stopped k.stop) ⊎ IsGoneDeeper most (stopped k.stop)
      by_ends (inl e) = inl (then_end u v h.full ∙ e)
      by_ends (inr g) = inr g

      by_full : ((s : Stop) × (v.end ≡ stopped s)) ⊎ Deeper v.places → ((s : Stop) × ((and_then u v).end ≡ stopped s)) ⊎ Deeper (and_then u v).places
      by_full (inl e) = inl (e.0, then_end u v h.full ∙ e.1)
      by_full (inr d) = inr (subst Deeper (sym (then_through u v h.full)) (deeper_behind u.places v.places d))
  both a b u v (inr h) k = inr (by_full h.full)
    where
      still : and_then a b ≡ a
      still = then_stops a b h.stop h.cut

      -- the whole one that stops alike stops so whatever follows
      by_ends : (u.end ≡ stopped h.stop) ⊎ IsGoneDeeper most (stopped h.stop) → ((and_then u v).end ≡ stopped h.stop) ⊎ IsGoneDeeper most (stopped h.stop)
      by_ends (inl e) = inl (ap (λ (t : Traversal). t.end) (then_stops u v h.stop e) ∙ e)
      by_ends (inr g) = inr g

      by_end : (e : TraversalEnd) → u.end ≡ e → Deeper u.places → Stops (and_then a b) (and_then u v)
      by_end whole e d = record {
        stop = h.stop;
        cut = ap (λ (t : Traversal). t.end) still ∙ h.cut;
        places =
            ap (λ (t : Traversal). t.places) still ∙ h.places ∙ sym (deeper_stays u.places v.places d)
            ∙ ap (before_deeper most) (sym (then_through u v e));
        full = inr (subst Deeper (sym (then_through u v e)) (deeper_append u.places v.places d));
        ends = by_ends h.ends;
      }
      by_end (stopped s) e d = record {
        stop = h.stop;
        cut = ap (λ (t : Traversal). t.end) still ∙ h.cut;
        places = ap (λ (t : Traversal). t.places) still ∙ h.places ∙ ap (λ (t : Traversal). before_deeper most t.places) (sym (then_stops u v s e));
        full = inl (s, ap (λ (t : Traversal). t.end) (then_stops u v s e) ∙ e);
        ends = by_ends h.ends;
      }

      by_full : ((s : Stop) × (u.end ≡ stopped s)) ⊎ Deeper u.places → Stops (and_then a b) (and_then u v)
      by_full (inl e) = record {
        stop = h.stop;
        cut = ap (λ (t : Traversal). t.end) still ∙ h.cut;
        places = ap (λ (t : Traversal). t.places) still ∙ h.places ∙ ap (λ (t : Traversal). before_deeper most t.places) (sym (then_stops u v e.0 e.1));
        full = inl (e.0, ap (λ (t : Traversal). t.end) (then_stops u v e.0 e.1) ∙ e.1);
        ends = by_ends h.ends;
      }
      by_full (inr d) = by_end u.end refl d

  -- ---- a traversal of a node and of its children

  text_through : (text : List ℕ) → Beside (giving_text text) (giving_text text)
  text_through text = inl (record { cut = refl; full = refl; places = refl; within = All-nil (λ (p : Place). p.depth ≤ most) })

  -- both stop at once, alike; or the cut one where a deeper block is wanted
  at_once : (s : Stop) → Beside (ended s) (ended s)
  at_once s = inr (record { stop = s; cut = refl; places = refl; full = inl (s, refl); ends = inl refl })

  at_deeper : (s t : Stop) → IsGoneDeeper most (stopped s) → Beside (ended s) (ended t)
  at_deeper s t g = inr (record { stop = s; cut = refl; places = refl; full = inl (t, refl); ends = inr g })

  place_within : (p : Place) (text : List ℕ) → p.depth ≤ most → Beside (giving_place p text) (giving_place p text)
  place_within p text h =
      inl (record { cut = refl; full = refl; places = refl; within = All-cons (λ (p : Place). p.depth ≤ most) p [] h (All-nil (λ (p : Place). p.depth ≤ most)) })

  -- a deeper place, and whatever follows it
  place_deeper : (s : Stop) (p : Place) (text : List ℕ) (more : Traversal) → IsGoneDeeper most (stopped s) → most < p.depth
      → Beside (ended s) (and_then (giving_place p text) more)
  place_deeper s p text more g h =
      inr (record { stop = s; cut = refl; places = sym (deeper_first p more.places h); full = inr (inl h); ends = inr g })

  unless_both : (spot : Spot) (fault : Option BlockFault) (t u : Traversal) → Beside t u → Beside (unless_bad spot fault t) (unless_bad spot fault u)
  unless_both spot None t u h = h
  unless_both spot (Some fault) t u h = at_once (bad_block spot fault)

  unless_deeper : (s : Stop) (spot : Spot) (fault : Option BlockFault) (p : Place) (text : List ℕ) (more : Traversal) → IsGoneDeeper most (stopped s) → most < p.depth
      → Beside (ended s) (unless_bad spot fault (and_then (giving_place p text) more))
  unless_deeper s spot None p text more g h = place_deeper s p text more g h
  unless_deeper s spot (Some fault) p text more g h = at_deeper s (bad_block spot fault) g

  entries_through : (visit : Visit) → Beside (giving_entries visit.met) (giving_entries visit.met)
  entries_through visit = inl (record { cut = refl; full = refl; places = refl; within = All-nil (λ (p : Place). p.depth ≤ most) })

  -- a DAG that is deeper is told as an unopened one
  deeper_bare : (depth : ℕ) (section : Section) (fault : Option BlockFault) → most < depth → down_to most depth (bare section fault) ≡ unopened section.cid
  deeper_bare depth section fault h = ap (λ (b : Bool). cond b (unopened section.cid) (bare section fault)) (lt-ltb most depth h)

  within_bare : (depth : ℕ) (section : Section) (fault : Option BlockFault) → depth ≤ most → down_to most depth (bare section fault) ≡ bare section fault
  within_bare depth section fault h = ap (λ (b : Bool). cond b (unopened section.cid) (bare section fault)) (le-ltb most depth h)

  deeper_node : (depth : ℕ) (section : Section) (kind : Kind) (children : Children) → most < depth → down_to most depth (node section kind children) ≡ unopened section.cid
  deeper_node depth section kind children h =
      ap (λ (b : Bool). cond b (unopened section.cid) (node section kind (children_down_to most (depth + 1) children))) (lt-ltb most depth h)

  within_node : (depth : ℕ) (section : Section) (kind : Kind) (children : Children) → depth ≤ most
      → down_to most depth (node section kind children) ≡ node section kind (children_down_to most (depth + 1) children)
  within_node depth section kind children h =
      ap (λ (b : Bool). cond b (unopened section.cid) (node section kind (children_down_to most (depth + 1) children))) (le-ltb most depth h)

  -- a bare block stops, opened or not
  bare_traversed : (reach : Reach) (position : Position) (depth : ℕ) (section : Section) (fault : Option BlockFault) (d : Dag)
      → ((most < depth) × (d ≡ unopened section.cid)) ⊎ (d ≡ bare section fault) → Beside (traverse reach position depth d) (traverse reach position depth (bare section fault))
  bare_traversed reach position depth section None d (inl (h, e)) =
      subst (λ (x : Dag). Beside (traverse reach position depth x) (traverse reach position depth (bare section None))) (sym e)
      (at_once (gone (spot_at section.cid depth position)))
  bare_traversed reach position depth section None d (inr e) =
      subst (λ (x : Dag). Beside (traverse reach position depth x) (traverse reach position depth (bare section None))) (sym e)
      (at_once (gone (spot_at section.cid depth position)))
  bare_traversed reach position depth section (Some fault) d (inl (h, e)) =
      subst (λ (x : Dag). Beside (traverse reach position depth x) (traverse reach position depth (bare section (Some fault)))) (sym e)
      (at_deeper (gone (spot_at section.cid depth position)) (bad_block (spot_at section.cid depth position) fault) h)
  bare_traversed reach position depth section (Some fault) d (inr e) =
      subst (λ (x : Dag). Beside (traverse reach position depth x) (traverse reach position depth (bare section (Some fault)))) (sym e)
      (at_once (bad_block (spot_at section.cid depth position) fault))

  told_bare : (depth : ℕ) (section : Section) (fault : Option BlockFault)
      → ((most < depth) × (down_to most depth (bare section fault) ≡ unopened section.cid)) ⊎ (down_to most depth (bare section fault) ≡ bare section fault)
  told_bare depth section fault = by_depth (cases_lt most depth)
    where
      by_depth : (most < depth) ⊎ (depth ≤ most)
          → ((most < depth) × (down_to most depth (bare section fault) ≡ unopened section.cid)) ⊎ (down_to most depth (bare section fault) ≡ bare section fault)
      by_depth (inl h) = inl (h, deeper_bare depth section fault h)
      by_depth (inr h) = inr (within_bare depth section fault h)

  visited_both : (depth : ℕ) (d : Dag) (into : Option (Reach × Position))
      → ((reach : Reach) (position : Position) → Beside (traverse reach position depth (down_to most depth d)) (traverse reach position depth d))
      → Beside (visited (λ reach position. traverse reach position depth (down_to most depth d)) into) (visited (λ reach position. traverse reach position depth d) into)
  visited_both depth d None h = text_through []
  visited_both depth d (Some visit) h = h visit.0 visit.1

  by_depth : (reach : Reach) (position : Position) (depth : ℕ) (section : Section) (kind : Kind) (children : Children) → (most < depth) ⊎ (depth ≤ most)
      → Beside (traverse_children (visits reach position kind) (depth + 1) (children_down_to most (depth + 1) children)) (traverse_children (visits reach position kind) (depth + 1) children)
      → Beside (traverse reach position depth (down_to most depth (node section kind children))) (traverse reach position depth (node section kind children))
  by_depth reach position depth section kind children (inl h) below =
      subst (λ (x : Dag). Beside (traverse reach position depth x) (traverse reach position depth (node section kind children))) (sym (deeper_node depth section kind children h))
      (unless_deeper (gone (spot_at section.cid depth position)) (spot_at section.cid depth position) (position_fault position kind) (record { section = section; depth = depth })
      (text_before reach position section kind) (and_then (traverse_children (visits reach position kind) (depth + 1) children) (giving_text (text_behind reach kind))) h h)
  by_depth reach position depth section kind children (inr h) below =
      let first = giving_place (record { section = section; depth = depth }) (text_before reach position section kind) in
      let cut = traverse_children (visits reach position kind) (depth + 1) (children_down_to most (depth + 1) children) in
      let full = traverse_children (visits reach position kind) (depth + 1) children in
      let last = giving_text (text_behind reach kind) in
      subst (λ (x : Dag). Beside (traverse reach position depth x) (traverse reach position depth (node section kind children))) (sym (within_node depth section kind children h))
      (unless_both (spot_at section.cid depth position) (position_fault position kind) (and_then first (and_then cut last)) (and_then first (and_then full last))
      (both first (and_then cut last) first (and_then full last) (place_within (record { section = section; depth = depth }) (text_before reach position section kind) h)
      (both cut last full last below (text_through (text_behind reach kind)))))

  mutual
    traversed : (reach : Reach) (position : Position) (depth : ℕ) (d : Dag) → Beside (traverse reach position depth (down_to most depth d)) (traverse reach position depth d)
    traversed reach position depth (unopened cid) = at_once (gone (spot_at cid depth position))
    traversed reach position depth (bare section fault) =
        bare_traversed reach position depth section fault (down_to most depth (bare section fault)) (told_bare depth section fault)
    traversed reach position depth (node section kind children) =
        by_depth reach position depth section kind children (cases_lt most depth) (children_traversed (visits reach position kind) (depth + 1) children)

    children_traversed : (todo : List Visit) (depth : ℕ) (children : Children)
        → Beside (traverse_children todo depth (children_down_to most depth children)) (traverse_children todo depth children)
    children_traversed todo depth no_child = text_through []
    children_traversed [] depth (with_child d children) = text_through []
    children_traversed (visit ∷ todo) depth (with_child d children) =
        both (giving_entries visit.met)
        (and_then (visited (λ reach position. traverse reach position depth (down_to most depth d)) visit.into) (traverse_children todo depth (children_down_to most depth children)))
        (giving_entries visit.met)
        (and_then (visited (λ reach position. traverse reach position depth d) visit.into) (traverse_children todo depth children))
        (entries_through visit)
        (both (visited (λ reach position. traverse reach position depth (down_to most depth d)) visit.into) (traverse_children todo depth (children_down_to most depth children))
        (visited (λ reach position. traverse reach position depth d) visit.into) (traverse_children todo depth children)
        (visited_both depth d visit.into (λ reach position. traversed reach position depth d)) (children_traversed todo depth children))

  -- ---- the terminal

  -- beside what stops at once another may stand that stops where a deeper block is wanted
  any_stop : (s t : Stop) (u : Traversal) → IsGoneDeeper most (stopped t) → Beside (ended s) u → Beside (ended t) u
  any_stop s t u g (inl h) = let none : stopped s ≡ whole = h.cut in absurd cc
  any_stop s t u g (inr h) = inr (record { stop = t; cut = refl; places = h.places; full = h.full; ends = inr g })

  alone_deeper : (s : Stop) (p : Place) (text : List ℕ) → IsGoneDeeper most (stopped s) → most < p.depth → Beside (ended s) (giving_place p text)
  alone_deeper s p text g h =
      inr (record { stop = s; cut = refl; places = sym (deeper_first p [] h); full = inr (inl h); ends = inr g })

  bare_terminal : (scope : Scope) (span : Option SpanParts) (depth : ℕ) (section : Section) (fault : Option BlockFault) → depth ≤ most
      → Beside (at_terminal scope span depth (bare section fault)) (at_terminal scope span depth (bare section fault))
  bare_terminal scopes.Block span depth section fault h = place_within (record { section = section; depth = depth }) section.block h
  bare_terminal scopes.Entity span depth section fault h = bare_traversed entire top depth section fault (bare section fault) (inr refl)
  bare_terminal scopes.All span depth section fault h = bare_traversed entire top depth section fault (bare section fault) (inr refl)

  bare_terminal_deeper : (scope : Scope) (span : Option SpanParts) (depth : ℕ) (section : Section) (fault : Option BlockFault) (s : Stop) → IsGoneDeeper most (stopped s) → most < depth
      → Beside (ended s) (at_terminal scope span depth (bare section fault))
  bare_terminal_deeper scopes.Block span depth section fault s g h = alone_deeper s (record { section = section; depth = depth }) section.block g h
  bare_terminal_deeper scopes.Entity span depth section fault s g h =
      any_stop (gone (spot_at section.cid depth top)) s (traverse entire top depth (bare section fault)) g (bare_traversed entire top depth section fault (unopened section.cid) (inl (h, refl)))
  bare_terminal_deeper scopes.All span depth section fault s g h =
      any_stop (gone (spot_at section.cid depth top)) s (traverse entire top depth (bare section fault)) g (bare_traversed entire top depth section fault (unopened section.cid) (inl (h, refl)))

  node_reached : (reach : Reach) (depth : ℕ) (section : Section) (kind : Kind) (children : Children) → depth ≤ most
      → Beside (traverse reach top depth (node section kind (children_down_to most (depth + 1) children))) (traverse reach top depth (node section kind children))
  node_reached reach depth section kind children h =
      subst (λ (x : Dag). Beside (traverse reach top depth x) (traverse reach top depth (node section kind children))) (within_node depth section kind children h)
      (traversed reach top depth (node section kind children))

  node_terminal : (scope : Scope) (span : Option SpanParts) (depth : ℕ) (section : Section) (kind : Kind) (children : Children) → depth ≤ most
      → Beside (at_terminal scope span depth (node section kind (children_down_to most (depth + 1) children))) (at_terminal scope span depth (node section kind children))
  node_terminal scopes.Block span depth section kind children h = place_within (record { section = section; depth = depth }) section.block h
  node_terminal scopes.Entity span depth section kind children h = node_reached (entity_reach span section kind) depth section kind children h
  node_terminal scopes.All span depth section kind children h = node_reached (all_reach kind) depth section kind children h

  node_missed : (reach : Reach) (depth : ℕ) (section : Section) (kind : Kind) (children : Children) (s : Stop) → IsGoneDeeper most (stopped s) → most < depth
      → Beside (ended s) (traverse reach top depth (node section kind children))
  node_missed reach depth section kind children s g h =
      any_stop (gone (spot_at section.cid depth top)) s (traverse reach top depth (node section kind children)) g
      (subst (λ (x : Dag). Beside (traverse reach top depth x) (traverse reach top depth (node section kind children))) (deeper_node depth section kind children h)
      (traversed reach top depth (node section kind children)))

  node_terminal_deeper : (scope : Scope) (span : Option SpanParts) (depth : ℕ) (section : Section) (kind : Kind) (children : Children) (s : Stop) → IsGoneDeeper most (stopped s) → most < depth
      → Beside (ended s) (at_terminal scope span depth (node section kind children))
  node_terminal_deeper scopes.Block span depth section kind children s g h = alone_deeper s (record { section = section; depth = depth }) section.block g h
  node_terminal_deeper scopes.Entity span depth section kind children s g h = node_missed (entity_reach span section kind) depth section kind children s g h
  node_terminal_deeper scopes.All span depth section kind children s g h = node_missed (all_reach kind) depth section kind children s g h

  -- ---- the path

  -- a walk from a depth on, and what is asked for at its end
  abbrev walked : Scope → Option SpanParts → ℕ → PathWalk → Traversal
  walked scope span depth walk =
      let below = from_end walk.end scope span (length walk.sections + depth) in
      record { places = walk_places depth walk.sections ++ below.places; text = below.text; met = below.met; end = below.end }

  alike : (t t' u u' : Traversal) → t.places ≡ t'.places → t.end ≡ t'.end → u.places ≡ u'.places → u.end ≡ u'.end → Beside t u → Beside t' u'
  alike t t' u u' tp te up ue (inl h) =
      inl (record { cut = sym te ∙ h.cut; full = sym ue ∙ h.full; places = sym tp ∙ h.places ∙ up; within = subst Within up h.within })
  alike t t' u u' tp te up ue (inr h) =
      inr (record { stop = h.stop; cut = sym te ∙ h.cut; places = sym tp ∙ h.places ∙ ap (before_deeper most) up; full = by_full h.full; ends = by_ends h.ends })
    where
      by_ends : (u.end ≡ stopped h.stop) ⊎ IsGoneDeeper most (stopped h.stop) → (u'.end ≡ stopped h.stop) ⊎ IsGoneDeeper most (stopped h.stop)
      by_ends (inl e) = inl (sym ue ∙ e)
      by_ends (inr g) = inr g

      by_full : ((s : Stop) × (u.end ≡ stopped s)) ⊎ Deeper u.places → ((s : Stop) × (u'.end ≡ stopped s)) ⊎ Deeper u'.places
      by_full (inl e) = inl (e.0, sym ue ∙ e.1)
      by_full (inr d) = inr (subst Deeper up d)

  module _ (scope : Scope) (span : Option SpanParts) where
    both_stop : (depth : ℕ) (s : Stop) → Beside (walked scope span depth (stopped_at s)) (walked scope span depth (stopped_at s))
    both_stop depth s = inr (record { stop = s; cut = refl; places = refl; full = inl (s, refl); ends = inl refl })

    stop_deeper : (depth : ℕ) (s t : Stop) → IsGoneDeeper most (stopped s) → Beside (walked scope span depth (stopped_at s)) (walked scope span depth (stopped_at t))
    stop_deeper depth s t g = inr (record { stop = s; cut = refl; places = refl; full = inl (t, refl); ends = inr g })

    -- a section before a walk is a place before it
    behind_places : (depth : ℕ) (section : Section) (walk : PathWalk)
        → (walked scope span depth (behind section walk)).places ≡ record { section = section; depth = depth } ∷ (walked scope span (depth + 1) walk).places
    behind_places depth section walk =
        let count : suc (length walk.sections) + depth ≡ length walk.sections + (depth + 1) = omega arith in
        ap (λ (n : ℕ). record { section = section; depth = depth } ∷ (walk_places (depth + 1) walk.sections ++ (from_end walk.end scope span n).places)) count

    behind_end : (depth : ℕ) (section : Section) (walk : PathWalk) → (walked scope span depth (behind section walk)).end ≡ (walked scope span (depth + 1) walk).end
    behind_end depth section walk =
        let count : suc (length walk.sections) + depth ≡ length walk.sections + (depth + 1) = omega arith in
        ap (λ (n : ℕ). (from_end walk.end scope span n).end) count

    behind_both : (depth : ℕ) (section : Section) (cut full : PathWalk) → depth ≤ most → Beside (walked scope span (depth + 1) cut) (walked scope span (depth + 1) full)
        → Beside (walked scope span depth (behind section cut)) (walked scope span depth (behind section full))
    behind_both depth section cut full h below =
        let first = giving_place (record { section = section; depth = depth }) [] in
        alike (and_then first (walked scope span (depth + 1) cut)) (walked scope span depth (behind section cut))
        (and_then first (walked scope span (depth + 1) full)) (walked scope span depth (behind section full))
        (sym (behind_places depth section cut)) (sym (behind_end depth section cut)) (sym (behind_places depth section full)) (sym (behind_end depth section full))
        (both first (walked scope span (depth + 1) cut) first (walked scope span (depth + 1) full) (place_within (record { section = section; depth = depth }) [] h) below)

    misfit_both : (depth : ℕ) (section : Section) (spot : Spot) (fault : Option BlockFault) (cut full : PathWalk) → depth ≤ most
        → Beside (walked scope span (depth + 1) cut) (walked scope span (depth + 1) full)
        → Beside (walked scope span depth (unless_misfit section spot fault cut)) (walked scope span depth (unless_misfit section spot fault full))
    misfit_both depth section spot None cut full h below = behind_both depth section cut full h below
    misfit_both depth section spot (Some fault) cut full h below = both_stop depth (bad_block spot fault)

    misfit_deeper : (depth : ℕ) (s : Stop) (section : Section) (spot : Spot) (fault : Option BlockFault) (full : PathWalk) → IsGoneDeeper most (stopped s) → most < depth
        → Beside (walked scope span depth (stopped_at s)) (walked scope span depth (unless_misfit section spot fault full))
    misfit_deeper depth s section spot (Some fault) full g h = stop_deeper depth s (bad_block spot fault) g
    misfit_deeper depth s section spot None full g h = inr (record {
      stop = s;
      cut = refl;
      places =
          sym (deeper_first (record { section = section; depth = depth }) (walked scope span (depth + 1) full).places h)
          ∙ ap (before_deeper most) (sym (behind_places depth section full));
      full = inr (subst Deeper (sym (behind_places depth section full)) (inl h));
      ends = inr g;
    })

    -- a walk that is at its end
    abbrev at_end : Dag → PathWalk
    at_end d = record { sections = []; end = terminal d }

    end_places : (depth : ℕ) (d : Dag) → (at_terminal scope span depth d).places ≡ (walked scope span depth (at_end d)).places
    end_places depth d = ap (λ (n : ℕ). (at_terminal scope span n d).places) (sym (zero-add depth))

    end_end : (depth : ℕ) (d : Dag) → (at_terminal scope span depth d).end ≡ (walked scope span depth (at_end d)).end
    end_end depth d = ap (λ (n : ℕ). (at_terminal scope span n d).end) (sym (zero-add depth))

    both_end : (depth : ℕ) (cut full : Dag) → Beside (at_terminal scope span depth cut) (at_terminal scope span depth full)
        → Beside (walked scope span depth (at_end cut)) (walked scope span depth (at_end full))
    both_end depth cut full =
        alike (at_terminal scope span depth cut) (walked scope span depth (at_end cut)) (at_terminal scope span depth full) (walked scope span depth (at_end full))
        (end_places depth cut) (end_end depth cut) (end_places depth full) (end_end depth full)

    stop_before : (depth : ℕ) (s : Stop) (full : Dag) → Beside (ended s) (at_terminal scope span depth full)
        → Beside (walked scope span depth (stopped_at s)) (walked scope span depth (at_end full))
    stop_before depth s full =
        alike (ended s) (walked scope span depth (stopped_at s)) (at_terminal scope span depth full) (walked scope span depth (at_end full)) refl refl
        (end_places depth full) (end_end depth full)

    abbrev BothWalks : ℕ → Position → ℕ → List (List ℕ) → Dag → Dag → Type 0
    BothWalks i position depth path cut full = Beside (walked scope span depth (walk_from i position depth path cut)) (walked scope span depth (walk_from i position depth path full))

    bare_at_end : (i : ℕ) (position : Position) (depth : ℕ) (section : Section) (fault : Option BlockFault) → (most < depth) ⊎ (depth ≤ most)
        → BothWalks i position depth [] (down_to most depth (bare section fault)) (bare section fault)
    bare_at_end i position depth section fault (inl h) =
        subst (λ (x : Dag). BothWalks i position depth [] x (bare section fault)) (sym (deeper_bare depth section fault h))
        (stop_before depth (gone (spot_at section.cid depth position)) (bare section fault)
        (bare_terminal_deeper scope span depth section fault (gone (spot_at section.cid depth position)) h h))
    bare_at_end i position depth section fault (inr h) =
        subst (λ (x : Dag). BothWalks i position depth [] x (bare section fault)) (sym (within_bare depth section fault h))
        (both_end depth (bare section fault) (bare section fault) (bare_terminal scope span depth section fault h))

    bare_on_path : (i : ℕ) (position : Position) (depth : ℕ) (name : List ℕ) (path : List (List ℕ)) (section : Section) (fault : Option BlockFault) (d : Dag)
        → ((most < depth) × (d ≡ unopened section.cid)) ⊎ (d ≡ bare section fault) → BothWalks i position depth (name ∷ path) d (bare section fault)
    bare_on_path i position depth name path section None d (inl (h, e)) =
        subst (λ (x : Dag). BothWalks i position depth (name ∷ path) x (bare section None)) (sym e)
        (both_stop depth (gone (spot_at section.cid depth position)))
    bare_on_path i position depth name path section None d (inr e) =
        subst (λ (x : Dag). BothWalks i position depth (name ∷ path) x (bare section None)) (sym e)
        (both_stop depth (gone (spot_at section.cid depth position)))
    bare_on_path i position depth name path section (Some fault) d (inl (h, e)) =
        subst (λ (x : Dag). BothWalks i position depth (name ∷ path) x (bare section (Some fault))) (sym e)
        (stop_deeper depth (gone (spot_at section.cid depth position)) (bad_block (spot_at section.cid depth position) fault) h)
    bare_on_path i position depth name path section (Some fault) d (inr e) =
        subst (λ (x : Dag). BothWalks i position depth (name ∷ path) x (bare section (Some fault))) (sym e)
        (both_stop depth (bad_block (spot_at section.cid depth position) fault))

    node_at_end : (i : ℕ) (position : Position) (depth : ℕ) (section : Section) (kind : Kind) (children : Children) → (most < depth) ⊎ (depth ≤ most)
        → BothWalks i position depth [] (down_to most depth (node section kind children)) (node section kind children)
    node_at_end i position depth section kind children (inl h) =
        subst (λ (x : Dag). BothWalks i position depth [] x (node section kind children)) (sym (deeper_node depth section kind children h))
        (stop_before depth (gone (spot_at section.cid depth position)) (node section kind children)
        (node_terminal_deeper scope span depth section kind children (gone (spot_at section.cid depth position)) h h))
    node_at_end i position depth section kind children (inr h) =
        subst (λ (x : Dag). BothWalks i position depth [] x (node section kind children)) (sym (within_node depth section kind children h))
        (both_end depth (node section kind (children_down_to most (depth + 1) children)) (node section kind children) (node_terminal scope span depth section kind children h))

    abbrev BothChildren : ℕ → ℕ → Position → ℕ → List (List ℕ) → Children → Type 0
    BothChildren k i position depth path children =
        Beside (walked scope span depth (walk_child k i position depth path (children_down_to most depth children))) (walked scope span depth (walk_child k i position depth path children))

    by_step : (i depth : ℕ) (name : List ℕ) (path : List (List ℕ)) (below : Position) (children : Children) (step : StepTo)
        → ((k j : ℕ) (position : Position) (rest : List (List ℕ)) → BothChildren k j position (depth + 1) rest children)
        → Beside
        (walked scope span (depth + 1) (walk_step i
        (λ k. walk_child k (i + 1) top (depth + 1) path (children_down_to most (depth + 1) children))
        (λ k. walk_child k i below (depth + 1) (name ∷ path) (children_down_to most (depth + 1) children)) step))
        (walked scope span (depth + 1) (walk_step i
        (λ k. walk_child k (i + 1) top (depth + 1) path children)
        (λ k. walk_child k i below (depth + 1) (name ∷ path) children) step))
    by_step i depth name path below children (to_entry k) inside = inside k (i + 1) top path
    by_step i depth name path below children (to_child k) inside = inside k i below (name ∷ path)
    by_step i depth name path below children absent inside = both_stop (depth + 1) (not_there i)
    by_step i depth name path below children not_folder_here inside = both_stop (depth + 1) (not_folder i)

    node_on_path : (i : ℕ) (position : Position) (depth : ℕ) (name : List ℕ) (path : List (List ℕ)) (section : Section) (kind : Kind) (children : Children)
        → (most < depth) ⊎ (depth ≤ most) → ((k j : ℕ) (position : Position) (rest : List (List ℕ)) → BothChildren k j position (depth + 1) rest children)
        → BothWalks i position depth (name ∷ path) (down_to most depth (node section kind children)) (node section kind children)
    node_on_path i position depth name path section kind children (inl h) inside =
        subst (λ (x : Dag). BothWalks i position depth (name ∷ path) x (node section kind children)) (sym (deeper_node depth section kind children h))
        (misfit_deeper depth (gone (spot_at section.cid depth position)) section (spot_at section.cid depth position) (position_fault position kind)
        (walk_step i
        (λ k. walk_child k (i + 1) top (depth + 1) path children)
        (λ k. walk_child k i (child_below position (slot_of name (length (passed position)))) (depth + 1) (name ∷ path) children) (step_of kind (length (passed position)) name)) h h)
    node_on_path i position depth name path section kind children (inr h) inside =
        let below = child_below position (slot_of name (length (passed position))) in
        let step = step_of kind (length (passed position)) name in
        subst (λ (x : Dag). BothWalks i position depth (name ∷ path) x (node section kind children)) (sym (within_node depth section kind children h))
        (misfit_both depth section (spot_at section.cid depth position) (position_fault position kind)
        (walk_step i
        (λ k. walk_child k (i + 1) top (depth + 1) path (children_down_to most (depth + 1) children))
        (λ k. walk_child k i below (depth + 1) (name ∷ path) (children_down_to most (depth + 1) children)) step)
        (walk_step i (λ k. walk_child k (i + 1) top (depth + 1) path children) (λ k. walk_child k i below (depth + 1) (name ∷ path) children) step) h
        (by_step i depth name path below children step inside))

    mutual
      walks : (i : ℕ) (position : Position) (depth : ℕ) (path : List (List ℕ)) (d : Dag) → BothWalks i position depth path (down_to most depth d) d
      walks i position depth [] (unopened cid) = both_stop depth (gone (spot_at cid depth position))
      walks i position depth (name ∷ path) (unopened cid) = both_stop depth (gone (spot_at cid depth position))
      walks i position depth [] (bare section fault) = bare_at_end i position depth section fault (cases_lt most depth)
      walks i position depth (name ∷ path) (bare section fault) =
          bare_on_path i position depth name path section fault (down_to most depth (bare section fault)) (told_bare depth section fault)
      walks i position depth [] (node section kind children) = node_at_end i position depth section kind children (cases_lt most depth)
      walks i position depth (name ∷ path) (node section kind children) =
          node_on_path i position depth name path section kind children (cases_lt most depth) (λ k j position rest. children_walks k j position (depth + 1) rest children)

      children_walks : (k i : ℕ) (position : Position) (depth : ℕ) (path : List (List ℕ)) (children : Children) → BothChildren k i position depth path children
      children_walks k i position depth path no_child = both_stop depth (not_there i)
      children_walks zero i position depth path (with_child d children) = walks i position depth path d
      children_walks (suc k) i position depth path (with_child d children) = children_walks k i position depth path children

  -- ---- the whole traversal

  within_same : (places : List Place) → Within places → before_deeper most places ≡ places
  within_same [] w = refl
  within_same (p ∷ places) w =
      within_first p places (All-head (λ (p : Place). p.depth ≤ most) p places w)
      ∙ ap (λ (l : List Place). p ∷ l) (within_same places (All-tail (λ (p : Place). p.depth ≤ most) p places w))

  no_stop : (s : Stop) → stopped s ≡ whole → ⊥
  no_stop s e = cc

  is_cut_before : (t u : Traversal) → Beside t u → IsCutBefore most t u
  is_cut_before t u (inl h) = record { places = h.places ∙ sym (within_same u.places h.within); through = (λ e. (h.full, h.within), λ e. h.cut); ends = inl (h.cut ∙ sym h.full) }
  is_cut_before t u (inr h) = record {
    places = h.places;
    through = (λ e. absurd (no_stop h.stop (sym h.cut ∙ e)), λ e. absurd (by_full h.full e.0 e.1));
    ends = by_ends h.ends;
  }
    where
      by_ends : (u.end ≡ stopped h.stop) ⊎ IsGoneDeeper most (stopped h.stop) → (t.end ≡ u.end) ⊎ IsGoneDeeper most t.end
      by_ends (inl e) = inl (h.cut ∙ sym e)
      by_ends (inr g) = inr (subst (IsGoneDeeper most) (sym h.cut) g)

      by_full : ((s : Stop) × (u.end ≡ stopped s)) ⊎ Deeper u.places → u.end ≡ whole → Within u.places → ⊥
      by_full (inl s) e w = no_stop s.0 (sym s.1 ∙ e)
      by_full (inr d) e w = deeper_not_within u.places d w

pub cuts : CutsBeforeDeeper
cuts q d most = is_cut_before most (traversal q (down_to most 1 d)) (traversal q d) (walks most q.scope q.span 0 top 1 q.path d)
