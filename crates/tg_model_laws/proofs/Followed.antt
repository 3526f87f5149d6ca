-- A traversal of a partial DAG is that of the DAG from which it is opened, or it ends at an unopened place, and its places, its
-- text and what is met are fronts of the other's.
use Rattle.std.proofs.Common.{◌≡◌, ◌⊎◌, ℕ, suc, zero, ◌+◌, Option, Some, None, List, [], ◌∷◌, ◌++◌, inl, inr, length, refl, sym, ap, ap₂, subst}
use Rattle.std.proofs.lemmas.List.{append-nil}
use Rattle.tg_model_laws.specs.CountsWithin.{GivesFront}
use Rattle.tg_model_laws.specs.ListFronts.{FrontOf, front_behind, front_empty, front_longer, front_whole}
use Rattle.tg_model_laws.specs.PartialDags.{ChildrenOpenedFrom, OpenedFrom, alone, each, none, opened, same_bare, unseen}
use Rattle.tg_model.specs.Dag.{Dag, Children, Section, node}
use Rattle.tg_model.specs.PathWalk.{PathEnd, PathWalk, Spot, StepTo, Stop, TraversalEnd, absent, child_below, gone, not_folder_here, not_reached, path_walk, spot_at, step_of, stopped, stopped_at, terminal, to_child, to_entry, unless_misfit, walk_from, walk_child, walk_step, whole}
use Rattle.tg_model.specs.Queries.{QueryParts, SpanParts}
use Rattle.tg_model.specs.Sound.{Position, passed, position_fault, top}
use Rattle.tg_model.specs.Traversal.{Place, Reach, Traversal, Visit, after_end, all_reach, and_then, at_terminal, ended, entity_reach, from_end, giving_entries, giving_place, giving_text, text_before, text_behind, traversal, traverse, traverse_children, unless_bad, visited, visits, walk_places}
use Rattle.tg_model.specs.declared.fault.BlockFault.{BlockFault}
use Rattle.tg_model.specs.declared.queries.Scope.{Scope}
use Rattle.tg_model.specs.declared.queries.Scope.TheVariants as scopes
use Rattle.tg_murmur.specs.NameHash.{slot_of}

-- ---- one traversal beside another

-- a traversal ends at an unopened place, and what it gives is a front of what the other gives
pub record EndsEarly (t u : Traversal) : Type 0 where
  pub wanted : Spot
  pub end : t.end ≡ stopped (gone wanted)
  pub gives : GivesFront t u

abbrev pub Follows : Traversal → Traversal → Type 0
Follows t u = (t ≡ u) ⊎ EndsEarly t u

-- in both cases what it gives is a front
pub gives_front : (t u : Traversal) → Follows t u → GivesFront t u
gives_front t u (inl e) = subst (λ (x : Traversal). GivesFront t x) e (record { places = front_whole t.places; text = front_whole t.text; met = front_whole t.met })
gives_front t u (inr h) = h.gives

-- what ends at once
ends_at_once : (spot : Spot) (u : Traversal) → Follows (ended (gone spot)) u
ends_at_once spot u = inr (record {
  wanted = spot;
  end = refl;
  gives = record { places = front_empty u.places; text = front_empty u.text; met = front_empty u.met };
})

-- behind the same traversal, of which the end is a variable
behind_same : (end : TraversalEnd) (a b c : Traversal) → EndsEarly b c → Follows (after_end end a b) (after_end end a c)
behind_same whole a b c h = inr (record {
  wanted = h.wanted;
  end = h.end;
  gives = record {
    places = front_behind a.places b.places c.places h.gives.places;
    text = front_behind a.text b.text c.text h.gives.text;
    met = front_behind a.met b.met c.met h.gives.met;
  };
})
behind_same other a b c h = inl refl

-- behind a traversal that ended early nothing follows
nothing_behind : (end : TraversalEnd) (a b : Traversal) (wanted : Spot) → end ≡ stopped (gone wanted) → after_end end a b ≡ a
nothing_behind whole a b wanted e = cc
nothing_behind other a b wanted e = refl

-- what ends early does so also where the other goes on
early_longer : (end : TraversalEnd) (a c d : Traversal) → EndsEarly a c → EndsEarly a (after_end end c d)
early_longer whole a c d h = record {
  wanted = h.wanted;
  end = h.end;
  gives = record {
    places = front_longer a.places c.places d.places h.gives.places;
    text = front_longer a.text c.text d.text h.gives.text;
    met = front_longer a.met c.met d.met h.gives.met;
  };
}
early_longer other a c d h = h

-- one behind another, where the first ends early
early_then : (a b c d : Traversal) → EndsEarly a c → EndsEarly (and_then a b) (and_then c d)
early_then a b c d h = subst (λ (t : Traversal). EndsEarly t (and_then c d)) (sym (nothing_behind a.end a b h.wanted h.end)) (early_longer c.end a c d h)

-- one behind another
both_follow : (a b c d : Traversal) → Follows a c → Follows b d → Follows (and_then a b) (and_then c d)
both_follow a b c d (inl e) (inl f) = inl (ap₂ and_then e f)
both_follow a b c d (inl e) (inr h) = subst (λ (t : Traversal). Follows (and_then a b) (and_then t d)) e (behind_same a.end a b d h)
both_follow a b c d (inr h) g = inr (early_then a b c d h)

-- ---- below a node

-- a node that can't stand there
unless_bad_follows : (spot : Spot) (fault : Option BlockFault) (t u : Traversal) → Follows t u → Follows (unless_bad spot fault t) (unless_bad spot fault u)
unless_bad_follows spot None t u h = h
unless_bad_follows spot (Some fault) t u h = inl refl

-- a link that is passed over, or of which the child is gone into
visited_follows : (into : Option (Reach × Position)) (inside other : Reach → Position → Traversal) → ((reach : Reach) (position : Position) → Follows (inside reach position) (other reach position))
    → Follows (visited inside into) (visited other into)
visited_follows None inside other h = inl refl
visited_follows (Some into) inside other h = h into.0 into.1

mutual
  -- a traversal below a node
  traverse_follows : (reach : Reach) (position : Position) (depth : ℕ) (s d : Dag) → OpenedFrom s d → Follows (traverse reach position depth s) (traverse reach position depth d)
  traverse_follows reach position depth _ _ (unseen cid d e) = ends_at_once (spot_at cid depth position) (traverse reach position depth d)
  traverse_follows reach position depth _ _ (alone section kind children) = ends_at_once (spot_at section.cid depth position) (traverse reach position depth (node section kind children))
  traverse_follows reach position depth _ _ (same_bare section fault) = inl refl
  traverse_follows reach position depth _ _ (opened section kind children others h) =
      let todo : List Visit = visits reach position kind in
      let behind : Traversal = giving_text (text_behind reach kind) in
      let own : Traversal = giving_place (record { section = section; depth = depth }) (text_before reach position section kind) in
      let mine : Traversal = traverse_children todo (depth + 1) children in
      let other : Traversal = traverse_children todo (depth + 1) others in
      unless_bad_follows (spot_at section.cid depth position) (position_fault position kind) (and_then own (and_then mine behind)) (and_then own (and_then other behind))
      (both_follow own (and_then mine behind) own (and_then other behind) (inl refl)
      (both_follow mine behind other behind (children_follow todo (depth + 1) children others h) (inl refl)))

  -- and below its children
  children_follow : (todo : List Visit) (depth : ℕ) (children others : Children) → ChildrenOpenedFrom children others → Follows (traverse_children todo depth children) (traverse_children todo depth others)
  children_follow todo depth _ _ none = inl refl
  children_follow [] depth _ _ (each s d children others h g) = inl refl
  children_follow (visit ∷ todo) depth _ _ (each s d children others h g) =
      let mine : Reach → Position → Traversal = λ reach position. traverse reach position depth s in
      let other : Reach → Position → Traversal = λ reach position. traverse reach position depth d in
      both_follow (giving_entries visit.met) (and_then (visited mine visit.into) (traverse_children todo depth children)) (giving_entries visit.met) (and_then (visited other visit.into) (traverse_children todo depth others))
      (inl refl)
      (both_follow (visited mine visit.into) (traverse_children todo depth children) (visited other visit.into) (traverse_children todo depth others)
      (visited_follows visit.into mine other (λ reach position. traverse_follows reach position depth s d h)) (children_follow todo depth children others g))

-- ---- along the path

-- at a terminal that is opened from the other's, or with the same end
pub data EndFollows : PathEnd → PathEnd → Type 0 where
  at_node : (s d : Dag) → OpenedFrom s d → EndFollows (terminal s) (terminal d)
  at_end : (stop : Stop) → EndFollows (not_reached stop) (not_reached stop)

-- the same nodes are passed
pub record SameWay (walk other : PathWalk) : Type 0 where
  pub sections : walk.sections ≡ other.sections
  pub end : EndFollows walk.end other.end

-- a walk ends at an unopened place, and the nodes that it passes are a front of the other's
pub record StopsEarly (walk other : PathWalk) : Type 0 where
  pub wanted : Spot
  pub end : walk.end ≡ not_reached (gone wanted)
  pub sections : FrontOf walk.sections other.sections

-- a walk passes the same nodes, or it ends at an unopened place
abbrev pub WalkFollows : PathWalk → PathWalk → Type 0
WalkFollows walk other = SameWay walk other ⊎ StopsEarly walk other

-- what ends at once
stops_at_once : (spot : Spot) (other : PathWalk) → WalkFollows (stopped_at (gone spot)) other
stops_at_once spot other = inr (record { wanted = spot; end = refl; sections = front_empty other.sections })

-- a node that can't stand there
misfit_follows : (section : Section) (spot : Spot) (fault : Option BlockFault) (walk other : PathWalk) → WalkFollows walk other → WalkFollows (unless_misfit section spot fault walk) (unless_misfit section spot fault other)
misfit_follows section spot None walk other (inl h) = inl (record { sections = ap (λ (rest : List Section). section ∷ rest) h.sections; end = h.end })
misfit_follows section spot None walk other (inr h) = inr (record { wanted = h.wanted; end = h.end; sections = front_behind (section ∷ []) walk.sections other.sections h.sections })
misfit_follows section spot (Some fault) walk other h = inl (record { sections = refl; end = at_end _ })

-- one step
step_follows : (i : ℕ) (entry_walk child_walk other_entry other_child : ℕ → PathWalk) (step : StepTo) → ((k : ℕ) → WalkFollows (entry_walk k) (other_entry k))
    → ((k : ℕ) → WalkFollows (child_walk k) (other_child k)) → WalkFollows (walk_step i entry_walk child_walk step) (walk_step i other_entry other_child step)
step_follows i entry_walk child_walk other_entry other_child (to_entry k) h g = h k
step_follows i entry_walk child_walk other_entry other_child (to_child k) h g = g k
step_follows i entry_walk child_walk other_entry other_child absent h g = inl (record { sections = refl; end = at_end _ })
step_follows i entry_walk child_walk other_entry other_child not_folder_here h g = inl (record { sections = refl; end = at_end _ })

-- no segment is left
reached : (i depth : ℕ) (position : Position) (s d : Dag) → OpenedFrom s d → WalkFollows (walk_from i position depth [] s) (walk_from i position depth [] d)
reached i depth position _ _ (unseen cid d e) = stops_at_once (spot_at cid depth position) _
reached i depth position _ _ (alone section kind children) = inl (record { sections = refl; end = at_node _ _ (alone section kind children) })
reached i depth position _ _ (same_bare section fault) = inl (record { sections = refl; end = at_node _ _ (same_bare section fault) })
reached i depth position _ _ (opened section kind children others h) = inl (record { sections = refl; end = at_node _ _ (opened section kind children others h) })

mutual
  -- a walk from a node on
  walk_follows : (i depth : ℕ) (position : Position) (path : List (List ℕ)) (s d : Dag) → OpenedFrom s d → WalkFollows (walk_from i position depth path s) (walk_from i position depth path d)
  walk_follows i depth position [] s d h = reached i depth position s d h
  walk_follows i depth position (name ∷ path) _ _ (unseen cid d e) = stops_at_once (spot_at cid depth position) _
  walk_follows i depth position (name ∷ path) _ _ (alone section kind children) = stops_at_once (spot_at section.cid depth position) _
  walk_follows i depth position (name ∷ path) _ _ (same_bare section None) = inl (record { sections = refl; end = at_end _ })
  walk_follows i depth position (name ∷ path) _ _ (same_bare section (Some fault)) = inl (record { sections = refl; end = at_end _ })
  walk_follows i depth position (name ∷ path) _ _ (opened section kind children others h) =
      let below : Position = child_below position (slot_of name (length (passed position))) in
      misfit_follows section (spot_at section.cid depth position) (position_fault position kind) _ _
      (step_follows i (λ k. walk_child k (i + 1) top (depth + 1) path children) (λ k. walk_child k i below (depth + 1) (name ∷ path) children) (λ k. walk_child k (i + 1) top (depth + 1) path others) (λ k. walk_child k i below (depth + 1) (name ∷ path) others)
      (step_of kind (length (passed position)) name)
      (λ k. child_follows k (i + 1) (depth + 1) top path children others h) (λ k. child_follows k i (depth + 1) below (name ∷ path) children others h))

  -- and from one of its children
  child_follows : (k i depth : ℕ) (position : Position) (path : List (List ℕ)) (children others : Children) → ChildrenOpenedFrom children others → WalkFollows (walk_child k i position depth path children) (walk_child k i position depth path others)
  child_follows k i depth position path _ _ none = inl (record { sections = refl; end = at_end _ })
  child_follows zero i depth position path _ _ (each s d children others h g) = walk_follows i depth position path s d h
  child_follows (suc k) i depth position path _ _ (each s d children others h g) = child_follows k i depth position path children others g

-- the walk along a path
pub path_follows : (path : List (List ℕ)) (s d : Dag) → OpenedFrom s d → WalkFollows (path_walk path s) (path_walk path d)
path_follows path s d h = walk_follows 0 1 top path s d h

-- ---- for a query

-- what is asked of a terminal
pub terminal_follows : (scope : Scope) (span : Option SpanParts) (depth : ℕ) (s d : Dag) → OpenedFrom s d → Follows (at_terminal scope span depth s) (at_terminal scope span depth d)
terminal_follows scopes.Block span depth _ _ (unseen cid d e) = ends_at_once (spot_at cid depth top) _
terminal_follows scopes.Block span depth _ _ (alone section kind children) = inl refl
terminal_follows scopes.Block span depth _ _ (same_bare section fault) = inl refl
terminal_follows scopes.Block span depth _ _ (opened section kind children others h) = inl refl
terminal_follows scopes.Entity span depth _ _ (unseen cid d e) = ends_at_once (spot_at cid depth top) _
terminal_follows scopes.Entity span depth _ _ (alone section kind children) = ends_at_once (spot_at section.cid depth top) _
terminal_follows scopes.Entity span depth _ _ (same_bare section fault) = inl refl
terminal_follows scopes.Entity span depth _ _ (opened section kind children others h) = traverse_follows (entity_reach span section kind) top depth _ _ (opened section kind children others h)
terminal_follows scopes.All span depth _ _ (unseen cid d e) = ends_at_once (spot_at cid depth top) _
terminal_follows scopes.All span depth _ _ (alone section kind children) = ends_at_once (spot_at section.cid depth top) _
terminal_follows scopes.All span depth _ _ (same_bare section fault) = inl refl
terminal_follows scopes.All span depth _ _ (opened section kind children others h) = traverse_follows (all_reach kind) top depth _ _ (opened section kind children others h)

-- a traversal behind the sections of a path walk
abbrev pub along : List Section → Traversal → Traversal
along sections below = record { places = walk_places 1 sections ++ below.places; text = below.text; met = below.met; end = below.end }

-- behind the same sections
along_follows : (sections : List Section) (t u : Traversal) → Follows t u → Follows (along sections t) (along sections u)
along_follows sections t u (inl e) = inl (ap (along sections) e)
along_follows sections t u (inr h) = inr (record {
  wanted = h.wanted;
  end = h.end;
  gives = record { places = front_behind (walk_places 1 sections) t.places u.places h.gives.places; text = h.gives.text; met = h.gives.met };
})

-- the traversal of a query from the end of its path walk on
abbrev pub walked : QueryParts → List Section → PathEnd → Traversal
walked q sections end = along sections (from_end end q.scope q.span (length sections + 1))

-- from an end beside another
end_follows : (q : QueryParts) (sections : List Section) (end other : PathEnd) → EndFollows end other → Follows (walked q sections end) (walked q sections other)
end_follows q sections _ _ (at_node s d h) = along_follows sections _ _ (terminal_follows q.scope q.span (length sections + 1) s d h)
end_follows q sections _ _ (at_end end) = inl refl

-- the places of a front of the sections
places_front : (depth : ℕ) (front rest : List Section) → FrontOf (walk_places depth front) (walk_places depth (front ++ rest))
places_front depth [] rest = front_empty (walk_places depth rest)
places_front depth (section ∷ front) rest =
    front_behind (record { section = section; depth = depth } ∷ []) (walk_places (depth + 1) front) (walk_places (depth + 1) (front ++ rest)) (places_front (depth + 1) front rest)

-- a traversal that ends at an unopened place of its path
lost_follows : (spot : Spot) (front sections : List Section) (u : Traversal) → FrontOf front sections → Follows (along front (ended (gone spot))) (along sections u)
lost_follows spot front sections u h =
    let places : FrontOf (walk_places 1 front) (walk_places 1 sections) =
    subst (λ (all : List Section). FrontOf (walk_places 1 front) (walk_places 1 all)) (sym h.is) (places_front 1 front h.rest) in
    inr (record {
      wanted = spot;
      end = refl;
      gives = record {
        places = subst (λ (mine : List Place). FrontOf mine (walk_places 1 sections ++ u.places)) (sym (append-nil (walk_places 1 front)))
            (front_longer (walk_places 1 front) (walk_places 1 sections) u.places places);
        text = front_empty u.text;
        met = front_empty u.met;
      };
    })

-- from a walk beside another
after_walk : (q : QueryParts) (walk other : PathWalk) → WalkFollows walk other → Follows (walked q walk.sections walk.end) (walked q other.sections other.end)
after_walk q walk other (inl h) =
    subst (λ (sections : List Section). Follows (walked q walk.sections walk.end) (walked q sections other.end)) h.sections (end_follows q walk.sections walk.end other.end h.end)
after_walk q walk other (inr h) =
    let u : Traversal = from_end other.end q.scope q.span (length other.sections + 1) in
    subst (λ (end : PathEnd). Follows (walked q walk.sections end) (along other.sections u)) (sym h.end) (lost_follows h.wanted walk.sections other.sections u h.sections)

-- the traversal of a query
pub traversal_follows : (q : QueryParts) (s d : Dag) → OpenedFrom s d → Follows (traversal q s) (traversal q d)
traversal_follows q s d h = after_walk q (path_walk q.path s) (path_walk q.path d) (path_follows q.path s d h)
