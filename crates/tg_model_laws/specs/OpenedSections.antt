-- What holds of each opened section of a DAG holds of each that a query opens, and that is sent of them.
use Rattle.std.proofs.Common.{ℕ, zero, suc, ◌+◌, All, Contains, List, [], ◌∷◌, None, Option, Some, length}
use Rattle.std.specs.Prelude.{nat_lt, ⊤}
use Rattle.std.proofs.lemmas.Bool.{cond_both}
use Rattle.std.proofs.lemmas.List.Elements.{All-append, All-cons, All-contains, All-contains_itself, All-head, All-map, All-nil, All-tail, All-weaker}
use Rattle.tg_model_laws.specs.SentSections.{sent_held}
use Rattle.tg_model_laws.specs.Depths.{children_down_to, down_to}
use Rattle.tg_model.specs.Dag.{Children, Dag, Section, bare, no_child, node, unopened, with_child}
use Rattle.tg_model.specs.PathWalk.{PathEnd, PathWalk, Spot, StepTo, TraversalEnd, absent, child_below, not_folder_here, not_reached, path_walk, spot_at, step_of, stopped, terminal, to_child, to_entry, unless_misfit, walk_child, walk_from, walk_step, whole}
use Rattle.tg_model.specs.Queries.{QueryParts, SpanParts}
use Rattle.tg_model.specs.Sound.{Position, passed, position_fault, top}
use Rattle.tg_model.specs.Traversal.{Place, Reach, Traversal, Visit, after_end, and_then, at_terminal, block_alone, block_list, from_end, giving_entries, giving_place, giving_text, opened_list, text_before, text_behind, traversal, traverse, traverse_children, unless_bad, visited, visits, walk_places}
use Rattle.tg_model.specs.declared.fault.BlockFault.{BlockFault}
use Rattle.tg_model.specs.declared.queries.Scope.{Scope}
use Rattle.tg_model.specs.declared.queries.Scope.TheVariants as scopes
use Rattle.tg_murmur.specs.NameHash.{slot_of}

-- ---- DAGs

module _ (P : Section → Type 0) where
  -- it holds of each opened section of a DAG, and of children
  abbrev mutual
    pub Opened : Dag → Type 0
    Opened (unopened cid) = ⊤
    Opened (bare section fault) = P section
    Opened (node section kind children) = P section × OpenedChildren children

    pub OpenedChildren : Children → Type 0
    OpenedChildren no_child = ⊤
    OpenedChildren (with_child d children) = Opened d × OpenedChildren children

  -- so it does of one that is cut at a depth
  mutual
    pub cut_opened : (most depth : ℕ) (d : Dag) → Opened d → Opened (down_to most depth d)
    cut_opened most depth (unopened cid) o = o
    cut_opened most depth (bare section fault) o = cond_both (nat_lt most depth) (unopened section.cid) (bare section fault) Opened (λ e. tt) (λ e. o)
    cut_opened most depth (node section kind children) o =
        cond_both (nat_lt most depth) (unopened section.cid) (node section kind (children_down_to most (depth + 1) children)) Opened (λ e. tt)
        (λ e. (o.0, children_cut most (depth + 1) children o.1))

    children_cut : (most depth : ℕ) (children : Children) → OpenedChildren children → OpenedChildren (children_down_to most depth children)
    children_cut most depth no_child o = o
    children_cut most depth (with_child d children) o = (cut_opened most depth d o.0, children_cut most depth children o.1)

  -- ---- a path walk

  -- at the end of a walk
  abbrev pub EndOpened : PathEnd → Type 0
  EndOpened (terminal d) = Opened d
  EndOpened (not_reached stop) = ⊤

  -- and of the sections before it
  abbrev pub WalkOpened : PathWalk → Type 0
  WalkOpened walk = All P walk.sections × EndOpened walk.end

  -- of a walk behind a section
  fitting : (section : Section) (spot : Spot) (fault : Option BlockFault) (walk : PathWalk) → P section → WalkOpened walk → WalkOpened (unless_misfit section spot fault walk)
  fitting section spot None walk p o = (All-cons P section walk.sections p o.0, o.1)
  fitting section spot (Some fault) walk p o = (All-nil P, tt)

  -- of a walk by a step
  stepped : (i : ℕ) (entry_walk child_walk : ℕ → PathWalk) (step : StepTo) → ((k : ℕ) → WalkOpened (entry_walk k)) → ((k : ℕ) → WalkOpened (child_walk k))
      → WalkOpened (walk_step i entry_walk child_walk step)
  stepped i entry_walk child_walk (to_entry k) e c = e k
  stepped i entry_walk child_walk (to_child k) e c = c k
  stepped i entry_walk child_walk absent e c = (All-nil P, tt)
  stepped i entry_walk child_walk not_folder_here e c = (All-nil P, tt)

  -- of a walk from a node, and from a child
  mutual
    pub walk_opened : (i : ℕ) (position : Position) (depth : ℕ) (path : List (List ℕ)) (d : Dag) → Opened d → WalkOpened (walk_from i position depth path d)
    walk_opened i position depth path (unopened cid) o = (All-nil P, tt)
    walk_opened i position depth [] (bare section fault) o = (All-nil P, o)
    walk_opened i position depth (name ∷ path) (bare section None) o = (All-nil P, tt)
    walk_opened i position depth (name ∷ path) (bare section (Some fault)) o = (All-nil P, tt)
    walk_opened i position depth [] (node section kind children) o = (All-nil P, o)
    walk_opened i position depth (name ∷ path) (node section kind children) o =
        fitting section (spot_at section.cid depth position) (position_fault position kind) _ o.0
        (stepped i _ _ (step_of kind (length (passed position)) name)
        (λ k. child_opened k (i + 1) top (depth + 1) path children o.1)
        (λ k. child_opened k i (child_below position (slot_of name (length (passed position)))) (depth + 1) (name ∷ path) children o.1))

    child_opened : (k i : ℕ) (position : Position) (depth : ℕ) (path : List (List ℕ)) (children : Children) → OpenedChildren children → WalkOpened (walk_child k i position depth path children)
    child_opened k i position depth path no_child o = (All-nil P, tt)
    child_opened zero i position depth path (with_child d children) o = walk_opened i position depth path d o.0
    child_opened (suc k) i position depth path (with_child d children) o = child_opened k i position depth path children o.1

  -- ---- a traversal

  -- of the section at a place
  abbrev AtPlace : Place → Type 0
  AtPlace place = P place.section

  -- at each place of a traversal
  abbrev PlacesOpened : Traversal → Type 0
  PlacesOpened t = All AtPlace t.places

  -- of one traversal and then another
  then_opened : (a b : Traversal) → PlacesOpened a → PlacesOpened b → PlacesOpened (and_then a b)
  then_opened a b o p = by_end a.end
    where
      by_end : (e : TraversalEnd) → PlacesOpened (after_end e a b)
      by_end whole = All-append AtPlace a.places b.places o p
      by_end (stopped stop) = o

  -- of one place alone
  one_place : (place : Place) (text : List ℕ) → P place.section → PlacesOpened (giving_place place text)
  one_place place text p = All-cons AtPlace place [] p (All-nil AtPlace)

  -- of a traversal from where a node may stand
  standing : (spot : Spot) (fault : Option BlockFault) (t : Traversal) → PlacesOpened t → PlacesOpened (unless_bad spot fault t)
  standing spot None t o = o
  standing spot (Some fault) t o = All-nil AtPlace

  -- of one into a child, or past it
  going_in : (inside : Reach → Position → Traversal) (into : Option (Reach × Position)) → ((reach : Reach) (position : Position) → PlacesOpened (inside reach position))
      → PlacesOpened (visited inside into)
  going_in inside None o = All-nil AtPlace
  going_in inside (Some visit) o = o visit.0 visit.1

  -- of that of a node, and of children
  mutual
    traverse_opened : (reach : Reach) (position : Position) (depth : ℕ) (d : Dag) → Opened d → PlacesOpened (traverse reach position depth d)
    traverse_opened reach position depth (unopened cid) o = All-nil AtPlace
    traverse_opened reach position depth (bare section None) o = All-nil AtPlace
    traverse_opened reach position depth (bare section (Some fault)) o = All-nil AtPlace
    traverse_opened reach position depth (node section kind children) o =
        let here = giving_place (record { section = section; depth = depth }) (text_before reach position section kind) in
        let below = traverse_children (visits reach position kind) (depth + 1) children in
        let last = giving_text (text_behind reach kind) in
        standing (spot_at section.cid depth position) (position_fault position kind) (and_then here (and_then below last))
        (then_opened here (and_then below last) (one_place (record { section = section; depth = depth }) (text_before reach position section kind) o.0)
        (then_opened below last (children_traversed (visits reach position kind) (depth + 1) children o.1) (All-nil AtPlace)))

    children_traversed : (todo : List Visit) (depth : ℕ) (children : Children) → OpenedChildren children → PlacesOpened (traverse_children todo depth children)
    children_traversed todo depth no_child o = All-nil AtPlace
    children_traversed [] depth (with_child d children) o = All-nil AtPlace
    children_traversed (visit ∷ todo) depth (with_child d children) o =
        let inside = λ (reach : Reach) (position : Position). traverse reach position depth d in
        let here = visited inside visit.into in
        let rest = traverse_children todo depth children in
        then_opened (giving_entries visit.met) (and_then here rest) (All-nil AtPlace)
        (then_opened here rest (going_in inside visit.into (λ reach position. traverse_opened reach position depth d o.0)) (children_traversed todo depth children o.1))

  -- of a terminal's block alone
  alone_opened : (depth : ℕ) (d : Dag) → Opened d → PlacesOpened (block_alone depth d)
  alone_opened depth (unopened cid) o = All-nil AtPlace
  alone_opened depth (bare section fault) o = one_place (record { section = section; depth = depth }) section.block o
  alone_opened depth (node section kind children) o = one_place (record { section = section; depth = depth }) section.block o.0

  -- of what is asked for at a terminal
  terminal_opened : (scope : Scope) (span : Option SpanParts) (depth : ℕ) (d : Dag) → Opened d → PlacesOpened (at_terminal scope span depth d)
  terminal_opened scopes.Block span depth d o = alone_opened depth d o
  terminal_opened scopes.Entity span depth d o = traverse_opened _ top depth d o
  terminal_opened scopes.All span depth d o = traverse_opened _ top depth d o

  -- from the end of a walk on
  end_opened : (end : PathEnd) (scope : Scope) (span : Option SpanParts) (depth : ℕ) → EndOpened end → PlacesOpened (from_end end scope span depth)
  end_opened (terminal d) scope span depth o = terminal_opened scope span depth d o
  end_opened (not_reached stop) scope span depth o = All-nil AtPlace

  -- at the places of a walk
  walked : (depth : ℕ) (sections : List Section) → All P sections → All AtPlace (walk_places depth sections)
  walked depth [] all = All-nil AtPlace
  walked depth (section ∷ sections) all =
      All-cons AtPlace (record { section = section; depth = depth }) (walk_places (depth + 1) sections) (All-head P section sections all)
      (walked (depth + 1) sections (All-tail P section sections all))

  -- so is each opened section of a query
  pub traversal_opened : (q : QueryParts) (d : Dag) → Opened d → All P (opened_list q d)
  traversal_opened q d o =
      let walk = path_walk q.path d in
      let w = walk_opened 0 top 1 q.path d o in
      let below = from_end walk.end q.scope q.span (length walk.sections + 1) in
      All-map P (λ (place : Place). place.section) (traversal q d).places
      (All-append AtPlace (walk_places 1 walk.sections) below.places (walked 1 walk.sections w.0) (end_opened walk.end q.scope q.span (length walk.sections + 1) w.1))

  -- and each section that is sent of it
  pub list_opened : (q : QueryParts) (d : Dag) → Opened d → All P (block_list q d)
  list_opened q d o =
      All-weaker (Contains (block_list q d)) P
      (λ (x : Section) (h : Contains (block_list q d) x). All-contains P (opened_list q d) x (traversal_opened q d o) (sent_held q (opened_list q d) x h))
      (block_list q d) (All-contains_itself (block_list q d))
