-- A traversal that comes through, or to an unopened place, has no more places than there are opened blocks, and where it has as
-- many, just what is asked is opened.
use Rattle.std.proofs.Common.{◌≡◌, ℕ, zero, suc, ◌+◌, ◌<◌, ◌≤◌, Option, Some, None, List, [], ◌∷◌, ◌++◌, length, refl, sym, ap, ◌∙◌, subst, arith, length-append, zero-add}
use Rattle.std.proofs.lemmas.List.{length-map}
use Rattle.std.specs.Prelude.{⊤}
use Rattle.tg_model_laws.proofs.AskedPlaces.{Asked, Behind, Both, ChildOpens, ChildrenOpen, Opens, along, asked_at, asked_at_visits, asked_by_step, asked_inside, within}
use Rattle.tg_model_laws.specs.Openings.{IsAtPlace}
use Rattle.tg_model.specs.Dag.{Dag, Children, Section, bare, blocks, blocks_of_children, with_child, no_child, node, unopened}
use Rattle.tg_model.specs.Fits.{IsAloneAt, IsOpenedFor}
use Rattle.tg_model.specs.PathWalk.{PathWalk, Spot, StepTo, TraversalEnd, absent, behind, child_below, not_folder_here, spot_at, stopped, path_walk, step_of, terminal, to_child, to_entry, unless_misfit, walk_from, walk_child, walk_step, whole}
use Rattle.tg_model.specs.Queries.{QueryParts, SpanParts}
use Rattle.tg_model.specs.Sound.{Position, passed, position_fault, top}
use Rattle.tg_model.specs.Traversal.{Place, Reach, Traversal, Visit, after_end, all_reach, and_then, entire, entity_reach, from_end, giving_place, giving_text, text_before, text_behind, traversal, traverse, traverse_children, unless_bad, visited, visits, walk_places}
use Rattle.tg_model.specs.declared.fault.BlockFault.{BlockFault}
use Rattle.tg_model.specs.declared.queries.Scope.{Scope}
use Rattle.tg_model.specs.declared.queries.Scope.TheVariants as scopes
use Rattle.tg_murmur.specs.NameHash.{slot_of}

-- ---- counts

-- as many places are given as there are opened blocks at most; and where the blocks aren't more, this holds
record Covers (given held : ℕ) (P : Type 0) : Type 0 where
  few : given ≤ held
  just : held ≤ given → P

-- two counts together
covers_both : {a b m n : ℕ} {P Q : Type 0} → Covers a m P → Covers b n Q → Covers (a + b) (m + n) (P × Q)
covers_both {a = a} {b = b} {m = m} {n = n} h k =
    let first : a ≤ m = h.few in
    let second : b ≤ n = k.few in
    record { few = omega arith; just = λ (all : m + n ≤ a + b). (h.just (omega arith), k.just (omega arith)) }

-- the same counts, written differently
covers_as : {a b m n : ℕ} {P : Type 0} → a ≡ b → m ≡ n → Covers a m P → Covers b n P
covers_as {a = a} {b = b} {m = m} {n = n} same_given same_held h =
    let few : a ≤ m = h.few in
    record { few = omega arith; just = λ (all : n ≤ b). h.just (omega arith) }

-- what follows from what holds
covers_so : {a m : ℕ} {P Q : Type 0} → (P → Q) → Covers a m P → Covers a m Q
covers_so so h = record { few = h.few; just = λ all. so (h.just all) }

-- as many places as blocks
covers_same : {n : ℕ} {P : Type 0} → P → Covers n n P
covers_same p = record { few = omega arith; just = λ all. p }

-- no place and some block
covers_less : {n : ℕ} {P : Type 0} → 0 < n → Covers 0 n P
covers_less {n = n} some = record { few = omega arith; just = λ (all : n ≤ 0). absurd (omega arith) }

-- where no place is given, there is no block
none_held : (sections : List Section) → Covers 0 (length sections) (sections ≡ [])
none_held [] = covers_same refl
none_held (section ∷ sections) = covers_less (omega arith)

-- a child and the children behind it
covers_child : {a b : ℕ} {P Q : Type 0} (d : Dag) (children : Children) → Covers a (length (blocks d)) P → Covers b (length (blocks_of_children children)) Q
    → Covers (a + b) (length (blocks_of_children (with_child d children))) (P × Q)
covers_child d children h k = covers_as refl (sym (length-append (blocks d) (blocks_of_children children))) (covers_both h k)

-- ---- below a node

-- the places of a traversal are counted against so many blocks, and this holds of its end
abbrev Counts : Traversal → ℕ → (TraversalEnd → Type 0) → Type 0
Counts t held P = Covers (length t.places) held (P t.end)

-- a child's traversal and behind it the others', with the first's end as a variable
counts_after : (end : TraversalEnd) (a b : Traversal) (m : ℕ) (later : List Section) (P Q : TraversalEnd → Type 0) → a.end ≡ end
    → Covers (length a.places) m (P end) → Counts b (length later) Q → Counts (after_end end a b) (m + length later) (Both P Q (later ≡ []))
counts_after whole a b m later P Q same h k =
    covers_so (λ both. (whole, both.0, both.1)) (covers_as (sym (length-append a.places b.places)) refl (covers_both h k))
counts_after other a b m later P Q same h k =
    covers_so (λ both. (other, both.0, (same, both.1))) (covers_as (omega arith) refl (covers_both h (none_held later)))

-- a text behind a traversal
counts_text : (end : TraversalEnd) (t : Traversal) (text : List ℕ) (n : ℕ) (P : TraversalEnd → Type 0) → t.end ≡ end → Counts t n P
    → Counts (after_end end t (giving_text text)) n P
counts_text whole t text n P same h = covers_so (subst P same) (covers_as (omega (arith, length-append t.places [])) refl h)
counts_text other t text n P same h = h

-- a node: its place, what its children give, and the text behind them
counts_node : (place : Place) (text behind : List ℕ) (children : Traversal) (n : ℕ) (P : TraversalEnd → Type 0) → Counts children n P
    → Counts (and_then (giving_place place text) (and_then children (giving_text behind))) (suc n) P
counts_node place text behind children n P h =
    let one : Covers 1 1 ⊤ = covers_same tt in
    covers_so (λ both. both.1) (covers_as (omega arith) (omega arith) (covers_both one (counts_text children.end children behind n P refl h)))

-- a block that can't stand there gives no place
counts_unless_bad : (spot : Spot) (fault : Option BlockFault) (t : Traversal) (n : ℕ) (P : TraversalEnd → Type 0) → Counts t (suc n) P
    → Counts (unless_bad spot fault t) (suc n) P
counts_unless_bad spot None t n P h = h
counts_unless_bad spot (Some fault) t n P h = covers_less (omega arith)

-- a child that is gone into, or passed over
counts_visited : (into : Option (Reach × Position)) (depth : ℕ) (inside : Reach → Position → Traversal) (d : Dag)
    → ((reach : Reach) (position : Position) → Counts (inside reach position) (length (blocks d)) (Opens (within reach position) depth d))
    → Counts (visited inside into) (length (blocks d)) (ChildOpens (asked_inside into) (λ asked. Opens asked depth d) d)
counts_visited None depth inside d h = covers_so (λ nothing. (refl, nothing)) (none_held (blocks d))
counts_visited (Some into) depth inside d h = h into.0 into.1

mutual
  -- the places below a node
  counts_traverse : (reach : Reach) (position : Position) (depth : ℕ) (d : Dag) → Counts (traverse reach position depth d) (length (blocks d)) (Opens (within reach position) depth d)
  counts_traverse reach position depth (unopened cid) = covers_same refl
  counts_traverse reach position depth (bare section None) = covers_less (omega arith)
  counts_traverse reach position depth (bare section (Some fault)) = covers_less (omega arith)
  counts_traverse reach position depth (node section kind children) =
      let todo : List Visit = visits reach position kind in
      let place : Place = record { section = section; depth = depth } in
      let inside : Traversal = traverse_children todo (depth + 1) children in
      let n : ℕ = length (blocks_of_children children) in
      let P : TraversalEnd → Type 0 = ChildrenOpen (asked_at_visits todo) (depth + 1) children in
      covers_so (λ opens. (refl, opens)) (counts_unless_bad (spot_at section.cid depth position) (position_fault position kind)
      (and_then (giving_place place (text_before reach position section kind)) (and_then inside (giving_text (text_behind reach kind)))) n P
      (counts_node place (text_before reach position section kind) (text_behind reach kind) inside n P (counts_children todo (depth + 1) children)))

  -- the places below children
  counts_children : (todo : List Visit) (depth : ℕ) (children : Children) → Counts (traverse_children todo depth children) (length (blocks_of_children children)) (ChildrenOpen (asked_at_visits todo) depth children)
  counts_children todo depth no_child = covers_same refl
  counts_children [] depth (with_child d children) = covers_so (λ nothing. (refl, nothing)) (none_held (blocks_of_children (with_child d children)))
  counts_children (visit ∷ todo) depth (with_child d children) =
      let inside : Traversal = visited (λ reach position. traverse reach position depth d) visit.into in
      covers_as refl (sym (length-append (blocks d) (blocks_of_children children)))
      (counts_after inside.end inside (traverse_children todo depth children) (length (blocks d)) (blocks_of_children children)
      (ChildOpens (asked_inside visit.into) (λ asked. Opens asked depth d) d) (ChildrenOpen (asked_at_visits todo) depth children) refl
      (counts_visited visit.into depth (λ reach position. traverse reach position depth d) d (λ reach position. counts_traverse reach position depth d))
      (counts_children todo depth children))

-- ---- along a path

-- the same for a path walk with what is asked for at its end, of which the terminal has this depth
abbrev CountsFrom : Scope → Option SpanParts → ℕ → PathWalk → ℕ → (TraversalEnd → Type 0) → Type 0
CountsFrom scope span depth walk held P =
    IsAloneAt scope walk.end → IsAtPlace (from_end walk.end scope span depth).end
    → Covers (length walk.sections + length (from_end walk.end scope span depth).places) held (P (from_end walk.end scope span depth).end)

-- and of which the first node has it
abbrev WalkCounts : Scope → Option SpanParts → ℕ → PathWalk → ℕ → (TraversalEnd → Type 0) → Type 0
WalkCounts scope span depth walk held P = CountsFrom scope span (length walk.sections + depth) walk held P

-- at the end of a path
counts_terminal : (scope : Scope) (span : Option SpanParts) (depth : ℕ) (d : Dag)
    → CountsFrom scope span depth (record { sections = []; end = terminal d }) (length (blocks d)) (Opens (along scope span top []) depth d)
counts_terminal scopes.Block span depth (unopened cid) alone e = covers_same refl
counts_terminal scopes.Block span depth (bare section fault) alone e = covers_same (refl, refl)
counts_terminal scopes.Block span depth (node section kind children) alone e = absurd alone
counts_terminal scopes.Entity span depth (unopened cid) alone e = covers_same refl
counts_terminal scopes.Entity span depth (bare section fault) alone e =
    covers_as (omega arith) refl (counts_traverse entire top depth (bare section fault))
counts_terminal scopes.Entity span depth (node section kind children) alone e =
    covers_as (omega arith) refl (counts_traverse (entity_reach span section kind) top depth (node section kind children))
counts_terminal scopes.All span depth (unopened cid) alone e = covers_same refl
counts_terminal scopes.All span depth (bare section fault) alone e =
    covers_as (omega arith) refl (counts_traverse entire top depth (bare section fault))
counts_terminal scopes.All span depth (node section kind children) alone e =
    covers_as (omega arith) refl (counts_traverse (all_reach kind) top depth (node section kind children))

-- and so of a walk with no segment left
counts_end : (scope : Scope) (span : Option SpanParts) (depth : ℕ) (d : Dag)
    → WalkCounts scope span depth (record { sections = []; end = terminal d }) (length (blocks d)) (Opens (along scope span top []) depth d)
counts_end scope span depth d =
    subst (λ (n : ℕ). CountsFrom scope span n (record { sections = []; end = terminal d }) (length (blocks d)) (Opens (along scope span top []) depth d)) (sym (zero-add depth))
    (counts_terminal scope span depth d)

-- a node that isn't the terminal: its section and what is walked behind it
counts_behind : (scope : Scope) (span : Option SpanParts) (depth : ℕ) (section : Section) (walk : PathWalk) (n : ℕ)
    (P : TraversalEnd → Type 0) → CountsFrom scope span depth walk n P → CountsFrom scope span depth (behind section walk) (suc n) P
counts_behind scope span depth section walk n P h alone e =
    let one : Covers 1 1 ⊤ = covers_same tt in
    covers_so (λ both. both.1) (covers_as (omega arith) (omega arith) (covers_both one (h alone e)))

-- where it may stand there
counts_unless_misfit : (scope : Scope) (span : Option SpanParts) (depth : ℕ) (section : Section) (spot : Spot) (fault : Option BlockFault) (walk : PathWalk) (n : ℕ)
    (P : TraversalEnd → Type 0) → WalkCounts scope span (depth + 1) walk n P → WalkCounts scope span depth (unless_misfit section spot fault walk) (suc n) P
counts_unless_misfit scope span depth section spot None walk n P h =
    let same : length walk.sections + (depth + 1) ≡ suc (length walk.sections) + depth = omega arith in
    counts_behind scope span (suc (length walk.sections) + depth) section walk n P (subst (λ (depth : ℕ). CountsFrom scope span depth walk n P) same h)
counts_unless_misfit scope span depth section spot (Some fault) walk n P h = λ alone e. covers_less (omega arith)

-- a step to an entry or to a child
counts_step : (scope : Scope) (span : Option SpanParts) (depth i : ℕ) (entry_walk child_walk : ℕ → PathWalk) (entry inner : Asked) (children : Children) (step : StepTo)
    → ((k : ℕ) → WalkCounts scope span depth (entry_walk k) (length (blocks_of_children children)) (ChildrenOpen (asked_at k entry) depth children))
    → ((k : ℕ) → WalkCounts scope span depth (child_walk k) (length (blocks_of_children children)) (ChildrenOpen (asked_at k inner) depth children))
    → WalkCounts scope span depth (walk_step i entry_walk child_walk step) (length (blocks_of_children children)) (ChildrenOpen (asked_by_step entry inner step) depth children)
counts_step scope span depth i entry_walk child_walk entry inner children (to_entry k) h g = h k
counts_step scope span depth i entry_walk child_walk entry inner children (to_child k) h g = g k
counts_step scope span depth i entry_walk child_walk entry inner children absent h g = λ alone e. absurd e
counts_step scope span depth i entry_walk child_walk entry inner children not_folder_here h g = λ alone e. absurd e

-- nothing is opened of children of which nothing is asked
nothing_asked : (depth : ℕ) (children : Children) → blocks_of_children children ≡ [] → ChildrenOpen [] depth children whole
nothing_asked depth no_child nothing = refl
nothing_asked depth (with_child d children) nothing = (refl, nothing)

-- behind the only child of which something is asked nothing is opened
behind_only : (depth : ℕ) (end : TraversalEnd) (children : Children) → blocks_of_children children ≡ [] → Behind end end (ChildrenOpen [] depth children) (blocks_of_children children ≡ [])
behind_only depth whole children nothing = nothing_asked depth children nothing
behind_only depth (stopped stop) children nothing = (refl, nothing)

mutual
  -- a walk from a node on
  counts_walk : (scope : Scope) (span : Option SpanParts) (depth i : ℕ) (position : Position) (path : List (List ℕ)) (d : Dag)
      → WalkCounts scope span depth (walk_from i position depth path d) (length (blocks d)) (Opens (along scope span position path) depth d)
  counts_walk scope span depth i position path (unopened cid) = λ alone e. covers_same refl
  counts_walk scope span depth i position [] (bare section fault) = counts_end scope span depth (bare section fault)
  counts_walk scope span depth i position (name ∷ path) (bare section None) = λ alone e. covers_less (omega arith)
  counts_walk scope span depth i position (name ∷ path) (bare section (Some fault)) = λ alone e. covers_less (omega arith)
  counts_walk scope span depth i position [] (node section kind children) = counts_end scope span depth (node section kind children)
  counts_walk scope span depth i position (name ∷ path) (node section kind children) =
      let below : Position = child_below position (slot_of name (length (passed position))) in
      let step : StepTo = step_of kind (length (passed position)) name in
      let entry_walk : ℕ → PathWalk = λ k. walk_child k (i + 1) top (depth + 1) path children in
      let child_walk : ℕ → PathWalk = λ k. walk_child k i below (depth + 1) (name ∷ path) children in
      let entry : Asked = along scope span top path in
      let inner : Asked = along scope span below (name ∷ path) in
      λ alone e. covers_so (λ opens. (refl, opens)) (counts_unless_misfit scope span depth section (spot_at section.cid depth position) (position_fault position kind) (walk_step i entry_walk child_walk step)
      (length (blocks_of_children children)) (ChildrenOpen (asked_by_step entry inner step) (depth + 1) children)
      (counts_step scope span (depth + 1) i entry_walk child_walk entry inner children step (λ k. counts_walk_child scope span (depth + 1) k (i + 1) top path children)
      (λ k. counts_walk_child scope span (depth + 1) k i below (name ∷ path) children)) alone e)

  -- a walk from a child on: nothing is asked of the other children
  counts_walk_child : (scope : Scope) (span : Option SpanParts) (depth k i : ℕ) (position : Position) (path : List (List ℕ)) (children : Children)
      → WalkCounts scope span depth (walk_child k i position depth path children) (length (blocks_of_children children)) (ChildrenOpen (asked_at k (along scope span position path)) depth children)
  counts_walk_child scope span depth k i position path no_child = λ alone e. absurd e
  counts_walk_child scope span depth zero i position path (with_child d children) = λ alone e.
      let walk : PathWalk = walk_from i position depth path d in
      let end : TraversalEnd = (from_end walk.end scope span (length walk.sections + depth)).end in
      covers_so (λ both. (end, both.0, behind_only depth end children both.1))
      (covers_as (omega arith) refl (covers_child d children (counts_walk scope span depth i position path d alone e) (none_held (blocks_of_children children))))
  counts_walk_child scope span depth (suc k) i position path (with_child d children) = λ alone e.
      covers_so (λ both. (whole, (refl, both.0), both.1))
      (covers_as (omega arith) refl (covers_child d children (none_held (blocks d)) (counts_walk_child scope span depth k i position path children alone e)))

-- ---- of a query

-- the places of a walk are as many as its sections
walk_places-length : (depth : ℕ) (sections : List Section) → length (walk_places depth sections) ≡ length sections
walk_places-length depth [] = refl
walk_places-length depth (section ∷ sections) = ap (λ (n : ℕ). suc n) (walk_places-length (depth + 1) sections)

-- what the sections of a query have opened, once the traversal came to a place or through, is just what the query asks for
pub just_asked : (q : QueryParts) (d : Dag) → IsOpenedFor d q → IsAtPlace (traversal q d).end → Opens (along q.scope q.span top q.path) 1 d (traversal q d).end
just_asked q d right e =
    let walk : PathWalk = path_walk q.path d in
    let depth : ℕ = length walk.sections + 1 in
    let places : List Place = (from_end walk.end q.scope q.span depth).places in
    let all : Covers (length walk.sections + length places) (length (blocks d)) (Opens (along q.scope q.span top q.path) 1 d (traversal q d).end) =
    counts_walk q.scope q.span 1 0 top q.path d right.alone e in
    let as_many : length (blocks d) ≡ length (walk_places 1 walk.sections ++ places) =
    ap length right.opened ∙ length-map (walk_places 1 walk.sections ++ places) (λ p. p.section) in
    let sum : length (walk_places 1 walk.sections ++ places) ≡ length (walk_places 1 walk.sections) + length places =
    length-append (walk_places 1 walk.sections) places in
    let walked : length (walk_places 1 walk.sections) ≡ length walk.sections = walk_places-length 1 walk.sections in
    all.just (omega arith)
