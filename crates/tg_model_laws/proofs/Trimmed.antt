-- A partial DAG of which the first blocks alone are left, and its traversal, which stops at the next one.
use Rattle.std.proofs.Common.{◌≡◌, ◌⊎◌, ◌≤◌, ◌<◌, ◌+◌, ◌-◌, ◌++◌, ◌∷◌, ℕ, zero, suc, Bool, true, false, Option, Some, None, List, [], inl, inr, drop, length, take, refl, sym, ap, ap₂, ◌∙◌, subst, arith, length-append, append-nil, nat_lt}
use Rattle.std.proofs.lemmas.Bool.{ltb-false, ltb-true}
use Rattle.std.proofs.lemmas.List.{take_all}
use Rattle.tg_model_laws.proofs.AskedPlaces.{Behind, ChildOpens, ChildrenOpen, Opens, along, asked_at, asked_at_visits, asked_by_step, asked_inside, within}
use Rattle.tg_model_laws.proofs.StepLaws.{ends_at_terminal, goes_below, steps_on}
use Rattle.tg_model_laws.proofs.Terminals.{IsReached, Leads, leads_at, step_leads, top_reached}
use Rattle.tg_model_laws.proofs.VisitPlaces.{visits_stand}
use Rattle.tg_model_laws.specs.PartialDags.{ChildrenOpenedFrom, OpenedFrom, each, none, opened, same_bare, unseen}
use Rattle.tg_model_laws.specs.Standing.{Each, IsAt, Stands}
use Rattle.tg_model_laws.specs.Steps.{after_step, from_child, from_node}
use Rattle.tg_model.specs.Dag.{Children, Dag, Section, bare, blocks, blocks_of_children, no_child, node, unopened, with_child}
use Rattle.tg_model.specs.PathWalk.{Spot, StepTo, TraversalEnd, absent, child_below, gone, not_folder_here, spot_at, step_of, stopped, to_child, to_entry, whole}
use Rattle.tg_model.specs.Queries.{QueryParts, SpanParts}
use Rattle.tg_model.specs.Sound.{AreCheckedAt, IsCheckedAt, Position, passed, positions, top}
use Rattle.tg_model.specs.Traversal.{Place, Reach, Traversal, Visit, after_end, all_reach, and_then, at_terminal, entity_reach, giving_entries, giving_place, giving_text, text_before, text_behind, traverse, traverse_children, visited, visits}
use Rattle.tg_model.specs.declared.kinds.Kind.{Kind}
use Rattle.tg_model.specs.declared.queries.Scope.{Scope}
use Rattle.tg_model.specs.declared.queries.Scope.TheVariants as scopes
use Rattle.tg_murmur.specs.NameHash.{slot_of}

-- ---- lists

-- what is behind a front of two lists joined, within the first or behind it
drop_within : {A : Type 0} (k : ℕ) (xs ys rest : List A) (next : A) → drop k xs ≡ next ∷ rest → drop k (xs ++ ys) ≡ next ∷ (rest ++ ys)
drop_within {A = A} zero xs ys rest next e = ap (λ (l : List A). l ++ ys) e
drop_within (suc k) [] ys rest next e = absurd (cc)
drop_within (suc k) (x ∷ xs) ys rest next e = drop_within k xs ys rest next e

drop_behind : {A : Type 0} (k : ℕ) (xs ys : List A) → length xs ≤ k → drop k (xs ++ ys) ≡ drop (k - length xs) ys
drop_behind k [] ys h = let same : k ≡ k - 0 = omega arith in ap (λ (n : ℕ). drop n ys) same
drop_behind zero (x ∷ xs) ys h = absurd (omega (arith, h))
drop_behind (suc k) (x ∷ xs) ys h =
    let less : length xs ≤ k = omega (arith, h) in
    let same : k - length xs ≡ suc k - length (x ∷ xs) = omega arith in
    drop_behind k xs ys less ∙ ap (λ (n : ℕ). drop n ys) same

-- no number is below zero
none_below : {A : Type 0} {P : Type 0} (k : ℕ) (xs : List A) → xs ≡ [] → k < length xs → P
none_below {A = A} k xs e h = let nothing : length xs ≡ 0 = ap (length {A = A}) e in absurd (omega (arith, nothing, h))

-- a number is below another or not
below_or_not : (a b : ℕ) (test : Bool) → nat_lt a b ≡ test → (a < b) ⊎ (b ≤ a)
below_or_not a b true e = inl (ltb-true a b e)
below_or_not a b false e = inr (ltb-false a b e)

-- ---- the first blocks alone

abbrev mutual
  pub trimmed : ℕ → Dag → Dag
  trimmed k (unopened cid) = unopened cid
  trimmed zero (bare section fault) = unopened section.cid
  trimmed (suc k) (bare section fault) = bare section fault
  trimmed zero (node section kind children) = unopened section.cid
  trimmed (suc k) (node section kind children) = node section kind (trimmed_children k children)

  pub trimmed_children : ℕ → Children → Children
  trimmed_children k no_child = no_child
  trimmed_children k (with_child d children) = with_child (trimmed k d) (trimmed_children (k - length (blocks d)) children)

mutual
  -- it is the DAG with some blocks unopened
  pub trimmed_from : (k : ℕ) (d : Dag) → OpenedFrom (trimmed k d) d
  trimmed_from k (unopened cid) = unseen cid (unopened cid) refl
  trimmed_from zero (bare section fault) = unseen section.cid (bare section fault) refl
  trimmed_from (suc k) (bare section fault) = same_bare section fault
  trimmed_from zero (node section kind children) = unseen section.cid (node section kind children) refl
  trimmed_from (suc k) (node section kind children) = opened section kind (trimmed_children k children) children (children_from k children)

  children_from : (k : ℕ) (children : Children) → ChildrenOpenedFrom (trimmed_children k children) children
  children_from k no_child = none
  children_from k (with_child d children) =
      each (trimmed k d) d (trimmed_children (k - length (blocks d)) children) children (trimmed_from k d) (children_from (k - length (blocks d)) children)

mutual
  -- where there are no more blocks it is the DAG
  trimmed_all : (k : ℕ) (d : Dag) → length (blocks d) ≤ k → trimmed k d ≡ d
  trimmed_all k (unopened cid) h = refl
  trimmed_all zero (bare section fault) h = absurd (omega (arith, h))
  trimmed_all (suc k) (bare section fault) h = refl
  trimmed_all zero (node section kind children) h = absurd (omega (arith, h))
  trimmed_all (suc k) (node section kind children) h =
      let less : length (blocks_of_children children) ≤ k = omega (arith, h) in
      ap (node section kind) (children_all k children less)

  children_all : (k : ℕ) (children : Children) → length (blocks_of_children children) ≤ k → trimmed_children k children ≡ children
  children_all k no_child h = refl
  children_all k (with_child d children) h =
      let both : length (blocks d ++ blocks_of_children children) ≡ length (blocks d) + length (blocks_of_children children) = length-append (blocks d) (blocks_of_children children) in
      let first : length (blocks d) ≤ k = omega (arith, both, h) in
      let rest : length (blocks_of_children children) ≤ k - length (blocks d) = omega (arith, both, h) in
      ap₂ with_child (trimmed_all k d first) (children_all (k - length (blocks d)) children rest)

-- the front of two lists joined
take_joined : {A : Type 0} (k : ℕ) (xs ys : List A) → take k (xs ++ ys) ≡ take k xs ++ take (k - length xs) ys
take_joined {A = A} k [] ys =
    let nothing : take {A = A} k [] ≡ [] = take_all k [] (omega arith) in
    let same : k ≡ k - 0 = omega arith in
    ap (λ (n : ℕ). take n ys) same ∙ ap (λ (l : List A). l ++ take (k - 0) ys) (sym nothing)
take_joined zero (x ∷ xs) ys =
    let same : 0 ≡ 0 - length (x ∷ xs) = omega arith in
    ap (λ (n : ℕ). take n ys) same
take_joined {A = A} (suc k) (x ∷ xs) ys =
    let same : k - length xs ≡ suc k - length (x ∷ xs) = omega arith in
    ap (λ (l : List A). x ∷ l) (take_joined k xs ys) ∙ ap (λ (n : ℕ). x ∷ (take k xs ++ take n ys)) same

mutual
  -- these blocks are left
  pub trimmed_blocks : (k : ℕ) (d : Dag) → blocks (trimmed k d) ≡ take k (blocks d)
  trimmed_blocks k (unopened cid) = sym (take_all k [] (omega arith))
  trimmed_blocks zero (bare section fault) = refl
  trimmed_blocks (suc k) (bare section fault) = ap (λ (l : List Section). section ∷ l) (sym (take_all k [] (omega arith)))
  trimmed_blocks zero (node section kind children) = refl
  trimmed_blocks (suc k) (node section kind children) = ap (λ (l : List Section). section ∷ l) (children_blocks k children)

  children_blocks : (k : ℕ) (children : Children) → blocks_of_children (trimmed_children k children) ≡ take k (blocks_of_children children)
  children_blocks k no_child = sym (take_all k [] (omega arith))
  children_blocks k (with_child d children) =
      ap₂ (λ (a b : List Section). a ++ b) (trimmed_blocks k d) (children_blocks (k - length (blocks d)) children) ∙ sym (take_joined k (blocks d) (blocks_of_children children))

-- ---- traversals

-- a traversal stops behind so many places, where the next of the sections is wanted
pub record Stops (t : Traversal) (k : ℕ) (sections : List Section) : Type 0 where
  pub spot : Spot
  pub end : t.end ≡ stopped (gone spot)
  pub many : length t.places ≡ k
  pub next : Section
  pub rest : List Section
  pub is : drop k sections ≡ next ∷ rest
  pub cid : spot.cid ≡ next.cid

-- a traversal ends so, with as many places as there are sections
record Through (t : Traversal) (end : TraversalEnd) (sections : List Section) : Type 0 where
  ends : t.end ≡ end
  many : length t.places ≡ length sections

-- one behind another that stopped, or came through
then_stopped : (a b : Traversal) (end : TraversalEnd) → (end ≡ whole → ⊥) → a.end ≡ end → and_then a b ≡ a
then_stopped a b whole other e = absurd (other refl)
then_stopped a b (stopped stop) other e = ap (λ (end : TraversalEnd). after_end end a b) e

then_through : (a b : Traversal) → a.end ≡ whole
    → (let both : Traversal = record { places = a.places ++ b.places; text = a.text ++ b.text; met = a.met ++ b.met; end = b.end } in and_then a b ≡ both)
then_through a b e = ap (λ (end : TraversalEnd). after_end end a b) e

-- the first stops
first_stops : (a b : Traversal) (k : ℕ) (xs ys : List Section) → Stops a k xs → Stops (and_then a b) k (xs ++ ys)
first_stops a b k xs ys h =
    subst (λ (t : Traversal). Stops t k (xs ++ ys)) (sym (then_stopped a b (stopped (gone h.spot)) (λ e. cc) h.end))
    (record { spot = h.spot; end = h.end; many = h.many; next = h.next; rest = h.rest ++ ys; is = drop_within k xs ys h.rest h.next h.is; cid = h.cid })

-- the first comes through, and the second stops
second_stops : (a b : Traversal) (k : ℕ) (xs ys : List Section) → Through a whole xs → length xs ≤ k → Stops b (k - length xs) ys → Stops (and_then a b) k (xs ++ ys)
second_stops a b k xs ys h inside_it g =
    let count : length (a.places ++ b.places) ≡ length a.places + length b.places = length-append a.places b.places in
    subst (λ (t : Traversal). Stops t k (xs ++ ys)) (sym (then_through a b h.ends))
    (record { spot = g.spot; end = g.end; many = omega (arith, count, h.many, g.many, inside_it); next = g.next; rest = g.rest; is = drop_behind k xs ys inside_it ∙ g.is; cid = g.cid })

-- a text behind a traversal
text_stops : (t : Traversal) (text : List ℕ) (k : ℕ) (xs : List Section) → Stops t k xs → Stops (and_then t (giving_text text)) k xs
text_stops t text k xs h = subst (Stops (and_then t (giving_text text)) k) (append-nil xs) (first_stops t (giving_text text) k xs [] h)

-- a place before it
place_stops : (p : Place) (text : List ℕ) (section : Section) (t : Traversal) (k : ℕ) (xs : List Section) → Stops t k xs → Stops (and_then (giving_place p text) t) (suc k) (section ∷ xs)
place_stops p text section t k xs h = record { spot = h.spot; end = h.end; many = ap suc h.many; next = h.next; rest = h.rest; is = h.is; cid = h.cid }

-- one behind another, by the end of the first
both_through : (first end : TraversalEnd) (a b : Traversal) (P : TraversalEnd → Type 0) (xs ys : List Section) → Through a first xs → Behind first end P (ys ≡ []) → (P end → Through b end ys)
    → Through (and_then a b) end (xs ++ ys)
both_through whole end a b P xs ys h behind later =
    let g : Through b end ys = later behind in
    subst (λ (t : Traversal). Through t end (xs ++ ys)) (sym (then_through a b h.ends))
    (record { ends = g.ends; many = length-append a.places b.places ∙ ap₂ (λ (m n : ℕ). m + n) h.many g.many ∙ sym (length-append xs ys) })
both_through (stopped stop) end a b P xs ys h behind later =
    subst (λ (t : Traversal). Through t end (xs ++ ys)) (sym (then_stopped a b (stopped stop) (λ e. cc) h.ends))
    (record { ends = h.ends ∙ sym behind.0; many = h.many ∙ ap (length {A = Section}) (sym (append-nil xs) ∙ ap (λ (zs : List Section). xs ++ zs) (sym behind.1)) })

-- a text behind it
text_through : (t : Traversal) (text : List ℕ) (end : TraversalEnd) (xs : List Section) → Through t end xs → Through (and_then t (giving_text text)) end xs
text_through t text whole xs h =
    subst (λ (t : Traversal). Through t whole xs) (sym (then_through t (giving_text text) h.ends))
    (record { ends = refl; many = ap (length {A = Place}) (append-nil t.places) ∙ h.many })
text_through t text (stopped stop) xs h = subst (λ (t : Traversal). Through t (stopped stop) xs) (sym (then_stopped t (giving_text text) (stopped stop) (λ e. cc) h.ends)) h

-- ---- below a node

-- a child that is gone into at its position, or passed over
inside_through : (into : Option (Reach × Position)) (place : Position) (depth : ℕ) (d : Dag) (first : TraversalEnd) → Stands into place → IsCheckedAt place d
    → ChildOpens (asked_inside into) (λ asked. Opens asked depth d) d first
    → ((reach : Reach) (position : Position) → IsCheckedAt position d → Opens (within reach position) depth d first → Through (traverse reach position depth d) first (blocks d))
    → Through (visited (λ reach position. traverse reach position depth d) into) first (blocks d)
inside_through None place depth d first stands checked h inside = record { ends = sym h.0; many = ap (length {A = Section}) (sym h.1) }
inside_through (Some into) place depth d first stands checked h inside = inside into.0 into.1 (subst (λ (p : Position). IsCheckedAt p d) (sym stands) checked) h

mutual
  -- just what is asked is opened, so the traversal ends as told and gives each block
  through : (reach : Reach) (position : Position) (depth : ℕ) (d : Dag) (end : TraversalEnd) → IsCheckedAt position d → Opens (within reach position) depth d end
      → Through (traverse reach position depth d) end (blocks d)
  through reach position depth (unopened cid) end checked h = record { ends = sym h; many = refl }
  through reach position depth (bare section fault) end checked h = absurd (cc h.1)
  through reach position depth (node section kind children) end checked h =
      let inside = children_through (visits reach position kind) (positions position kind) (depth + 1) children end (visits_stand reach position kind) checked.1 h.1 in
      let below = text_through (traverse_children (visits reach position kind) (depth + 1) children) (text_behind reach kind) end (blocks_of_children children) inside in
      subst (λ (t : Traversal). Through t end (section ∷ blocks_of_children children)) (sym (goes_below reach position depth section kind children checked.0.stands))
      (record { ends = below.ends; many = ap suc below.many })

  -- and of children
  children_through : (todo : List Visit) (places : List Position) (depth : ℕ) (children : Children) (end : TraversalEnd) → Each Stands todo places → AreCheckedAt places children
      → ChildrenOpen (asked_at_visits todo) depth children end → Through (traverse_children todo depth children) end (blocks_of_children children)
  children_through todo places depth no_child end stand checked h = record { ends = sym h; many = refl }
  children_through [] places depth (with_child d children) end stand checked h = record { ends = sym h.0; many = ap (length {A = Section}) (sym h.1) }
  children_through (visit ∷ todo) [] depth (with_child d children) end stand checked h = absurd checked
  children_through (visit ∷ todo) (place ∷ places) depth (with_child d children) end stand checked h =
      let here : Traversal = visited (λ reach position. traverse reach position depth d) visit.into in
      let rest : Traversal = traverse_children todo depth children in
      let both : Through (and_then here rest) end (blocks d ++ blocks_of_children children) =
      both_through h.0 end here rest (ChildrenOpen (asked_at_visits todo) depth children) (blocks d) (blocks_of_children children)
      (inside_through visit.into place depth d h.0 stand.0 checked.0 h.1 (λ reach position checked opens. through reach position depth d h.0 checked opens)) h.2
      (λ later. children_through todo places depth children end stand.1 checked.1 later) in
      record { ends = both.ends; many = both.many }

-- a child in which the traversal stops
inside_stops : (k : ℕ) (into : Option (Reach × Position)) (place : Position) (depth : ℕ) (d : Dag) (first : TraversalEnd) → Stands into place → IsCheckedAt place d
    → ChildOpens (asked_inside into) (λ asked. Opens asked depth d) d first → k < length (blocks d)
    → ((reach : Reach) (position : Position) → IsCheckedAt position d → Opens (within reach position) depth d first → Stops (traverse reach position depth (trimmed k d)) k (blocks d))
    → Stops (visited (λ reach position. traverse reach position depth (trimmed k d)) into) k (blocks d)
inside_stops k None place depth d first stands checked h less inside = none_below k (blocks d) h.1 less
inside_stops k (Some into) place depth d first stands checked h less inside = inside into.0 into.1 (subst (λ (p : Position). IsCheckedAt p d) (sym stands) checked) h

-- behind a child something is opened, so the traversal came through it
came_through : (first end : TraversalEnd) (P : TraversalEnd → Type 0) (ys : List Section) (k : ℕ) → Behind first end P (ys ≡ []) → k < length ys → (first ≡ whole) × P end
came_through whole end P ys k h less = (refl, h)
came_through (stopped stop) end P ys k h less = none_below k ys h.1 less

mutual
  -- of the first blocks alone the traversal gives just those, and the next one is wanted
  stops : (k : ℕ) (reach : Reach) (position : Position) (depth : ℕ) (d : Dag) (end : TraversalEnd) → IsCheckedAt position d → Opens (within reach position) depth d end → k < length (blocks d)
      → Stops (traverse reach position depth (trimmed k d)) k (blocks d)
  stops k reach position depth (unopened cid) end checked h less = none_below k (blocks (unopened cid)) refl less
  stops k reach position depth (bare section fault) end checked h less = absurd (cc h.1)
  stops zero reach position depth (node section kind children) end checked h less =
      record { spot = spot_at section.cid depth position; end = refl; many = refl; next = section; rest = blocks_of_children children; is = refl; cid = refl }
  stops (suc k) reach position depth (node section kind children) end checked h less =
      let inside_it : k < length (blocks_of_children children) = omega (arith, less) in
      let inside = children_stop k (visits reach position kind) (positions position kind) (depth + 1) children end (visits_stand reach position kind) checked.1 h.1 inside_it in
      let behind : Traversal = and_then (traverse_children (visits reach position kind) (depth + 1) (trimmed_children k children)) (giving_text (text_behind reach kind)) in
      subst (λ (t : Traversal). Stops t (suc k) (section ∷ blocks_of_children children)) (sym (goes_below reach position depth section kind (trimmed_children k children) checked.0.stands))
      (place_stops (record { section = section; depth = depth }) (text_before reach position section kind) section behind k (blocks_of_children children)
      (text_stops (traverse_children (visits reach position kind) (depth + 1) (trimmed_children k children)) (text_behind reach kind) k (blocks_of_children children) inside))

  -- and of children
  children_stop : (k : ℕ) (todo : List Visit) (places : List Position) (depth : ℕ) (children : Children) (end : TraversalEnd) → Each Stands todo places → AreCheckedAt places children
      → ChildrenOpen (asked_at_visits todo) depth children end → k < length (blocks_of_children children) → Stops (traverse_children todo depth (trimmed_children k children)) k (blocks_of_children children)
  children_stop k todo places depth no_child end stand checked h less = none_below k (blocks_of_children no_child) refl less
  children_stop k [] places depth (with_child d children) end stand checked h less = none_below k (blocks_of_children (with_child d children)) h.1 less
  children_stop k (visit ∷ todo) [] depth (with_child d children) end stand checked h less = absurd checked
  children_stop k (visit ∷ todo) (place ∷ places) depth (with_child d children) end stand checked h less =
      let both : length (blocks d ++ blocks_of_children children) ≡ length (blocks d) + length (blocks_of_children children) = length-append (blocks d) (blocks_of_children children) in
      let later : Traversal = traverse_children todo depth (trimmed_children (k - length (blocks d)) children) in
      let all = λ (t : Traversal) (g : Stops t k (blocks d ++ blocks_of_children children)).
      (let same : Stops (and_then (giving_entries visit.met) t) k (blocks d ++ blocks_of_children children) =
      record { spot = g.spot; end = g.end; many = g.many; next = g.next; rest = g.rest; is = g.is; cid = g.cid } in same) in
      elim (below_or_not k (length (blocks d)) (nat_lt k (length (blocks d))) refl) [
        | inl inside_it ↦ all _ (first_stops (visited (λ reach position. traverse reach position depth (trimmed k d)) visit.into) later k (blocks d) (blocks_of_children children)
            (inside_stops k visit.into place depth d h.0 stand.0 checked.0 h.1 inside_it (λ reach position checked opens. stops k reach position depth d h.0 checked opens inside_it)))
        | inr behind ↦
            let less_there : k - length (blocks d) < length (blocks_of_children children) = omega (arith, both, less, behind) in
            let came = came_through h.0 end (ChildrenOpen (asked_at_visits todo) depth children) (blocks_of_children children) (k - length (blocks d)) h.2 less_there in
            let here : Through (visited (λ reach position. traverse reach position depth d) visit.into) whole (blocks d) =
            subst (λ (first : TraversalEnd). Through (visited (λ reach position. traverse reach position depth d) visit.into) first (blocks d)) came.0
            (inside_through visit.into place depth d h.0 stand.0 checked.0 h.1 (λ reach position checked opens. through reach position depth d h.0 checked opens)) in
            all _ (second_stops (visited (λ reach position. traverse reach position depth (trimmed k d)) visit.into) later k (blocks d) (blocks_of_children children)
            (subst (λ (x : Dag). Through (visited (λ reach position. traverse reach position depth x) visit.into) whole (blocks d)) (sym (trimmed_all k d behind)) here)
            behind (children_stop (k - length (blocks d)) todo places depth children end stand.1 checked.1 came.1 less_there))
      ]

-- ---- along a path

-- a place of the path before what is left
on_path : (q : QueryParts) (section : Section) (depth k : ℕ) (t : Traversal) (xs : List Section) → Stops t k xs
    → Stops (and_then (giving_place (record { section = section; depth = depth }) []) t) (suc k) (section ∷ xs)
on_path q section depth k t xs h = place_stops (record { section = section; depth = depth }) [] section t k xs h

-- no child is opened of which nothing is asked
none_opened : (depth : ℕ) (children : Children) (end : TraversalEnd) → ChildrenOpen [] depth children end → blocks_of_children children ≡ []
none_opened depth no_child end h = refl
none_opened depth (with_child d children) end h = h.1

only_one : (first end : TraversalEnd) (depth : ℕ) (children : Children) → Behind first end (ChildrenOpen [] depth children) (blocks_of_children children ≡ []) → blocks_of_children children ≡ []
only_one whole end depth children h = none_opened depth children end h
only_one (stopped stop) end depth children h = h.1

-- stops among the first of two lists of which the other is empty
longer_stops : (t : Traversal) (k : ℕ) (xs ys : List Section) → ys ≡ [] → Stops t k xs → Stops t k (xs ++ ys)
longer_stops t k xs ys e h = subst (Stops t k) (sym (append-nil xs) ∙ ap (λ (zs : List Section). xs ++ zs) (sym e)) h

later_stops : (t : Traversal) (k : ℕ) (xs ys : List Section) → xs ≡ [] → Stops t k ys → Stops t k (xs ++ ys)
later_stops t k xs ys e h = subst (λ (zs : List Section). Stops t k (zs ++ ys)) (sym e) h

-- at the terminal
end_stops : (scope : Scope) (span : Option SpanParts) (depth k : ℕ) (section : Section) (kind : Kind) (children : Children) (end : TraversalEnd) → IsCheckedAt top (node section kind children)
    → Opens (along scope span top []) depth (node section kind children) end → suc k < length (section ∷ blocks_of_children children)
    → Stops (at_terminal scope span depth (node section kind (trimmed_children k children))) (suc k) (section ∷ blocks_of_children children)
end_stops scopes.Block span depth k section kind children end checked h less = absurd (cc h.0)
end_stops scopes.Entity span depth k section kind children end checked h less = stops (suc k) (entity_reach span section kind) top depth (node section kind children) end checked (refl, h.1) less
end_stops scopes.All span depth k section kind children end checked h less = stops (suc k) (all_reach kind) top depth (node section kind children) end checked (refl, h.1) less

module _ (q : QueryParts) where
  mutual
    -- from a node of the path on
    pub path_stops : (k i depth : ℕ) (position : Position) (path : List (List ℕ)) (d : Dag) (end : TraversalEnd) → IsReached position path → IsCheckedAt position d
        → Opens (along q.scope q.span position path) depth d end → k < length (blocks d) → Stops (from_node q i position depth path (trimmed k d)) k (blocks d)
    path_stops k i depth position path (unopened cid) end reached checked h less = none_below k (blocks (unopened cid)) refl less
    path_stops zero i depth position path (bare section fault) end reached checked h less =
        record { spot = spot_at section.cid depth position; end = refl; many = refl; next = section; rest = []; is = refl; cid = refl }
    path_stops (suc k) i depth position path (bare section fault) end reached checked h less = absurd (omega (arith, less))
    path_stops zero i depth position path (node section kind children) end reached checked h less =
        record { spot = spot_at section.cid depth position; end = refl; many = refl; next = section; rest = blocks_of_children children; is = refl; cid = refl }
    path_stops (suc k) i depth position [] (node section kind children) end reached checked h less =
        subst (λ (t : Traversal). Stops t (suc k) (section ∷ blocks_of_children children)) (sym (ends_at_terminal q i position depth section kind (trimmed_children k children)))
        (end_stops q.scope q.span depth k section kind children end (subst (λ (p : Position). IsCheckedAt p (node section kind children)) reached checked) h less)
    path_stops (suc k) i depth position (name ∷ path) (node section kind children) end reached checked h less =
        let number : ℕ = slot_of name (length (passed position)) in
        let below : Position = child_below position number in
        let inside_it : k < length (blocks_of_children children) = omega (arith, less) in
        let some : Children = trimmed_children k children in
        let entry : ℕ → Traversal = λ j. from_child q j (i + 1) top (depth + 1) path some in
        let inner : ℕ → Traversal = λ j. from_child q j i below (depth + 1) (name ∷ path) some in
        let step : StepTo = step_of kind (length (passed position)) name in
        subst (λ (t : Traversal). Stops t (suc k) (section ∷ blocks_of_children children)) (sym (steps_on q i position depth name path section kind some checked.0.stands))
        (on_path q section depth k (after_step i entry inner step) (blocks_of_children children)
        ((elim step as (λ (step : StepTo). Leads 0 (positions position kind) below step
        → ChildrenOpen (asked_by_step (along q.scope q.span top path) (along q.scope q.span below (name ∷ path)) step) (depth + 1) children end
        → Stops (after_step i entry inner step) k (blocks_of_children children)) [
          | to_entry j ↦ λ leads opens. child_stops j k (i + 1) (depth + 1) top path children (positions position kind) end (top_reached path) (leads_at j top (positions position kind) leads) checked.1 opens inside_it
          | to_child j ↦ λ leads opens. child_stops j k i (depth + 1) below (name ∷ path) children (positions position kind) end tt (leads_at j below (positions position kind) leads) checked.1 opens inside_it
          | absent ↦ λ leads opens. none_below k (blocks_of_children children) (none_opened (depth + 1) children end opens) inside_it
          | not_folder_here ↦ λ leads opens. none_below k (blocks_of_children children) (none_opened (depth + 1) children end opens) inside_it
        ]) (step_leads position kind (length (passed position)) name) h.1))

    -- and from a child on
    child_stops : (j k i depth : ℕ) (position : Position) (path : List (List ℕ)) (children : Children) (places : List Position) (end : TraversalEnd) → IsReached position path → IsAt j position places
        → AreCheckedAt places children → ChildrenOpen (asked_at j (along q.scope q.span position path)) depth children end → k < length (blocks_of_children children)
        → Stops (from_child q j i position depth path (trimmed_children k children)) k (blocks_of_children children)
    child_stops j k i depth position path no_child places end reached at checked h less = none_below k (blocks_of_children no_child) refl less
    child_stops j k i depth position path (with_child d children) [] end reached at checked h less = absurd checked
    child_stops zero k i depth position path (with_child d children) (place ∷ places) end reached at checked h less =
        let rest : blocks_of_children children ≡ [] = only_one h.0 end depth children h.2 in
        let both : length (blocks d ++ blocks_of_children children) ≡ length (blocks d) + length (blocks_of_children children) = length-append (blocks d) (blocks_of_children children) in
        let no_more : length (blocks_of_children children) ≡ 0 = ap (length {A = Section}) rest in
        let here : k < length (blocks d) = omega (arith, both, no_more, less) in
        longer_stops (from_node q i position depth path (trimmed k d)) k (blocks d) (blocks_of_children children) rest
        (path_stops k i depth position path d h.0 reached (subst (λ (p : Position). IsCheckedAt p d) at checked.0) h.1 here)
    child_stops (suc j) k i depth position path (with_child d children) (place ∷ places) end reached at checked h less =
        let nothing : length (blocks d) ≡ 0 = ap (length {A = Section}) h.1.1 in
        let both : length (blocks d ++ blocks_of_children children) ≡ length (blocks d) + length (blocks_of_children children) = length-append (blocks d) (blocks_of_children children) in
        let same : k ≡ k - length (blocks d) = omega (arith, nothing) in
        let there : k < length (blocks_of_children children) = omega (arith, both, nothing, less) in
        let later : ChildrenOpen (asked_at j (along q.scope q.span position path)) depth children end =
        subst (λ (first : TraversalEnd). Behind first end (ChildrenOpen (asked_at j (along q.scope q.span position path)) depth children) (blocks_of_children children ≡ [])) h.1.0 h.2 in
        subst (λ (n : ℕ). Stops (from_child q j i position depth path (trimmed_children n children)) k (blocks d ++ blocks_of_children children)) same
        (later_stops (from_child q j i position depth path (trimmed_children k children)) k (blocks d) (blocks_of_children children) h.1.1
        (child_stops j k i depth position path children places end reached at checked.1 later there))
