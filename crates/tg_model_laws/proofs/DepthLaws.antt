-- A DAG, and the traversal of it, cut at a depth.
use Rattle.std.proofs.Common.{◌≡◌, ◌≤◌, ◌<◌, ◌+◌, ◌∷◌, ℕ, zero, suc, Bool, true, false, List, [], All, Ok, Option, Some, None, length, nat_lt, refl, sym, ap, ap₂, ◌∙◌, subst, arith}
use Rattle.std.proofs.lemmas.Bool.{le-ltb, lt-ltb, ltb-false, ltb-true}
use Rattle.std.proofs.lemmas.List.Elements.{All-append, All-cons, All-nil, Contains-append_left, Contains-append_right}
use Rattle.std.specs.Prelude.{if◌then◌else◌}
use Rattle.tg_cid.specs.Cid.{CidParts}
use Rattle.tg_model_laws.proofs.OpenedDags.{first_one}
use Rattle.tg_model_laws.proofs.PartialLaws.{followed}
use Rattle.tg_model_laws.proofs.ShownDags.{Computes, HoldsEach, shown_node}
use Rattle.tg_model_laws.proofs.StepLaws.{ends_at_terminal, goes_below, steps_on}
use Rattle.tg_model_laws.proofs.Terminals.{IsReached, Leads, leads_at, step_leads, top_reached}
use Rattle.tg_model_laws.proofs.VisitPlaces.{visits_stand}
use Rattle.tg_model_laws.specs.Depths.{EndsDeeper, IsCutAt, children_down_to, down_to}
use Rattle.tg_model_laws.specs.PartialDags.{ChildrenOpenedFrom, OpenedFrom, each, none, opened, unseen}
use Rattle.tg_model_laws.specs.Standing.{Each, IsAt, Stands}
use Rattle.tg_model_laws.specs.Steps.{after_step, from_child, from_node}
use Rattle.tg_model.specs.Computed.{read}
use Rattle.tg_model.specs.Dag.{AreWhole, Children, Dag, IsWhole, Section, bare, blocks, blocks_of_children, no_child, node, root_cid, root_cids, unopened, with_child}
use Rattle.tg_model.specs.PathWalk.{Spot, StepTo, TraversalEnd, absent, child_below, gone, not_folder_here, spot_at, step_of, stopped, to_child, to_entry, whole}
use Rattle.tg_model.specs.Queries.{QueryParts, SpanParts}
use Rattle.tg_model.specs.Sound.{AreCheckedAt, IsCheckedAt, IsSound, Position, passed, positions, top}
use Rattle.tg_model.specs.StoreView.{children_by, opened_to}
use Rattle.tg_model.specs.Stores.{Store}
use Rattle.tg_model.specs.Traversal.{ListedEntry, Place, Reach, Traversal, Visit, after_end, all_reach, and_then, at_terminal, ended, entity_reach, giving_entries, giving_place, giving_text, text_before, text_behind, traversal, traverse, traverse_children, visited, visits}
use Rattle.tg_model.specs.declared.kinds.Kind.{Kind}
use Rattle.tg_model.specs.declared.queries.Scope.{Scope}
use Rattle.tg_model.specs.declared.queries.Scope.TheVariants as scopes
use Rattle.tg_murmur.specs.NameHash.{slot_of}

-- ---- cut DAGs

-- one of two DAGs by a test that is known
cut_off : {A : Type 0} (test : Bool) (a b : A) → test ≡ true → (if test then a else b) ≡ a
cut_off true a b e = refl
cut_off false a b e = cc

not_cut : {A : Type 0} (test : Bool) (a b : A) → test ≡ false → (if test then a else b) ≡ b
not_cut true a b e = cc
not_cut false a b e = refl

-- a choice of DAGs by a test, of which each is opened from the other
either_from : (test : Bool) (a b d : Dag) → OpenedFrom a d → OpenedFrom b d → OpenedFrom (if test then a else b) d
either_from true a b d h g = h
either_from false a b d h g = g

mutual
  -- a cut DAG is the DAG with some blocks unopened
  pub cut_from : (most depth : ℕ) (d : Dag) → IsWhole d → OpenedFrom (down_to most depth d) d
  cut_from most depth (unopened cid) w = absurd w
  cut_from most depth (bare section fault) w = absurd w
  cut_from most depth (node section kind children) w =
      either_from (nat_lt most depth) (unopened section.cid) (node section kind (children_down_to most (depth + 1) children)) (node section kind children)
      (unseen section.cid (node section kind children) refl)
      (opened section kind (children_down_to most (depth + 1) children) children (children_cut_from most (depth + 1) children w))

  children_cut_from : (most depth : ℕ) (children : Children) → AreWhole children → ChildrenOpenedFrom (children_down_to most depth children) children
  children_cut_from most depth no_child w = none
  children_cut_from most depth (with_child d children) w =
      each (down_to most depth d) d (children_down_to most depth children) children (cut_from most depth d w.0) (children_cut_from most depth children w.1)

-- ---- what a store shows, cut

module _ (computes : Computes) (store : Store) where
  mutual
    -- what is shown down to `n` blocks, cut above that
    same_cut : (n most depth : ℕ) (position : Position) (d : Dag) → IsWhole d → IsCheckedAt position d → HoldsEach computes store (blocks d) → most < depth + n
        → down_to most depth (opened_to n store (root_cid d)) ≡ down_to most depth d
    same_cut n most depth position (unopened cid) w checked holds deep = absurd w
    same_cut n most depth position (bare section fault) w checked holds deep = absurd w
    same_cut zero most depth position (node section kind children) w checked holds deep =
        let below : most < depth = omega (arith, deep) in
        sym (cut_off (nat_lt most depth) (unopened section.cid) (node section kind (children_down_to most (depth + 1) children)) (lt-ltb most depth below))
    same_cut (suc n) most depth position (node section kind children) w checked holds deep =
        let here = holds section (first_one section (blocks_of_children children)) in
        let is : read section.cid section.block ≡ Ok kind = (computes section.cid section.block kind here.1).1 checked.0.reads in
        let below : most < (depth + 1) + n = omega (arith, deep) in
        let shown : opened_to (suc n) store section.cid ≡ node section kind (children_by (opened_to n store) (root_cids children)) =
        shown_node computes store n section kind here.0 is ∙ ap (λ (cids : List CidParts). node section kind (children_by (opened_to n store) cids)) (sym checked.0.links) in
        ap (down_to most depth) shown
        ∙ ap (λ (children : Children). if nat_lt most depth then unopened section.cid else node section kind children)
        (children_same_cut n most (depth + 1) (positions position kind) children w checked.1
        (λ other within. holds other (Contains-append_right (section ∷ []) (blocks_of_children children) other within)) below)

    children_same_cut : (n most depth : ℕ) (places : List Position) (children : Children) → AreWhole children → AreCheckedAt places children
        → HoldsEach computes store (blocks_of_children children) → most < depth + n
        → children_down_to most depth (children_by (opened_to n store) (root_cids children)) ≡ children_down_to most depth children
    children_same_cut n most depth places no_child w checked holds deep = refl
    children_same_cut n most depth [] (with_child d children) w checked holds deep = absurd checked
    children_same_cut n most depth (place ∷ places) (with_child d children) w checked holds deep =
        ap₂ with_child
        (same_cut n most depth place d w.0 checked.0 (λ section within. holds section (Contains-append_left (blocks d) (blocks_of_children children) section within)) deep)
        (children_same_cut n most depth places children w.1 checked.1
        (λ section within. holds section (Contains-append_right (blocks d) (blocks_of_children children) section within)) deep)

  pub shown_cut : (n most : ℕ) (d : Dag) → IsWhole d → IsCheckedAt top d → HoldsEach computes store (blocks d) → most ≤ n → down_to most 1 (opened_to n store (root_cid d)) ≡ down_to most 1 d
  shown_cut n most d w checked holds less = same_cut n most 1 top d w checked holds (omega (arith, less))

-- ---- traversals of a cut DAG

-- its places aren't deeper, and it stops only where a deeper block is wanted
record Within (most : ℕ) (t : Traversal) : Type 0 where
  places : All (λ (p : Place). p.depth ≤ most) t.places
  end : EndsDeeper most t.end

abbrev IsWithin : ℕ → Place → Type 0
IsWithin most p = p.depth ≤ most

-- one behind another
then_within : (most : ℕ) (end : TraversalEnd) (a b : Traversal) → a.end ≡ end → Within most a → Within most b → Within most (after_end end a b)
then_within most whole a b e h g = record { places = All-append (IsWithin most) a.places b.places h.places g.places; end = g.end }
then_within most (stopped stop) a b e h g = h

both_within : (most : ℕ) (a b : Traversal) → Within most a → Within most b → Within most (and_then a b)
both_within most a b h g = then_within most a.end a b refl h g

-- what gives no place and comes through
text_within : (most : ℕ) (text : List ℕ) → Within most (giving_text text)
text_within most text = record { places = All-nil (IsWithin most); end = tt }

entries_within : (most : ℕ) (met : List ListedEntry) → Within most (giving_entries met)
entries_within most met = record { places = All-nil (IsWithin most); end = tt }

-- one place
place_within : (most : ℕ) (p : Place) (text : List ℕ) → p.depth ≤ most → Within most (giving_place p text)
place_within most p text h = record { places = All-cons (IsWithin most) p [] h (All-nil (IsWithin most)); end = tt }

-- a deeper block is wanted
deeper_within : (most : ℕ) (spot : Spot) → most < spot.depth → Within most (ended (gone spot))
deeper_within most spot h = record { places = All-nil (IsWithin most); end = h }

-- a child that is gone into at its position, or passed over
inside_within : (most : ℕ) (into : Option (Reach × Position)) (place : Position) (depth : ℕ) (d some : Dag) → Stands into place → IsCheckedAt place d
    → ((reach : Reach) (position : Position) → IsCheckedAt position d → Within most (traverse reach position depth some)) → Within most (visited (λ reach position. traverse reach position depth some) into)
inside_within most None place depth d some stands checked h = text_within most []
inside_within most (Some into) place depth d some stands checked h = h into.0 into.1 (subst (λ (p : Position). IsCheckedAt p d) (sym stands) checked)

-- of a node that is cut off, or isn't
chosen_within : (most : ℕ) (test : Bool) (t : Dag → Traversal) (a b : Dag) → (test ≡ true → Within most (t a)) → (test ≡ false → Within most (t b)) → Within most (t (if test then a else b))
chosen_within most true t a b h g = h refl
chosen_within most false t a b h g = g refl

mutual
  -- below a node
  traverse_within : (most : ℕ) (reach : Reach) (position : Position) (depth : ℕ) (d : Dag) → IsWhole d → IsCheckedAt position d → Within most (traverse reach position depth (down_to most depth d))
  traverse_within most reach position depth (unopened cid) w checked = absurd w
  traverse_within most reach position depth (bare section fault) w checked = absurd w
  traverse_within most reach position depth (node section kind children) w checked =
      let some : Children = children_down_to most (depth + 1) children in
      chosen_within most (nat_lt most depth) (traverse reach position depth) (unopened section.cid) (node section kind some)
      (λ e. deeper_within most (spot_at section.cid depth position) (ltb-true most depth e))
      (λ e.
      let own : Traversal = giving_place (record { section = section; depth = depth }) (text_before reach position section kind) in
      let below : Traversal = traverse_children (visits reach position kind) (depth + 1) some in
      let behind : Traversal = giving_text (text_behind reach kind) in
      subst (Within most) (sym (goes_below reach position depth section kind some checked.0.stands))
      (both_within most own (and_then below behind) (place_within most (record { section = section; depth = depth }) (text_before reach position section kind) (ltb-false most depth e))
      (both_within most below behind (children_within most (visits reach position kind) (positions position kind) (depth + 1) children (visits_stand reach position kind) w checked.1)
      (text_within most (text_behind reach kind)))))

  -- and of children
  children_within : (most : ℕ) (todo : List Visit) (places : List Position) (depth : ℕ) (children : Children) → Each Stands todo places → AreWhole children → AreCheckedAt places children
      → Within most (traverse_children todo depth (children_down_to most depth children))
  children_within most todo places depth no_child stand w checked = text_within most []
  children_within most [] places depth (with_child d children) stand w checked = text_within most []
  children_within most (visit ∷ todo) [] depth (with_child d children) stand w checked = absurd checked
  children_within most (visit ∷ todo) (place ∷ places) depth (with_child d children) stand w checked =
      let here : Traversal = visited (λ reach position. traverse reach position depth (down_to most depth d)) visit.into in
      let rest : Traversal = traverse_children todo depth (children_down_to most depth children) in
      both_within most (giving_entries visit.met) (and_then here rest) (entries_within most visit.met)
      (both_within most here rest
      (inside_within most visit.into place depth d (down_to most depth d) stand.0 checked.0 (λ reach position c. traverse_within most reach position depth d w.0 c))
      (children_within most todo places depth children stand.1 w.1 checked.1))

-- at the terminal
end_within : (most : ℕ) (scope : Scope) (span : Option SpanParts) (depth : ℕ) (section : Section) (kind : Kind) (children : Children) → IsWhole (node section kind children)
    → IsCheckedAt top (node section kind children) → depth ≤ most → Within most (at_terminal scope span depth (node section kind (children_down_to most (depth + 1) children)))
end_within most scopes.Block span depth section kind children w checked h = place_within most (record { section = section; depth = depth }) section.block h
end_within most scopes.Entity span depth section kind children w checked h =
    subst (λ (d : Dag). Within most (traverse (entity_reach span section kind) top depth d))
    (not_cut (nat_lt most depth) (unopened section.cid) (node section kind (children_down_to most (depth + 1) children)) (le-ltb most depth h))
    (traverse_within most (entity_reach span section kind) top depth (node section kind children) w checked)
end_within most scopes.All span depth section kind children w checked h =
    subst (λ (d : Dag). Within most (traverse (all_reach kind) top depth d))
    (not_cut (nat_lt most depth) (unopened section.cid) (node section kind (children_down_to most (depth + 1) children)) (le-ltb most depth h))
    (traverse_within most (all_reach kind) top depth (node section kind children) w checked)

module _ (q : QueryParts) (most : ℕ) where
  mutual
    -- from a node of the path on
    path_within : (i depth : ℕ) (position : Position) (path : List (List ℕ)) (d : Dag) → IsReached position path → IsWhole d → IsCheckedAt position d
        → Within most (from_node q i position depth path (down_to most depth d))
    path_within i depth position path (unopened cid) reached w checked = absurd w
    path_within i depth position path (bare section fault) reached w checked = absurd w
    path_within i depth position [] (node section kind children) reached w checked =
        let some : Children = children_down_to most (depth + 1) children in
        chosen_within most (nat_lt most depth) (λ d. from_node q i position depth [] d) (unopened section.cid) (node section kind some)
        (λ e. deeper_within most (spot_at section.cid depth position) (ltb-true most depth e))
        (λ e. subst (Within most) (sym (ends_at_terminal q i position depth section kind some))
        (end_within most q.scope q.span depth section kind children w (subst (λ (p : Position). IsCheckedAt p (node section kind children)) reached checked) (ltb-false most depth e)))
    path_within i depth position (name ∷ path) (node section kind children) reached w checked =
        let some : Children = children_down_to most (depth + 1) children in
        let below : Position = child_below position (slot_of name (length (passed position))) in
        let entry : ℕ → Traversal = λ j. from_child q j (i + 1) top (depth + 1) path some in
        let inner : ℕ → Traversal = λ j. from_child q j i below (depth + 1) (name ∷ path) some in
        chosen_within most (nat_lt most depth) (λ d. from_node q i position depth (name ∷ path) d) (unopened section.cid) (node section kind some)
        (λ e. deeper_within most (spot_at section.cid depth position) (ltb-true most depth e))
        (λ e. subst (Within most) (sym (steps_on q i position depth name path section kind some checked.0.stands))
        (both_within most (giving_place (record { section = section; depth = depth }) []) (after_step i entry inner (step_of kind (length (passed position)) name))
        (place_within most (record { section = section; depth = depth }) [] (ltb-false most depth e))
        ((elim (step_of kind (length (passed position)) name) as (λ (step : StepTo). Leads 0 (positions position kind) below step → Within most (after_step i entry inner step)) [
          | to_entry j ↦ λ leads. child_within j (i + 1) (depth + 1) top path children (positions position kind) (top_reached path) (leads_at j top (positions position kind) leads) w checked.1
          | to_child j ↦ λ leads. child_within j i (depth + 1) below (name ∷ path) children (positions position kind) tt (leads_at j below (positions position kind) leads) w checked.1
          | absent ↦ λ leads. record { places = All-nil (IsWithin most); end = tt }
          | not_folder_here ↦ λ leads. record { places = All-nil (IsWithin most); end = tt }
        ]) (step_leads position kind (length (passed position)) name))))

    -- and from a child on
    child_within : (j i depth : ℕ) (position : Position) (path : List (List ℕ)) (children : Children) (places : List Position) → IsReached position path → IsAt j position places → AreWhole children
        → AreCheckedAt places children → Within most (from_child q j i position depth path (children_down_to most depth children))
    child_within j i depth position path no_child places reached at w checked = record { places = All-nil (IsWithin most); end = tt }
    child_within j i depth position path (with_child d children) [] reached at w checked = absurd checked
    child_within zero i depth position path (with_child d children) (place ∷ places) reached at w checked =
        path_within i depth position path d reached w.0 (subst (λ (p : Position). IsCheckedAt p d) at checked.0)
    child_within (suc j) i depth position path (with_child d children) (place ∷ places) reached at w checked = child_within j i depth position path children places reached at w.1 checked.1

pub cuts_at_depths : (q : QueryParts) (d : Dag) (most : ℕ) → IsSound d → IsCutAt most (traversal q (down_to most 1 d)) (traversal q d)
cuts_at_depths q d most sound =
    let within : Within most (traversal q (down_to most 1 d)) = path_within q most 0 1 top q.path d (top_reached q.path) sound.whole sound.checked in
    record { within = within.places; end = within.end; follows = followed q d (down_to most 1 d) (cut_from most 1 d sound.whole) }
