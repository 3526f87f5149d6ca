-- What is opened for a query below its terminal is read on, and the terminal of a checked partial DAG is checked.
use Rattle.std.proofs.Common.{◌≡◌, ℕ, zero, suc, ◌+◌, true, false, Option, Some, None, List, [], ◌∷◌, ◌++◌, length, map, refl, sym, subst}
use Rattle.tg_model_laws.proofs.AskedPlaces.{Asked, Behind, ChildOpens, ChildrenOpen, Opens, along, asked_at, asked_at_visits, asked_by_step, asked_inside, within}
use Rattle.tg_model_laws.proofs.ContentSizes.{AreReadOn, IsReadOn}
use Rattle.tg_model_laws.proofs.CountedPlaces.{just_asked}
use Rattle.tg_model_laws.specs.Openings.{IsAtPlace}
use Rattle.tg_model_laws.proofs.Listings.{partial_met}
use Rattle.tg_model_laws.proofs.TerminalTexts.{partial-text}
use Rattle.tg_model_laws.proofs.Terminals.{IsReached, Leads, leads_at, step_leads, top_reached}
use Rattle.tg_model_laws.specs.Standing.{IsAt}
use Rattle.tg_model.specs.Answer.{is_listed, named_of, node_text}
use Rattle.tg_model.specs.Content.{entries}
use Rattle.tg_model.specs.Dag.{Children, Dag, Section, bare, blocks, blocks_of_children, no_child, node, unopened, with_child}
use Rattle.tg_model.specs.Fits.{IsOpenedFor}
use Rattle.tg_model.specs.PathWalk.{PathWalk, Spot, StepTo, TraversalEnd, absent, child_below, not_folder_here, path_walk, spot_at, step_of, stopped, terminal, to_child, to_entry, unless_misfit, walk_child, walk_from, walk_step, whole}
use Rattle.tg_model.specs.Queries.{QueryParts, SpanParts}
use Rattle.tg_model.specs.Sound.{AreCheckedAt, IsChecked, IsCheckedAt, Position, passed, position_fault, positions, top}
use Rattle.tg_model.specs.Traversal.{Reach, Visit, entity_reach, named_met, traversal, visits}
use Rattle.tg_model.specs.declared.fault.BlockFault.{BlockFault}
use Rattle.tg_model.specs.declared.queries.Scope.{Scope}
use Rattle.tg_model.specs.declared.queries.Scope.TheVariants as scopes
use Rattle.tg_murmur.specs.NameHash.{slot_of}

-- ---- read on

-- of which nothing is opened is read on
closed_read : (d : Dag) → blocks d ≡ [] → IsReadOn d
closed_read (unopened cid) e = tt
closed_read (bare section fault) e = absurd (cc)
closed_read (node section kind children) e = absurd (cc)

-- two lists that are empty together
both_empty : (xs ys : List Section) → xs ++ ys ≡ [] → (xs ≡ []) × (ys ≡ [])
both_empty [] ys e = (refl, e)
both_empty (x ∷ xs) ys e = absurd (cc)

closed_children_read : (children : Children) → blocks_of_children children ≡ [] → AreReadOn children
closed_children_read no_child e = tt
closed_children_read (with_child d children) e =
    let (here, later) = both_empty (blocks d) (blocks_of_children children) e in
    (closed_read d here, closed_children_read children later)

-- behind a child of which the end is known
behind_read : (first end : TraversalEnd) (children : Children) (P : TraversalEnd → Type 0) → Behind first end P (blocks_of_children children ≡ []) → (P end → AreReadOn children) → AreReadOn children
behind_read whole end children P h later = later h
behind_read (stopped stop) end children P h later = closed_children_read children h.1

-- a child that is gone into, or passed over
inside_read : (into : Option (Reach × Position)) (depth : ℕ) (d : Dag) (first : TraversalEnd) → ChildOpens (asked_inside into) (λ asked. Opens asked depth d) d first
    → ((reach : Reach) (position : Position) → Opens (within reach position) depth d first → IsReadOn d) → IsReadOn d
inside_read None depth d first h read = closed_read d h.1
inside_read (Some into) depth d first h read = read into.0 into.1 h

mutual
  -- a node below the terminal
  within_read : (reach : Reach) (position : Position) (depth : ℕ) (d : Dag) (end : TraversalEnd) → Opens (within reach position) depth d end → IsReadOn d
  within_read reach position depth (unopened cid) end h = tt
  within_read reach position depth (bare section fault) end h = absurd (cc h.1)
  within_read reach position depth (node section kind children) end h = visits_read (visits reach position kind) (depth + 1) children end h.1

  -- and children by visits
  visits_read : (todo : List Visit) (depth : ℕ) (children : Children) (end : TraversalEnd) → ChildrenOpen (asked_at_visits todo) depth children end → AreReadOn children
  visits_read todo depth no_child end h = tt
  visits_read [] depth (with_child d children) end h = closed_children_read (with_child d children) h.1
  visits_read (visit ∷ todo) depth (with_child d children) end h = (
    inside_read visit.into depth d h.0 h.1 (λ reach position opens. within_read reach position depth d h.0 opens),
    behind_read h.0 end children (ChildrenOpen (asked_at_visits todo) depth children) h.2 (λ later. visits_read todo depth children end later),
  )

-- a node that may stand there isn't stopped at
misfit_end : (section : Section) (spot : Spot) (fault : Option BlockFault) (walk : PathWalk) (t : Dag) → (unless_misfit section spot fault walk).end ≡ terminal t → walk.end ≡ terminal t
misfit_end section spot None walk t e = e
misfit_end section spot (Some fault) walk t e = absurd (cc e)

module _ (span : Option SpanParts) where
  mutual
    -- the terminal of a path under scope entity
    path_read : (i depth : ℕ) (position : Position) (path : List (List ℕ)) (d t : Dag) (end : TraversalEnd) → Opens (along scopes.Entity span position path) depth d end
        → (walk_from i position depth path d).end ≡ terminal t → IsReadOn t
    path_read i depth position path (unopened cid) t end h e = absurd (cc e)
    path_read i depth position [] (bare section fault) t end h e = absurd (cc h.1)
    path_read i depth position (name ∷ path) (bare section None) t end h e = absurd (cc e)
    path_read i depth position (name ∷ path) (bare section (Some fault)) t end h e = absurd (cc e)
    path_read i depth position [] (node section kind children) t end h e =
        let same : node section kind children ≡ t = cc in
        subst IsReadOn same (visits_read (visits (entity_reach span section kind) top kind) (depth + 1) children end h.1)
    path_read i depth position (name ∷ path) (node section kind children) t end h e =
        let below : Position = child_below position (slot_of name (length (passed position))) in
        let entry_walk : ℕ → PathWalk = λ k. walk_child k (i + 1) top (depth + 1) path children in
        let child_walk : ℕ → PathWalk = λ k. walk_child k i below (depth + 1) (name ∷ path) children in
        let entry : Asked = along scopes.Entity span top path in
        let inner : Asked = along scopes.Entity span below (name ∷ path) in
        let step : StepTo = step_of kind (length (passed position)) name in
        (elim step as (λ (step : StepTo). ChildrenOpen (asked_by_step entry inner step) (depth + 1) children end → (walk_step i entry_walk child_walk step).end ≡ terminal t → IsReadOn t) [
          | to_entry k ↦ λ g f. child_path_read k (i + 1) (depth + 1) top path children t end g f
          | to_child k ↦ λ g f. child_path_read k i (depth + 1) below (name ∷ path) children t end g f
          | absent ↦ λ g f. absurd (cc f)
          | not_folder_here ↦ λ g f. absurd (cc f)
        ]) h.1 (misfit_end section (spot_at section.cid depth position) (position_fault position kind) (walk_step i entry_walk child_walk step) t e)

    -- and from a child on
    child_path_read : (k i depth : ℕ) (position : Position) (path : List (List ℕ)) (children : Children) (t : Dag) (end : TraversalEnd)
        → ChildrenOpen (asked_at k (along scopes.Entity span position path)) depth children end → (walk_child k i position depth path children).end ≡ terminal t → IsReadOn t
    child_path_read k i depth position path no_child t end h e = absurd (cc e)
    child_path_read zero i depth position path (with_child d children) t end h e = path_read i depth position path d t h.0 h.1 e
    child_path_read (suc k) i depth position path (with_child d children) t end h e =
        let later : ChildrenOpen (asked_at k (along scopes.Entity span position path)) depth children end =
        subst (λ (first : TraversalEnd). Behind first end (ChildrenOpen (asked_at k (along scopes.Entity span position path)) depth children) (blocks_of_children children ≡ [])) h.1.0 h.2 in
        child_path_read k i depth position path children t end later e

-- the terminal of what is opened for a query under scope entity, where the traversal came through, is read on
pub terminal_read : (q : QueryParts) (s t : Dag) → IsOpenedFor s q → (path_walk q.path s).end ≡ terminal t → (traversal q s).end ≡ whole → q.scope ≡ scopes.Entity → IsReadOn t
terminal_read q s t right e w entity =
    let opens = just_asked q s right (subst IsAtPlace (sym w) tt) in
    path_read q.span 0 1 top q.path s t (traversal q s).end (subst (λ (scope : Scope). Opens (along scope q.span top q.path) 1 s (traversal q s).end) entity opens) e

-- ---- checked

-- the terminal is the node that is reached
reached_checked : (position : Position) (d t : Dag) → position ≡ top → IsCheckedAt position d → terminal d ≡ terminal t → IsChecked t
reached_checked position d t reached h e =
    let same : d ≡ t = cc in
    subst IsChecked same (subst (λ (p : Position). IsCheckedAt p d) reached h)

mutual
  -- a walk from a checked node on
  walk_checked : (i depth : ℕ) (position : Position) (path : List (List ℕ)) (d t : Dag) → IsReached position path → IsCheckedAt position d
      → (walk_from i position depth path d).end ≡ terminal t → IsChecked t
  walk_checked i depth position path (unopened cid) t reached h e = absurd (cc e)
  walk_checked i depth position [] (bare section fault) t reached h e = reached_checked position (bare section fault) t reached h e
  walk_checked i depth position (name ∷ path) (bare section None) t reached h e = absurd (cc e)
  walk_checked i depth position (name ∷ path) (bare section (Some fault)) t reached h e = absurd (cc e)
  walk_checked i depth position [] (node section kind children) t reached h e = reached_checked position (node section kind children) t reached h e
  walk_checked i depth position (name ∷ path) (node section kind children) t reached h e =
      let number : ℕ = slot_of name (length (passed position)) in
      let entry_walk : ℕ → PathWalk = λ k. walk_child k (i + 1) top (depth + 1) path children in
      let child_walk : ℕ → PathWalk = λ k. walk_child k i (child_below position number) (depth + 1) (name ∷ path) children in
      let step : StepTo = step_of kind (length (passed position)) name in
      (elim step as (λ (step : StepTo).
      Leads 0 (positions position kind) (child_below position number) step → (walk_step i entry_walk child_walk step).end ≡ terminal t → IsChecked t) [
        | to_entry k ↦ λ leads f. child_checked k (i + 1) (depth + 1) top path children t (positions position kind) (top_reached path) (leads_at k top (positions position kind) leads) h.1 f
        | to_child k ↦ λ leads f.
            child_checked k i (depth + 1) (child_below position number) (name ∷ path) children t (positions position kind) tt (leads_at k (child_below position number) (positions position kind) leads) h.1 f
        | absent ↦ λ leads f. absurd (cc f)
        | not_folder_here ↦ λ leads f. absurd (cc f)
      ])
      (step_leads position kind (length (passed position)) name)
      (misfit_end section (spot_at section.cid depth position) (position_fault position kind) (walk_step i entry_walk child_walk step) t e)

  -- and from a child on
  child_checked : (k i depth : ℕ) (position : Position) (path : List (List ℕ)) (children : Children) (t : Dag) (places : List Position) → IsReached position path
      → IsAt k position places → AreCheckedAt places children → (walk_child k i position depth path children).end ≡ terminal t → IsChecked t
  child_checked k i depth position path no_child t places reached at h e = absurd (cc e)
  child_checked k i depth position path (with_child d children) t [] reached at h e = absurd h
  child_checked zero i depth position path (with_child d children) t (place ∷ places) reached at h e =
      walk_checked i depth position path d t reached (subst (λ (p : Position). IsCheckedAt p d) at h.0) e
  child_checked (suc k) i depth position path (with_child d children) t (place ∷ places) reached at h e = child_checked k i depth position path children t places reached at h.1 e

-- the terminal of a checked partial DAG is checked
pub terminal_checked : (path : List (List ℕ)) (s t : Dag) → IsChecked s → (path_walk path s).end ≡ terminal t → IsChecked t
terminal_checked path s t checked e = walk_checked 0 1 top path s t (top_reached path) checked e

-- ---- what it gives

pub say_texts : (q : QueryParts) (s t : Dag) → IsOpenedFor s q → (path_walk q.path s).end ≡ terminal t → (traversal q s).end ≡ whole → is_listed q.scope t ≡ false
    → (traversal q s).text ≡ node_text q.scope q.span t
say_texts q s t right e w l = partial-text q s t (λ entity. terminal_read q s t right e w entity) (terminal_checked q.path s t right.checked e) e w l

pub meet_entries : (q : QueryParts) (s t : Dag) → IsOpenedFor s q → (path_walk q.path s).end ≡ terminal t → (traversal q s).end ≡ whole → is_listed q.scope t ≡ true
    → map named_met (traversal q s).met ≡ map named_of (entries t)
meet_entries q s t right e w l = partial_met q s t (terminal_checked q.path s t right.checked e) e w l
