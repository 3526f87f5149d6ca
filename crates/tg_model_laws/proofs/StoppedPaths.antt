-- The partial DAG that opens the blocks on a path that leads nowhere.
use Rattle.std.proofs.Common.{◌≡◌, Option, Some, None, List, [], ◌∷◌, ◌++◌, zero, suc, ◌+◌, ℕ, length, inl, inr, refl, sym, ap, ◌∙◌, subst}
use Rattle.std.proofs.lemmas.List.{append-nil}
use Rattle.tg_model.specs.Lookup as lookup
use Rattle.tg_model.specs.PathWalk as walk
use Rattle.tg_model_laws.specs.Openings.{IsAtBlock}
use Rattle.tg_model_laws.specs.PartialDags.{ChildrenOpenedFrom, OpenedFrom, each, none, opened, unseen}
use Rattle.tg_model_laws.specs.PathStops.{path_stops}
use Rattle.tg_model_laws.proofs.Followed.{along, walked}
use Rattle.tg_model_laws.proofs.OpenedDags.{opened_checked, same_root}
use Rattle.tg_model_laws.proofs.OpenedParts.{closed, opened_children, sections_in}
use Rattle.tg_model_laws.proofs.OpenedPaths.{opened_child, opened_path, opened_step}
use Rattle.tg_model_laws.proofs.OwnSections.{path_leads}
use Rattle.tg_model_laws.proofs.SentBlocks.{walk_sections}
use Rattle.tg_model_laws.proofs.Terminals.{traversal_whole}
use Rattle.tg_model.specs.Answer.{answer}
use Rattle.tg_model.specs.Dag.{AreWhole, Children, Dag, IsWhole, Section, bare, blocks, blocks_of_children, no_child, node, root_cid, unopened, with_child}
use Rattle.tg_model.specs.Ends.{StopsAlike}
use Rattle.tg_model.specs.Fits.{HasOneBlockEach, IfOnce, IsAloneAt, IsOpenedFor}
use Rattle.tg_model.specs.Lookup.{LookupEnd, lookup_path}
use Rattle.tg_model.specs.PathWalk.{PathEnd, PathWalk, Spot, Stop, StepTo, absent, bad_block, behind, child_below, not_folder_here, not_reached, path_walk, spot_at, step_of, stopped, to_child, to_entry, unless_misfit, walk_child, walk_from, walk_step}
use Rattle.tg_model.specs.Queries.{QueryParts}
use Rattle.tg_model.specs.Sound.{IsSound, Position, passed, position_fault, top}
use Rattle.tg_model.specs.Traversal.{from_end, opened_list, sections_of, traversal, walk_places}
use Rattle.tg_model.specs.declared.fault.BlockFault.{BlockFault}
use Rattle.tg_model.specs.declared.queries.Scope.{Scope}
use Rattle.tg_model.specs.declared.queries.Scope.TheVariants as scopes
use Rattle.tg_murmur.specs.NameHash.{slot_of}

-- ---- the nodes of the path

-- as they are
abbrev unchanged : Dag → Dag
unchanged d = d

module _ (stop : Stop) (nowhere : IsAtBlock stop → ⊥) where
  -- where a walk stops at no block, what is opened along it is opened from the whole, the walk over it is the same, and its
  -- blocks are the sections of the walk
  abbrev Stops : Type 0 → PathWalk → List Section → PathWalk → Type 0
  Stops From some sections all = all.end ≡ not_reached stop → From × (some ≡ all) × (sections ≡ all.sections)

  -- behind a node
  fit_stops : (From To : Type 0) (section : Section) (spot : Spot) (fault : Option BlockFault) (some all : PathWalk) (sections : List Section) → (From → To)
      → Stops From some sections all → Stops To (unless_misfit section spot fault some) (section ∷ sections) (unless_misfit section spot fault all)
  fit_stops From To section spot None some all sections so h e =
      let (from, same, opens) = h e in
      (so from, ap (λ (walk : PathWalk). behind section walk) same, ap (λ (sections : List Section). section ∷ sections) opens)
  fit_stops From To section spot (Some fault) some all sections so h e =
      let same : bad_block spot fault ≡ stop = cc e in absurd (nowhere (subst IsAtBlock same tt))

  mutual
    -- so it is of a whole DAG
    path_opens : (i depth : ℕ) (position : Position) (path : List (List ℕ)) (d : Dag) → IsWhole d
        → (let some : Dag = opened_path unchanged position path d in
        Stops (OpenedFrom some d) (walk_from i position depth path some) (blocks some) (walk_from i position depth path d))
    path_opens i depth position path (unopened cid) w = absurd w
    path_opens i depth position path (bare section fault) w = absurd w
    path_opens i depth position [] (node section kind children) w = λ e. absurd (cc)
    path_opens i depth position (name ∷ path) (node section kind children) w =
        let below : Position = child_below position (slot_of name (length (passed position))) in
        let entry_walk : ℕ → Children → PathWalk = λ k children. walk_child k (i + 1) top (depth + 1) path children in
        let child_walk : ℕ → Children → PathWalk = λ k children. walk_child k i below (depth + 1) (name ∷ path) children in
        let entry_children : ℕ → Children = λ k. opened_child k unchanged top path children in
        let inner_children : ℕ → Children = λ k. opened_child k unchanged below (name ∷ path) children in
        let step : StepTo = step_of kind (length (passed position)) name in
        let some : Children = opened_step entry_children inner_children (opened_children [] children) step in
        let (others, _, none_opened) = closed children in
        fit_stops (ChildrenOpenedFrom some children) _ section (spot_at section.cid depth position) (position_fault position kind) _ _ _ (opened section kind some children)
        (elim step as (λ (step : StepTo).
        let some : Children = opened_step entry_children inner_children (opened_children [] children) step in
        Stops (ChildrenOpenedFrom some children) (walk_step i (λ k. entry_walk k some) (λ k. child_walk k some) step) (blocks_of_children some)
        (walk_step i (λ k. entry_walk k children) (λ k. child_walk k children) step)) [
          | to_entry k ↦ child_opens k (i + 1) (depth + 1) top path children w
          | to_child k ↦ child_opens k i (depth + 1) below (name ∷ path) children w
          | absent ↦ λ e. (others, refl, none_opened)
          | not_folder_here ↦ λ e. (others, refl, none_opened)
        ])

    -- and behind a child
    child_opens : (k i depth : ℕ) (position : Position) (path : List (List ℕ)) (children : Children) → AreWhole children
        → (let some : Children = opened_child k unchanged position path children in
        Stops (ChildrenOpenedFrom some children) (walk_child k i position depth path some) (blocks_of_children some) (walk_child k i position depth path children))
    child_opens k i depth position path no_child w = λ e. (none, refl, refl)
    child_opens zero i depth position path (with_child d children) w = λ e.
        let some : Dag = opened_path unchanged position path d in
        let (from, same, opens) = path_opens i depth position path d w.0 e in
        let (others, _, none_opened) = closed children in
        (each some d (opened_children [] children) children from others, same, ap (λ (rest : List Section). blocks some ++ rest) none_opened ∙ append-nil (blocks some) ∙ opens)
    child_opens (suc k) i depth position path (with_child d children) w = λ e.
        let (from, same, opens) = child_opens k i depth position path children w.1 e in
        (each (unopened (root_cid d)) d (opened_child k unchanged position path children) children (unseen (root_cid d) d refl) from, same, opens)

-- ---- the partial DAG

-- no terminal is told alone
none_alone : (scope : Scope) (stop : Stop) → IsAloneAt scope (not_reached stop)
none_alone scopes.Block stop = tt
none_alone scopes.Entity stop = tt
none_alone scopes.All stop = tt

-- a look-up stops at no block
at_segment : (stop : Stop) (other : LookupEnd) → StopsAlike stop other → IsAtBlock stop → ⊥
at_segment (walk.not_there i) other alike at = at
at_segment (walk.not_folder i) other alike at = at
at_segment (walk.gone spot) (lookup.found d) alike at = alike
at_segment (walk.gone spot) (lookup.not_there i) alike at = alike
at_segment (walk.gone spot) (lookup.not_folder i) alike at = alike
at_segment (walk.bad_block spot fault) (lookup.found d) alike at = alike
at_segment (walk.bad_block spot fault) (lookup.not_there i) alike at = alike
at_segment (walk.bad_block spot fault) (lookup.not_folder i) alike at = alike

-- where the traversal of a sound DAG stops the path leads nowhere, and there is no answer
pub record LeadsNowhere (q : QueryParts) (d : Dag) (stop : Stop) : Type 0 where
  pub end : (path_walk q.path d).end ≡ not_reached stop
  pub at : IsAtBlock stop → ⊥
  pub none : answer q d ≡ None

pub leads_nowhere : (q : QueryParts) (d : Dag) (stop : Stop) → IsSound d → (traversal q d).end ≡ stopped stop → LeadsNowhere q d stop
leads_nowhere q d stop sound e =
    elim (path_leads q d sound) [
      | inl h ↦ (let through = traversal_whole q d h.0 sound h.1 in absurd (cc (e, through)))
      | inr h ↦
          (let stops = path_stops q d h.0 h.1 in
          let same : h.0 ≡ stop = cc (e, stops) in
          record {
            end = h.1 ∙ ap (λ (s : Stop). not_reached s) same;
            at = subst (λ (s : Stop). IsAtBlock s → ⊥) same (at_segment h.0 (lookup_path q.path d) h.2);
            none = h.3;
          })
    ]

module _ (q : QueryParts) (d : Dag) (stop : Stop) (sound : IsSound d) (h : LeadsNowhere q d stop) where
  abbrev way : List Section
  way = (path_walk q.path d).sections

  abbrev some : Dag
  some = opened_path unchanged top q.path d

  opens : OpenedFrom some d × (path_walk q.path some ≡ path_walk q.path d) × (blocks some ≡ way)
  opens = path_opens stop h.at 0 1 top q.path d sound.whole h.end

  same_traversal : traversal q some ≡ traversal q d
  same_traversal = ap (λ (walk : PathWalk). walked q walk.sections walk.end) opens.1

  way_opened : way ≡ opened_list q d
  way_opened =
      sym (ap (λ (end : PathEnd). sections_in (along way (from_end end q.scope q.span (length way + 1)))) h.end
      ∙ ap sections_of (append-nil (walk_places 1 way)) ∙ walk_sections 1 way)

  opened_right : root_cid d ≡ q.root → IfOnce q.dups (HasOneBlockEach (opened_list q d)) → IsOpenedFor some q
  opened_right root once = record {
    root = same_root some d opens.0 ∙ root;
    opened = opens.2 ∙ way_opened ∙ sym (ap sections_in same_traversal);
    alone = subst (λ (end : PathEnd). IsAloneAt q.scope end) (sym (ap (λ (walk : PathWalk). walk.end) opens.1 ∙ h.end)) (none_alone q.scope stop);
    checked = opened_checked top some d opens.0 sound.checked;
    one_each = subst (λ (sections : List Section). IfOnce q.dups (HasOneBlockEach sections)) (sym (opens.2 ∙ way_opened)) once;
  }

pub own_opened : (q : QueryParts) (d : Dag) (stop : Stop) → IsSound d → root_cid d ≡ q.root → IfOnce q.dups (HasOneBlockEach (opened_list q d)) → (traversal q d).end ≡ stopped stop
    → (s : Dag) × IsOpenedFor s q × (traversal q s ≡ traversal q d)
own_opened q d stop sound root once e =
    let h = leads_nowhere q d stop sound e in
    (some q d stop sound h, opened_right q d stop sound h root once, same_traversal q d stop sound h)
