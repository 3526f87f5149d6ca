-- The partial DAG that opens the nodes of a path and, at its end, what is asked of the terminal.
use Rattle.std.proofs.Common.{◌≡◌, Option, Some, None, List, [], ◌∷◌, ◌++◌, zero, suc, ◌+◌, ℕ, length, refl, sym, ap, ◌∙◌, subst}
use Rattle.std.proofs.lemmas.List.{append-nil}
use Rattle.tg_model_laws.specs.PartialDags.{ChildrenOpenedFrom, OpenedFrom, each, opened, unseen}
use Rattle.tg_model_laws.proofs.OpenedParts.{closed, opened_children}
use Rattle.tg_model_laws.proofs.OpenedTerminals.{at_end}
use Rattle.tg_model.specs.Dag.{AreWhole, Dag, IsWhole, Children, Section, bare, blocks, blocks_of_children, with_child, no_child, node, root_cid, unopened}
use Rattle.tg_model.specs.PathWalk.{PathWalk, Spot, StepTo, absent, behind, child_below, not_folder_here, spot_at, step_of, terminal, to_child, to_entry, unless_misfit, walk_from, walk_child, walk_step}
use Rattle.tg_model.specs.Sound.{Position, passed, position_fault, top}
use Rattle.tg_model.specs.declared.fault.BlockFault.{BlockFault}
use Rattle.tg_murmur.specs.NameHash.{slot_of}

-- the children of a node with the one that a step leads to opened
abbrev pub opened_step : (ℕ → Children) → (ℕ → Children) → Children → StepTo → Children
opened_step entry_children inner_children closed (to_entry k) = entry_children k
opened_step entry_children inner_children closed (to_child k) = inner_children k
opened_step entry_children inner_children closed absent = closed
opened_step entry_children inner_children closed not_folder_here = closed

-- a node with those along the path, and at its end what the terminal is changed to
abbrev mutual
  pub opened_path : (Dag → Dag) → Position → List (List ℕ) → Dag → Dag
  opened_path change position path (unopened cid) = unopened cid
  opened_path change position [] (bare section fault) = change (bare section fault)
  opened_path change position (name ∷ path) (bare section fault) = bare section fault
  opened_path change position [] (node section kind children) = change (node section kind children)
  opened_path change position (name ∷ path) (node section kind children) = node section kind (opened_step
      (λ k. opened_child k change top path children)
      (λ k. opened_child k change (child_below position (slot_of name (length (passed position)))) (name ∷ path) children)
      (opened_children [] children)
      (step_of kind (length (passed position)) name))

  pub opened_child : ℕ → (Dag → Dag) → Position → List (List ℕ) → Children → Children
  opened_child k change position path no_child = no_child
  opened_child zero change position path (with_child d children) = with_child (opened_path change position path d) (opened_children [] children)
  opened_child (suc k) change position path (with_child d children) = with_child (unopened (root_cid d)) (opened_child k change position path children)

module _ (change : Dag → Dag) (t : Dag) (change_from : OpenedFrom (change t) t) (reaches : (i depth : ℕ) (position : Position) → walk_from i position depth [] (change t) ≡ at_end (change t)) where
  -- where a walk ends at the terminal, what is opened is opened from the whole, the walk along it passes the same nodes and ends at
  -- what the terminal is changed to, and its blocks are the sections of both
  abbrev pub Walks : Type 0 → PathWalk → List Section → PathWalk → Type 0
  Walks From some sections all =
      all.end ≡ terminal t → From × (some ≡ record { sections = all.sections; end = terminal (change t) }) × (sections ≡ all.sections ++ blocks (change t))

  -- a node before it
  fit_walks : (From To : Type 0) (section : Section) (spot : Spot) (fault : Option BlockFault) (some all : PathWalk) (sections : List Section) → (From → To) → Walks From some sections all
      → Walks To (unless_misfit section spot fault some) (section ∷ sections) (unless_misfit section spot fault all)
  fit_walks From To section spot None some all sections so h e =
      let (from, walk, opens) = h e in
      (so from, ap (λ (walk : PathWalk). behind section walk) walk, ap (λ (sections : List Section). section ∷ sections) opens)
  fit_walks From To section spot (Some fault) some all sections so h e = absurd (cc)

  -- the terminal itself
  end_walks : (i depth : ℕ) (position : Position) (d : Dag) → Walks (OpenedFrom (change d) d) (walk_from i position depth [] (change d)) (blocks (change d)) (at_end d)
  end_walks i depth position d e =
      let same : d ≡ t = cc in
      subst (λ (x : Dag). OpenedFrom (change x) x × (walk_from i position depth [] (change x) ≡ at_end (change t)) × (blocks (change x) ≡ blocks (change t)))
      (sym same) (change_from, reaches i depth position, refl)

  mutual
    -- so it is of a whole DAG
    pub path_walks : (i depth : ℕ) (position : Position) (path : List (List ℕ)) (d : Dag) → IsWhole d
        → (let some : Dag = opened_path change position path d in
        Walks (OpenedFrom some d) (walk_from i position depth path some) (blocks some) (walk_from i position depth path d))
    path_walks i depth position path (unopened cid) w = absurd w
    path_walks i depth position path (bare section fault) w = absurd w
    path_walks i depth position [] (node section kind children) w = end_walks i depth position (node section kind children)
    path_walks i depth position (name ∷ path) (node section kind children) w =
        let below : Position = child_below position (slot_of name (length (passed position))) in
        let entry_walk : ℕ → Children → PathWalk = λ k children. walk_child k (i + 1) top (depth + 1) path children in
        let child_walk : ℕ → Children → PathWalk = λ k children. walk_child k i below (depth + 1) (name ∷ path) children in
        let entry_children : ℕ → Children = λ k. opened_child k change top path children in
        let inner_children : ℕ → Children = λ k. opened_child k change below (name ∷ path) children in
        let step : StepTo = step_of kind (length (passed position)) name in
        let some : Children = opened_step entry_children inner_children (opened_children [] children) step in
        fit_walks (ChildrenOpenedFrom some children) _ section (spot_at section.cid depth position) (position_fault position kind) _ _ _ (opened section kind some children)
        (elim step as (λ (step : StepTo).
        let some : Children = opened_step entry_children inner_children (opened_children [] children) step in
        Walks (ChildrenOpenedFrom some children) (walk_step i (λ k. entry_walk k some) (λ k. child_walk k some) step) (blocks_of_children some)
        (walk_step i (λ k. entry_walk k children) (λ k. child_walk k children) step)) [
          | to_entry k ↦ child_walks k (i + 1) (depth + 1) top path children w
          | to_child k ↦ child_walks k i (depth + 1) below (name ∷ path) children w
          | absent ↦ λ e. absurd (cc)
          | not_folder_here ↦ λ e. absurd (cc)
        ])

    -- and behind a child
    child_walks : (k i depth : ℕ) (position : Position) (path : List (List ℕ)) (children : Children) → AreWhole children
        → (let some : Children = opened_child k change position path children in
        Walks (ChildrenOpenedFrom some children) (walk_child k i position depth path some) (blocks_of_children some) (walk_child k i position depth path children))
    child_walks k i depth position path no_child w = λ e. absurd (cc)
    child_walks zero i depth position path (with_child d children) w = λ e.
        let some : Dag = opened_path change position path d in
        let (from, walk, opens) = path_walks i depth position path d w.0 e in
        let (others, read, none_opened) = closed children in
        (each some d (opened_children [] children) children from others, walk, ap (λ (rest : List Section). blocks some ++ rest) none_opened ∙ append-nil (blocks some) ∙ opens)
    child_walks (suc k) i depth position path (with_child d children) w = λ e.
        let (from, walk, opens) = child_walks k i depth position path children w.1 e in
        (each (unopened (root_cid d)) d (opened_child k change position path children) children (unseen (root_cid d) d refl) from, walk, opens)
