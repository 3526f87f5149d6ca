-- A path that leads nowhere in a DAG, and in the DAG that is cut at a depth.
use Rattle.std.proofs.Common.{Bool, List, None, Option, Some, [], ap, arith, cond, false, inl, inr, length, map, refl, subst, suc, true, zero, ℕ, ◌++◌, ◌+◌, ◌<◌, ◌∙◌, ◌∷◌, ◌≡◌, ◌≤◌, ◌⊎◌}
use Rattle.std.specs.Prelude.{⊤}
use Rattle.std.proofs.lemmas.Bool.{cases_lt, le-ltb, lt-ltb}
use Rattle.tg_cid.specs.Cid.{CidParts}
use Rattle.tg_model.specs.Counts.{greatest}
use Rattle.tg_model.specs.Dag.{Children, Dag, Section, bare, no_child, node, unopened, with_child}
use Rattle.tg_model.specs.PathWalk.{PathEnd, PathWalk, Spot, StepTo, absent, bad_block, child_below, gone, not_folder, not_folder_here, not_reached, not_there, spot_at, step_of, terminal, to_child, to_entry, unless_misfit, walk_child, walk_from, walk_step}
use Rattle.tg_model.specs.Sound.{Position, passed, position_fault, top}
use Rattle.tg_model.specs.Traversal.{Place, walk_places}
use Rattle.tg_model.specs.declared.fault.BlockFault.{BlockFault}
use Rattle.tg_model.specs.declared.kinds.Kind.{Kind}
use Rattle.tg_model_laws.specs.Depths.{children_down_to, down_to}
use Rattle.tg_murmur.specs.NameHash.{slot_of}

-- there is no such entry, or no directory
abbrev pub IsNowhere : PathEnd → Type 0
IsNowhere (terminal d) = ⊥
IsNowhere (not_reached (not_there i)) = ⊤
IsNowhere (not_reached (not_folder i)) = ⊤
IsNowhere (not_reached (gone spot)) = ⊥
IsNowhere (not_reached (bad_block spot fault)) = ⊥

-- a node that has to stand where it stands, beside a walk that ends alike
misfit_alike : (section : Section) (spot : Spot) (fault : Option BlockFault) (v w : PathWalk) → v.end ≡ w.end → (unless_misfit section spot fault v).end ≡ (unless_misfit section spot fault w).end
misfit_alike section spot None v w e = e
misfit_alike section spot (Some fault) v w e = refl

-- where the path leads nowhere, the node stands there
misfit_nowhere : (section : Section) (spot : Spot) (fault : Option BlockFault) (w : PathWalk) → IsNowhere (unless_misfit section spot fault w).end → IsNowhere w.end
misfit_nowhere section spot None w h = h
misfit_nowhere section spot (Some fault) w h = absurd h

module _ (most : ℕ) where
  -- none of the places is deeper
  abbrev Shallow : List Place → Type 0
  Shallow places = greatest (map (λ (p : Place). p.depth) places) ≤ most

  -- a node that is deeper is told as unopened, and another with its children cut
  deeper_node : (depth : ℕ) (section : Section) (kind : Kind) (children : Children) → most < depth → down_to most depth (node section kind children) ≡ unopened section.cid
  deeper_node depth section kind children h =
      ap (λ (b : Bool). cond b (unopened section.cid) (node section kind (children_down_to most (depth + 1) children))) (lt-ltb most depth h)

  within_node : (depth : ℕ) (section : Section) (kind : Kind) (children : Children) → depth ≤ most
      → down_to most depth (node section kind children) ≡ node section kind (children_down_to most (depth + 1) children)
  within_node depth section kind children h =
      ap (λ (b : Bool). cond b (unopened section.cid) (node section kind (children_down_to most (depth + 1) children))) (le-ltb most depth h)

  -- where the walk leads nowhere, the node is a place of it, and what follows is as shallow
  record Goes (depth : ℕ) (walk : PathWalk) (more : List Place) : Type 0 where
    here : depth ≤ most
    nowhere : IsNowhere walk.end
    shallow : Shallow (walk_places (depth + 1) walk.sections ++ more)

  -- a walk from a node that leads nowhere
  goes : (depth : ℕ) (section : Section) (spot : Spot) (fault : Option BlockFault) (walk : PathWalk) (more : List Place) → IsNowhere (unless_misfit section spot fault walk).end
      → Shallow (walk_places depth (unless_misfit section spot fault walk).sections ++ more) → Goes depth walk more
  goes depth section spot None walk more h few = record { here = omega (arith, few); nowhere = h; shallow = omega (arith, few) }
  goes depth section spot (Some fault) walk more h few = absurd h

  -- ---- the cut DAG's path ends as the DAG's

  abbrev CutAlike : ℕ → Position → ℕ → List (List ℕ) → Dag → Type 0
  CutAlike i position depth path d =
      (more : List Place) → IsNowhere (walk_from i position depth path d).end → Shallow (walk_places depth (walk_from i position depth path d).sections ++ more)
      → (walk_from i position depth path (down_to most depth d)).end ≡ (walk_from i position depth path d).end

  abbrev ChildCutAlike : ℕ → ℕ → Position → ℕ → List (List ℕ) → Children → Type 0
  ChildCutAlike k i position depth path children =
      (more : List Place) → IsNowhere (walk_child k i position depth path children).end → Shallow (walk_places depth (walk_child k i position depth path children).sections ++ more)
      → (walk_child k i position depth path (children_down_to most depth children)).end ≡ (walk_child k i position depth path children).end

  -- behind a step
  cut_step : (i depth : ℕ) (name : List ℕ) (path : List (List ℕ)) (below : Position) (children : Children) (step : StepTo) (more : List Place)
      → ((k j : ℕ) (position : Position) (rest : List (List ℕ)) → ChildCutAlike k j position (depth + 1) rest children)
      → IsNowhere (walk_step i (λ k. walk_child k (i + 1) top (depth + 1) path children) (λ k. walk_child k i below (depth + 1) (name ∷ path) children) step).end
      → Shallow (walk_places (depth + 1) (walk_step i (λ k. walk_child k (i + 1) top (depth + 1) path children) (λ k. walk_child k i below (depth + 1) (name ∷ path) children) step).sections ++ more)
      → (walk_step i (λ k. walk_child k (i + 1) top (depth + 1) path (children_down_to most (depth + 1) children))
      (λ k. walk_child k i below (depth + 1) (name ∷ path) (children_down_to most (depth + 1) children)) step).end
      ≡ (walk_step i (λ k. walk_child k (i + 1) top (depth + 1) path children) (λ k. walk_child k i below (depth + 1) (name ∷ path) children) step).end
  cut_step i depth name path below children (to_entry k) more inside h few = inside k (i + 1) top path more h few
  cut_step i depth name path below children (to_child k) more inside h few = inside k i below (name ∷ path) more h few
  cut_step i depth name path below children absent more inside h few = refl
  cut_step i depth name path below children not_folder_here more inside h few = refl

  -- from a node on
  cut_node : (i : ℕ) (position : Position) (depth : ℕ) (name : List ℕ) (path : List (List ℕ)) (section : Section) (kind : Kind) (children : Children)
      → ((k j : ℕ) (position : Position) (rest : List (List ℕ)) → ChildCutAlike k j position (depth + 1) rest children)
      → CutAlike i position depth (name ∷ path) (node section kind children)
  cut_node i position depth name path section kind children inside more h few =
      let below = child_below position (slot_of name (length (passed position))) in
      let step = step_of kind (length (passed position)) name in
      let spot = spot_at section.cid depth position in
      let fault = position_fault position kind in
      let cut = walk_step i (λ k. walk_child k (i + 1) top (depth + 1) path (children_down_to most (depth + 1) children))
      (λ k. walk_child k i below (depth + 1) (name ∷ path) (children_down_to most (depth + 1) children)) step in
      let full = walk_step i (λ k. walk_child k (i + 1) top (depth + 1) path children) (λ k. walk_child k i below (depth + 1) (name ∷ path) children) step in
      let on : Goes depth full more = goes depth section spot fault full more h few in
      ap (λ (x : Dag). (walk_from i position depth (name ∷ path) x).end) (within_node depth section kind children on.here)
      ∙ misfit_alike section spot fault cut full (cut_step i depth name path below children step more inside on.nowhere on.shallow)

  -- from any DAG on, and from a child of it
  mutual
    cut_alike : (i : ℕ) (position : Position) (depth : ℕ) (path : List (List ℕ)) (d : Dag) → CutAlike i position depth path d
    cut_alike i position depth [] (unopened cid) more h few = refl
    cut_alike i position depth (name ∷ path) (unopened cid) more h few = refl
    cut_alike i position depth [] (bare section fault) more h few = absurd h
    cut_alike i position depth (name ∷ path) (bare section None) more h few = absurd h
    cut_alike i position depth (name ∷ path) (bare section (Some fault)) more h few = absurd h
    cut_alike i position depth [] (node section kind children) more h few = absurd h
    cut_alike i position depth (name ∷ path) (node section kind children) more h few =
        cut_node i position depth name path section kind children (λ k j position rest. child_cut_alike k j position (depth + 1) rest children) more h few

    child_cut_alike : (k i : ℕ) (position : Position) (depth : ℕ) (path : List (List ℕ)) (children : Children) → ChildCutAlike k i position depth path children
    child_cut_alike k i position depth path no_child more h few = refl
    child_cut_alike zero i position depth path (with_child d children) more h few = cut_alike i position depth path d more h few
    child_cut_alike (suc k) i position depth path (with_child d children) more h few = child_cut_alike k i position depth path children more h few

  -- ---- and where the cut DAG's path leads nowhere, the DAG's ends as it does

  abbrev FullAlike : ℕ → Position → ℕ → List (List ℕ) → Dag → Type 0
  FullAlike i position depth path d =
      IsNowhere (walk_from i position depth path (down_to most depth d)).end
      → (walk_from i position depth path (down_to most depth d)).end ≡ (walk_from i position depth path d).end

  abbrev ChildFullAlike : ℕ → ℕ → Position → ℕ → List (List ℕ) → Children → Type 0
  ChildFullAlike k i position depth path children =
      IsNowhere (walk_child k i position depth path (children_down_to most depth children)).end
      → (walk_child k i position depth path (children_down_to most depth children)).end ≡ (walk_child k i position depth path children).end

  -- behind a step
  full_step : (i depth : ℕ) (name : List ℕ) (path : List (List ℕ)) (below : Position) (children : Children) (step : StepTo)
      → ((k j : ℕ) (position : Position) (rest : List (List ℕ)) → ChildFullAlike k j position (depth + 1) rest children)
      → IsNowhere (walk_step i (λ k. walk_child k (i + 1) top (depth + 1) path (children_down_to most (depth + 1) children))
      (λ k. walk_child k i below (depth + 1) (name ∷ path) (children_down_to most (depth + 1) children)) step).end
      → (walk_step i (λ k. walk_child k (i + 1) top (depth + 1) path (children_down_to most (depth + 1) children))
      (λ k. walk_child k i below (depth + 1) (name ∷ path) (children_down_to most (depth + 1) children)) step).end
      ≡ (walk_step i (λ k. walk_child k (i + 1) top (depth + 1) path children) (λ k. walk_child k i below (depth + 1) (name ∷ path) children) step).end
  full_step i depth name path below children (to_entry k) inside h = inside k (i + 1) top path h
  full_step i depth name path below children (to_child k) inside h = inside k i below (name ∷ path) h
  full_step i depth name path below children absent inside h = refl
  full_step i depth name path below children not_folder_here inside h = refl

  -- a walk from a block that isn't opened stops for another cause
  unopened_leads : (i : ℕ) (position : Position) (depth : ℕ) (path : List (List ℕ)) (cid : CidParts) → IsNowhere (walk_from i position depth path (unopened cid)).end → ⊥
  unopened_leads i position depth [] cid h = h
  unopened_leads i position depth (name ∷ path) cid h = h

  -- and so does one from a block that isn't read on
  bare_leads : (i : ℕ) (position : Position) (depth : ℕ) (path : List (List ℕ)) (section : Section) (fault : Option BlockFault)
      → IsNowhere (walk_from i position depth path (bare section fault)).end → ⊥
  bare_leads i position depth [] section fault h = h
  bare_leads i position depth (name ∷ path) section None h = h
  bare_leads i position depth (name ∷ path) section (Some fault) h = h

  -- from either of them
  full_bare : (i : ℕ) (position : Position) (depth : ℕ) (path : List (List ℕ)) (section : Section) (fault : Option BlockFault) (b : Bool)
      → IsNowhere (walk_from i position depth path (cond b (unopened section.cid) (bare section fault))).end → ⊥
  full_bare i position depth path section fault true h = unopened_leads i position depth path section.cid h
  full_bare i position depth path section fault false h = bare_leads i position depth path section fault h

  -- from a node on
  full_node : (i : ℕ) (position : Position) (depth : ℕ) (path : List (List ℕ)) (section : Section) (kind : Kind) (children : Children)
      → ((k j : ℕ) (position : Position) (rest : List (List ℕ)) → ChildFullAlike k j position (depth + 1) rest children)
      → (most < depth) ⊎ (depth ≤ most) → FullAlike i position depth path (node section kind children)
  full_node i position depth path section kind children inside (inl deep) h =
      absurd (unopened_leads i position depth path section.cid
      (subst (λ (x : Dag). IsNowhere (walk_from i position depth path x).end) (deeper_node depth section kind children deep) h))
  full_node i position depth [] section kind children inside (inr near) h =
      absurd (subst (λ (x : Dag). IsNowhere (walk_from i position depth [] x).end) (within_node depth section kind children near) h)
  full_node i position depth (name ∷ path) section kind children inside (inr near) h =
      let below = child_below position (slot_of name (length (passed position))) in
      let step = step_of kind (length (passed position)) name in
      let spot = spot_at section.cid depth position in
      let fault = position_fault position kind in
      let cut = walk_step i (λ k. walk_child k (i + 1) top (depth + 1) path (children_down_to most (depth + 1) children))
      (λ k. walk_child k i below (depth + 1) (name ∷ path) (children_down_to most (depth + 1) children)) step in
      let full = walk_step i (λ k. walk_child k (i + 1) top (depth + 1) path children) (λ k. walk_child k i below (depth + 1) (name ∷ path) children) step in
      let at : IsNowhere (unless_misfit section spot fault cut).end =
      subst (λ (x : Dag). IsNowhere (walk_from i position depth (name ∷ path) x).end) (within_node depth section kind children near) h in
      ap (λ (x : Dag). (walk_from i position depth (name ∷ path) x).end) (within_node depth section kind children near)
      ∙ misfit_alike section spot fault cut full (full_step i depth name path below children step inside (misfit_nowhere section spot fault cut at))

  -- from any DAG on, and from a child of it
  mutual
    full_alike : (i : ℕ) (position : Position) (depth : ℕ) (path : List (List ℕ)) (d : Dag) → FullAlike i position depth path d
    full_alike i position depth path (unopened cid) h = refl
    full_alike i position depth path (bare section fault) h = absurd (full_bare i position depth path section fault _ h)
    full_alike i position depth path (node section kind children) h =
        full_node i position depth path section kind children (λ k j position rest. child_full_alike k j position (depth + 1) rest children) (cases_lt most depth) h

    child_full_alike : (k i : ℕ) (position : Position) (depth : ℕ) (path : List (List ℕ)) (children : Children) → ChildFullAlike k i position depth path children
    child_full_alike k i position depth path no_child h = refl
    child_full_alike zero i position depth path (with_child d children) h = full_alike i position depth path d h
    child_full_alike (suc k) i position depth path (with_child d children) h = child_full_alike k i position depth path children h

-- where a DAG's path leads nowhere, and none of its places is deeper, the cut DAG's path ends as it does
pub cut_nowhere : (most : ℕ) (path : List (List ℕ)) (d : Dag) (more : List Place) → IsNowhere (walk_from 0 top 1 path d).end
    → greatest (map (λ p. p.depth) (walk_places 1 (walk_from 0 top 1 path d).sections ++ more)) ≤ most
    → (walk_from 0 top 1 path (down_to most 1 d)).end ≡ (walk_from 0 top 1 path d).end
cut_nowhere most path d more h few = cut_alike most 0 top 1 path d more h few

-- and where the cut DAG's path leads nowhere, the DAG's ends as it does
pub full_nowhere : (most : ℕ) (path : List (List ℕ)) (d : Dag) → IsNowhere (walk_from 0 top 1 path (down_to most 1 d)).end
    → (walk_from 0 top 1 path (down_to most 1 d)).end ≡ (walk_from 0 top 1 path d).end
full_nowhere most path d h = full_alike most 0 top 1 path d h
