-- One step of the walk along a path.
use Rattle.std.proofs.Common.{◌≡◌, ℕ, ◌+◌, suc, zero, Option, Some, None, List, [], ◌∷◌, length, refl, sym, ap, ◌∙◌, subst}
use Rattle.tg_model.specs.Dag.{Children, Dag, Section, bare, no_child, node, unopened, with_child}
use Rattle.tg_model.specs.PathWalk.{PathEnd, PathWalk, StepTo, absent, bad_block, not_folder_here, not_reached, path_walk, spot_at, step_of, to_child, to_entry, unless_misfit, walk_child, walk_from, walk_step}
use Rattle.tg_model.specs.Queries.{QueryParts}
use Rattle.tg_model.specs.Sound.{Position, passed, position_fault, top}
use Rattle.tg_model.specs.declared.fault.BlockFault.{BlockFault}
use Rattle.tg_model.specs.declared.kinds.Kind.{Kind}
use Rattle.tg_model_laws.specs.PathStages.{IsPathEnd, LeadsToEnd}
use Rattle.tg_model_laws.specs.Tasks.{Want, dags_of, link_tasks, path_want, position_below, segment_want, start, step_tasks, tasks_of}

-- with no segment left, whatever was counted
no_segment : (i other : ℕ) (depth : ℕ) (d : Dag) → (walk_from i top depth [] d).end ≡ (walk_from other top depth [] d).end
no_segment i other depth (unopened cid) = refl
no_segment i other depth (bare section fault) = refl
no_segment i other depth (node section kind children) = refl

-- from the top on
pub path_leads : (i : ℕ) (path : List (List ℕ)) (depth : ℕ) (d : Dag) → LeadsToEnd (path_want i path depth) d (walk_from i top depth path d).end
path_leads i [] depth d = no_segment i 0 depth d
path_leads i (name ∷ path) depth d = refl

pub path_starts : (q : QueryParts) (d : Dag) → IsPathEnd (start q d) (path_walk q.path d).end
path_starts q d = (path_leads 0 q.path 1 d, refl)

link_leads : (k i : ℕ) (position : Position) (path : List (List ℕ)) (depth : ℕ) (w : Want) (children : Children) → ((d : Dag) → LeadsToEnd w d (walk_from i position depth path d).end)
    → IsPathEnd (link_tasks k i w (dags_of children)) (walk_child k i position depth path children).end
link_leads k i position path depth w no_child h = (refl, refl)
link_leads zero i position path depth w (with_child d children) h = (h d, refl)
link_leads (suc k) i position path depth w (with_child d children) h = link_leads k i position path depth w children h

step_leads_on : (i : ℕ) (inner : Position) (name : List ℕ) (path : List (List ℕ)) (depth : ℕ) (step : StepTo) (children : Children)
    → IsPathEnd (step_tasks i (path_want (i + 1) path depth) (segment_want i inner name path depth) step (dags_of children))
    (walk_step i (λ k. walk_child k (i + 1) top depth path children) (λ k. walk_child k i inner depth (name ∷ path) children) step).end
step_leads_on i inner name path depth (to_entry k) children = link_leads k (i + 1) top path depth (path_want (i + 1) path depth) children (path_leads (i + 1) path depth)
step_leads_on i inner name path depth (to_child k) children = link_leads k i inner (name ∷ path) depth (segment_want i inner name path depth) children (λ d. refl)
step_leads_on i inner name path depth absent children = (refl, refl)
step_leads_on i inner name path depth not_folder_here children = (refl, refl)

pub path_opens : (q : QueryParts) (end : PathEnd) (i : ℕ) (position : Position) (name : List ℕ) (path : List (List ℕ)) (depth : ℕ) (section : Section) (kind : Kind) (children : Children)
    → position_fault position kind ≡ None → LeadsToEnd (segment_want i position name path depth) (node section kind children) end
    → IsPathEnd (tasks_of q (segment_want i position name path depth) section kind (dags_of children)) end
path_opens q end i position name path depth section kind children e h =
    let inner : Position = position_below position name in
    let step : StepTo = step_of kind (length (passed position)) name in
    let walk : PathWalk = walk_step i (λ k. walk_child k (i + 1) top (depth + 1) path children) (λ k. walk_child k i inner (depth + 1) (name ∷ path) children) step in
    subst (λ (end : PathEnd). IsPathEnd (tasks_of q (segment_want i position name path depth) section kind (dags_of children)) end)
    (sym (h ∙ ap (λ (fault : Option BlockFault). (unless_misfit section (spot_at section.cid depth position) fault walk).end) e)) (step_leads_on i inner name path (depth + 1) step children)

pub path_misfit : (end : PathEnd) (i : ℕ) (position : Position) (name : List ℕ) (path : List (List ℕ)) (depth : ℕ) (section : Section) (kind : Kind) (children : Children) (fault : BlockFault)
    → position_fault position kind ≡ Some fault → LeadsToEnd (segment_want i position name path depth) (node section kind children) end
    → end ≡ not_reached (bad_block (spot_at section.cid depth position) fault)
path_misfit end i position name path depth section kind children fault e h =
    let inner : Position = position_below position name in
    let walk : PathWalk = walk_step i (λ k. walk_child k (i + 1) top (depth + 1) path children) (λ k. walk_child k i inner (depth + 1) (name ∷ path) children) (step_of kind (length (passed position)) name) in
    h ∙ ap (λ (fault : Option BlockFault). (unless_misfit section (spot_at section.cid depth position) fault walk).end) e
