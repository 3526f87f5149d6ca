-- The walk along a path over a store, from place to place.
use Rattle.std.proofs.Common.{List, [], refl, suc, zero, ℕ, ◌+◌, ◌∷◌}
use Rattle.tg_cid.specs.Cid.{CidParts}
use Rattle.tg_walk.specs.Resolving.{IsPathPlace}
use Rattle.tg_model.specs.Dag.{Section}
use Rattle.tg_model.specs.PathWalk.{StepTo, absent, not_folder_here, step_of, to_child, to_entry}
use Rattle.tg_model.specs.Queries.{QueryParts}
use Rattle.tg_model.specs.Sound.{Position}
use Rattle.tg_model.specs.declared.kinds.Kind.{Kind}
use Rattle.tg_model_laws.specs.Tasks.{Want, link_tasks, open_block, path_want, position_below, segment_want, step_tasks, tasks_of}

-- a place that is asked for at this depth
abbrev IsPathWant : ℕ → Want → Type 0
IsPathWant d w = (cid : CidParts) → IsPathPlace d (open_block w cid ∷ [])

after_path : (i : ℕ) (path : List (List ℕ)) (d : ℕ) → IsPathWant d (path_want i path d)
after_path i [] d cid = refl
after_path i (name ∷ path) d cid = refl

-- the root's
pub first_place : (path : List (List ℕ)) (root : CidParts) → IsPathPlace 1 (open_block (path_want 0 path 1) root ∷ [])
first_place path root = after_path 0 path 1 root

of_link : (k i d : ℕ) (w : Want) (cids : List CidParts) → IsPathWant d w → IsPathPlace d (link_tasks k i w cids)
of_link k i d w [] h = _
of_link zero i d w (cid ∷ cids) h = h cid
of_link (suc k) i d w (cid ∷ cids) h = of_link k i d w cids h

of_step : (i d : ℕ) (entry inner : Want) (step : StepTo) (cids : List CidParts) → IsPathWant d entry → IsPathWant d inner → IsPathPlace d (step_tasks i entry inner step cids)
of_step i d entry inner (to_entry k) cids h g = of_link k (i + 1) d entry cids h
of_step i d entry inner (to_child k) cids h g = of_link k i d inner cids g
of_step i d entry inner absent cids h g = _
of_step i d entry inner not_folder_here cids h g = _

-- a block of the path leaves the next place, one block deeper, or leads nowhere
pub next_on_path : (q : QueryParts) (i : ℕ) (position : Position) (name : List ℕ) (path : List (List ℕ)) (depth : ℕ) (section : Section) (kind : Kind) (cids : List CidParts)
    → IsPathPlace (depth + 1) (tasks_of q (segment_want i position name path depth) section kind cids)
next_on_path q i position name path depth section kind cids =
    of_step i (depth + 1) (path_want (i + 1) path (depth + 1)) (segment_want i (position_below position name) name path (depth + 1))
    (step_of kind _ name) cids (after_path (i + 1) path (depth + 1)) (λ cid. refl)
