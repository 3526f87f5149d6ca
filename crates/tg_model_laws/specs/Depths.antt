-- A DAG, and the traversal of it, cut at a depth.
use Rattle.std.specs.Prelude.{All, if◌then◌else◌, nat_lt, ℕ, ⊤, ◌+◌, ◌<◌, ◌≡◌, ◌≤◌, ◌⊎◌}
use Rattle.tg_model_laws.specs.PartialDags.{StopsBefore}
use Rattle.tg_model_laws.specs.Stores.{Holds}
use Rattle.tg_model.specs.Dag.{Children, Dag, bare, no_child, node, root_cid, unopened, with_child}
use Rattle.tg_model.specs.PathWalk.{Stop, TraversalEnd, bad_block, gone, not_folder, not_there, stopped, whole}
use Rattle.tg_model.specs.Queries.{QueryParts}
use Rattle.tg_model.specs.Sound.{IsSound}
use Rattle.tg_model.specs.StoreView.{store_view}
use Rattle.tg_model.specs.Stores.{Store}
use Rattle.tg_model.specs.Traversal.{Traversal, traversal}

-- a DAG whose root has this depth, with the blocks below a depth of `most` unopened
abbrev mutual
  pub down_to : ℕ → ℕ → Dag → Dag
  down_to most depth (unopened cid) = unopened cid
  down_to most depth (bare section fault) = if nat_lt most depth then unopened section.cid else bare section fault
  down_to most depth (node section kind children) =
      if nat_lt most depth then unopened section.cid else node section kind (children_down_to most (depth + 1) children)

  pub children_down_to : ℕ → ℕ → Children → Children
  children_down_to most depth no_child = no_child
  children_down_to most depth (with_child d children) =
      with_child (down_to most depth d) (children_down_to most depth children)

-- cut at a depth of at most 1,100 blocks, what a store shows is the sound DAG of which it holds the blocks
abbrev pub ShowsDownTo : Type 0
ShowsDownTo = (store : Store) (d : Dag) (most : ℕ) → IsSound d → Holds store d → most ≤ 1100 → down_to most 1 (store_view store (root_cid d)) ≡ down_to most 1 d

-- where a block below the depth is wanted
abbrev pub IsDeeper : ℕ → Stop → Type 0
IsDeeper most (not_there i) = ⊤
IsDeeper most (not_folder i) = ⊤
IsDeeper most (gone spot) = most < spot.depth
IsDeeper most (bad_block spot fault) = ⊥

abbrev pub EndsDeeper : ℕ → TraversalEnd → Type 0
EndsDeeper most whole = ⊤
EndsDeeper most (stopped stop) = IsDeeper most stop

-- a traversal cut at a depth: its places aren't deeper, and it is the whole traversal, or it stops where a deeper block
-- is wanted
pub record IsCutAt (most : ℕ) (t u : Traversal) : Type 0 where
  pub within : All (λ p. p.depth ≤ most) t.places
  pub end : EndsDeeper most t.end
  pub follows : (t ≡ u) ⊎ StopsBefore t u

-- so is the traversal of a sound DAG that is cut at the depth
abbrev pub CutsAtDepths : Type 0
CutsAtDepths =
    (q : QueryParts) (d : Dag) (most : ℕ) → IsSound d → IsCutAt most (traversal q (down_to most 1 d)) (traversal q d)
