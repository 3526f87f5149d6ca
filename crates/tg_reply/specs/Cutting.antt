-- What a traversal gives that is cut at a depth, the places before the first deeper one, and how it ends.
use Rattle.std.specs.Prelude.{All, List, [], if◌then◌else◌, nat_lt, ℕ, ◌<◌, ◌↔◌, ◌∷◌, ◌≡◌, ◌≤◌, ◌⊎◌}
use Rattle.tg_model_laws.specs.Depths.{down_to}
use Rattle.tg_model.specs.Dag.{Dag}
use Rattle.tg_model.specs.PathWalk.{TraversalEnd, bad_block, gone, not_folder, not_there, stopped, whole}
use Rattle.tg_model.specs.Queries.{QueryParts}
use Rattle.tg_model.specs.Traversal.{Place, Traversal, traversal}

-- the places before the first that is deeper
abbrev pub before_deeper : ℕ → List Place → List Place
before_deeper most [] = []
before_deeper most (p ∷ places) = if nat_lt most p.depth then [] else p ∷ before_deeper most places

-- it stopped where a block is wanted that lies deeper
abbrev pub IsGoneDeeper : ℕ → TraversalEnd → Type 0
IsGoneDeeper most whole = ⊥
IsGoneDeeper most (stopped (not_there i)) = ⊥
IsGoneDeeper most (stopped (not_folder i)) = ⊥
IsGoneDeeper most (stopped (gone spot)) = most < spot.depth
IsGoneDeeper most (stopped (bad_block spot fault)) = ⊥

-- a traversal gives the places of another before the first deeper one; it comes through exactly where the other does and
-- none is deeper; and it ends as the other does, or where a deeper block is wanted
pub record IsCutBefore (most : ℕ) (cut full : Traversal) : Type 0 where
  pub places : cut.places ≡ before_deeper most full.places
  pub through : (cut.end ≡ whole) ↔ ((full.end ≡ whole) × All (λ p. p.depth ≤ most) full.places)
  pub ends : (cut.end ≡ full.end) ⊎ IsGoneDeeper most cut.end

-- so does the traversal of any DAG with the blocks below a depth unopened
abbrev pub CutsBeforeDeeper : Type 0
CutsBeforeDeeper =
    (q : QueryParts) (d : Dag) (most : ℕ) → IsCutBefore most (traversal q (down_to most 1 d)) (traversal q d)
