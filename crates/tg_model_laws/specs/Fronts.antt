-- Fronts of the sections that a query asks for.
use Rattle.std.specs.Prelude.{List, ℕ, ◌++◌, ◌∷◌, ◌≡◌}
use Rattle.tg_model_laws.specs.PartialDags.{OpenedFrom}
use Rattle.tg_model.specs.Dag.{Dag, Section}
use Rattle.tg_model.specs.Fits.{Fits, IsInProgress, output_so_far}
use Rattle.tg_model.specs.PathWalk.{Spot}
use Rattle.tg_model.specs.Queries.{QueryParts}
use Rattle.tg_model.specs.Traversal.{opened_list}

-- the front is in progress, the CID of the section behind it is wanted, its partial DAG is the other with that block and
-- those behind it unopened, and what is written for it is a front of what is written for the other
pub record IsFrontOf (q : QueryParts) (d : Dag) (front : List Section) (next : Section) : Type 0 where
  pub partial : Dag
  pub spot : Spot
  pub progress : IsInProgress partial q front spot
  pub wanted : spot.cid ≡ next.cid
  pub from : OpenedFrom partial d
  pub behind : List Section
  pub opened : opened_list q d ≡ opened_list q partial ++ next ∷ behind
  pub tail : List ℕ
  pub output : output_so_far q d ≡ output_so_far q partial ++ tail

-- each front of sections that fit is in progress
abbrev pub FitsByFronts : Type 0
FitsByFronts = (q : QueryParts) (d : Dag) (front rest : List Section) (next : Section) (out : List ℕ)
    → Fits d q (front ++ next ∷ rest) out → IsFrontOf q d front next

-- and so is each front of sections that are in progress
abbrev pub ProgressByFronts : Type 0
ProgressByFronts = (q : QueryParts) (d : Dag) (front rest : List Section) (next : Section) (wanted : Spot)
    → IsInProgress d q (front ++ next ∷ rest) wanted → IsFrontOf q d front next
