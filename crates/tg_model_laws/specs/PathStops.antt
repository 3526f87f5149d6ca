-- Where a path stops, the traversal stops.
use Rattle.std.proofs.Common.{◌≡◌, ◌+◌, length, ap}
use Rattle.tg_model.specs.Dag.{Dag}
use Rattle.tg_model.specs.PathWalk.{PathEnd, Stop, not_reached, path_walk, stopped}
use Rattle.tg_model.specs.Queries.{QueryParts}
use Rattle.tg_model.specs.Traversal.{from_end, traversal}

-- a path that leads to no terminal stops the traversal
pub path_stops : (q : QueryParts) (d : Dag) (stop : Stop) → (path_walk q.path d).end ≡ not_reached stop
    → (traversal q d).end ≡ stopped stop
path_stops q d stop e =
    ap (λ (end : PathEnd). (from_end end q.scope q.span (length (path_walk q.path d).sections + 1)).end) e
