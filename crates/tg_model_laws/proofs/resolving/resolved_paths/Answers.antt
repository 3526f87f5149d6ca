use Rattle.tg_model_laws.proofs.ResolveSteps.{resolve_bound, resolve_ends, resolve_gone, resolve_misfit, resolve_misses, resolve_opens, resolve_starts, resolve_unreadable}
use Rattle.tg_model_laws.proofs.resolving.resolved_paths.Goals as goal

pub returns : goal.returns
returns c =
    let shards = c.placed_shards.ensures in
    record {
      bound = resolve_bound;
      start = resolve_starts;
      opened = λ q store i position name path depth cid block kind tasks few stored r fits h. resolve_opens q store i position name path depth cid block tasks few stored h shards kind r fits;
      reached = resolve_ends;
      not_stored = resolve_gone;
      unreadable = λ q store i position name path depth cid block fault tasks few stored r h. resolve_unreadable q store i position name path depth cid block tasks few stored h fault r;
      misfit = λ q store i position name path depth cid block kind fault tasks few stored r misfit h.
          resolve_misfit q store i position name path depth cid block tasks few stored h kind fault r misfit;
      miss = resolve_misses;
    }
