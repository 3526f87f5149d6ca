use Rattle.tg_model_laws.proofs.StoreSteps.{walk_alone, walk_done, walk_front, walk_gives, walk_gone, walk_misfit, walk_misses, walk_opens, walk_starts, walk_too_deep, walk_unreadable}
use Rattle.tg_model_laws.proofs.walks.store_walks.Goals as goal

pub returns : goal.returns
returns c =
    let laws = c.traversal_stages.ensures in
    record {
      front = λ q store most given tasks h. walk_front laws q store most given tasks h;
      start = walk_starts laws;
      up_to_next = walk_gives laws;
      opened = λ q store most given w cid block kind tasks small h. walk_opens laws q store most given w cid tasks small h block kind;
      alone = λ q store most given w cid block tasks small h. walk_alone laws q store most given w cid tasks small h block;
      too_deep = walk_too_deep laws;
      not_stored = λ q store most given w cid tasks small h. walk_gone laws q store most given w cid tasks small h;
      unreadable = λ q store most given w cid block fault tasks small h. walk_unreadable laws q store most given w cid tasks small h block fault;
      misfit = λ q store most given w cid block kind fault tasks small h. walk_misfit laws q store most given w cid tasks small h block kind fault;
      miss = walk_misses laws;
      done = walk_done laws;
    }
