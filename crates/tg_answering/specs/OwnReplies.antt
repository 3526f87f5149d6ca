-- The replies of a gateway whose store holds the blocks of a sound DAG: they send the sections of the DAG's own traversal
-- (Trustless Gateway specification; Path Gateway specification, Path Resolution).
use Rattle.std.specs.Prelude.{List, Ok, Some, false, true, ℕ, ◌≡◌, ◌≤◌}
use Rattle.tg_answering.specs.WalksSend.{sections_sent}
use Rattle.tg_http.specs.declared.request.RequestHead.{RequestHead}
use Rattle.tg_model.specs.Answer.{answer, block_of}
use Rattle.tg_model.specs.Counts.{counts}
use Rattle.tg_model.specs.Dag.{Dag, root_cid}
use Rattle.tg_model.specs.PathWalk.{Stop, not_reached, path_walk}
use Rattle.tg_model.specs.Queries.{QueryParts}
use Rattle.tg_model.specs.Sound.{IsSound}
use Rattle.tg_model.specs.Stores.{Store}
use Rattle.tg_model.specs.Traversal.{block_list}
use Rattle.tg_model.specs.declared.queries.Form.TheVariants as forms
use Rattle.tg_model_laws.specs.Stores.{Holds}
use Rattle.tg_reply.specs.Asked.{asked}
use Rattle.tg_reply.specs.Replies.{LeadsNowhere, car_reply, raw_reply, reply}
use Rattle.tg_walk.specs.Walks.{max_depth}

-- a store holds the blocks of a sound DAG with the query's root, of which none that is asked for lies too deep; and the head
-- asks for the query
pub record AsksForHeld (store : Store) (d : Dag) (q : QueryParts) (head : RequestHead) : Type 0 where
  pub sound : IsSound d
  pub root : root_cid d ≡ q.root
  pub holds : Holds store d
  pub shallow : (counts q d).depth ≤ max_depth
  pub asked_is : asked head ≡ Ok q

-- the sections of the DAG's own traversal are sent
abbrev pub OwnSections : Type 0
OwnSections = (store : Store) (d : Dag) (q : QueryParts) (head : RequestHead) → AsksForHeld store d q head → sections_sent store q ≡ block_list q d

-- where the DAG has an answer the CAR of its sections is sent, whole
abbrev pub OwnAnswers : Type 0
OwnAnswers = (store : Store) (d : Dag) (q : QueryParts) (head : RequestHead) (text : List ℕ) → AsksForHeld store d q head
    → q.form ≡ forms.Car → answer q d ≡ Some text → reply store head ≡ car_reply head true q (block_list q d) false

-- where its path leads nowhere that of the blocks on it, with status 404
abbrev pub OwnAbsences : Type 0
OwnAbsences = (store : Store) (d : Dag) (q : QueryParts) (head : RequestHead) (stop : Stop) → AsksForHeld store d q head
    → q.form ≡ forms.Car → (path_walk q.path d).end ≡ not_reached stop → LeadsNowhere stop
    → reply store head ≡ car_reply head false q (block_list q d) false

-- and of a raw block the root's
abbrev pub OwnRaws : Type 0
OwnRaws = (store : Store) (d : Dag) (q : QueryParts) (head : RequestHead) → AsksForHeld store d q head → q.form ≡ forms.Raw
    → reply store head ≡ raw_reply head q (block_of d)
