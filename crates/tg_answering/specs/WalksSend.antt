-- From a walk over a store to the sections that a reply sends, and to whether it is cut (Trustless Gateway specification,
-- dag-scope, entity-bytes and dups; that no block is sent that lies deeper than 512 is this project's own).
use Rattle.std.specs.Prelude.{List, true, ◌++◌, ◌≡◌}
use Rattle.tg_model.specs.Dag.{Section}
use Rattle.tg_model.specs.PathWalk.{TraversalEnd}
use Rattle.tg_model.specs.Queries.{QueryParts}
use Rattle.tg_model.specs.Stores.{Store}
use Rattle.tg_model.specs.Traversal.{block_list, traversal}
use Rattle.tg_reply.specs.Replies.{is_cut, is_cut_on_path, sent_dag}
use Rattle.tg_traversal.specs.Left.{LeftState}
use Rattle.tg_walk.specs.Known.{KnownState}
use Rattle.tg_walk.specs.Walks.{HasEnded, HasStoppedDeep, IsOnWalk, max_depth}

-- the sections that a reply to a query sends where the store gives each block
abbrev pub sections_sent : Store → QueryParts → List Section
sections_sent store q = block_list q (sent_dag store q.root)

-- a walk that ended gave just the sections that are sent, and what is sent ends as it did
abbrev pub EndedWalksSend : Type 0
EndedWalksSend = (q : QueryParts) (store : Store) (sections : List Section) (end : TraversalEnd)
    → HasEnded q store max_depth sections end
    → (sections_sent store q ≡ sections) × ((traversal q (sent_dag store q.root)).end ≡ end)

-- so did one that stopped where the next block lies too deep, and the reply is cut
abbrev pub DeepWalksSend : Type 0
DeepWalksSend = (q : QueryParts) (store : Store) (sections : List Section) → HasStoppedDeep q store max_depth sections
    → (sections_sent store q ≡ sections)
    × (is_cut (traversal q (sent_dag store q.root)).end ≡ true)
    × (is_cut_on_path (traversal q (sent_dag store q.root)).end ≡ true)

-- one that goes on has given the first of them
abbrev pub WalksSendFronts : Type 0
WalksSendFronts = (left : LeftState) (known : KnownState) (store : Store) (sections : List Section)
    → IsOnWalk max_depth left known store sections
    → (more : List Section) × (sections_sent store left.query ≡ sections ++ more)
