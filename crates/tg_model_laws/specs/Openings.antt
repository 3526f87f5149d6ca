-- Where the traversal of what was opened for a query may end.
use Rattle.std.specs.Prelude.{List, true, ⊤, ◌≡◌}
use Rattle.tg_model.specs.Dag.{Dag, Section}
use Rattle.tg_model.specs.PathWalk.{Stop, TraversalEnd, bad_block, gone, not_folder, not_there, stopped, whole}
use Rattle.tg_model.specs.Queries.{QueryParts}
use Rattle.tg_model.specs.Traversal.{block_list, is_sent_behind, traversal}

-- at a block that isn't opened, or that isn't a node there
abbrev pub IsAtBlock : Stop → Type 0
IsAtBlock (not_there i) = ⊥
IsAtBlock (not_folder i) = ⊥
IsAtBlock (gone spot) = ⊤
IsAtBlock (bad_block spot fault) = ⊤

-- or it came through
abbrev pub IsAtPlace : TraversalEnd → Type 0
IsAtPlace whole = ⊤
IsAtPlace (stopped stop) = IsAtBlock stop

-- where a traversal stops at a block that isn't opened, one under its CID is sent behind these sections
abbrev pub IsSettledAt : QueryParts → List Section → TraversalEnd → Type 0
IsSettledAt q sections whole = ⊤
IsSettledAt q sections (stopped (not_there i)) = ⊤
IsSettledAt q sections (stopped (not_folder i)) = ⊤
IsSettledAt q sections (stopped (gone spot)) = is_sent_behind q sections spot.cid ≡ true
IsSettledAt q sections (stopped (bad_block spot fault)) = ⊤

-- what is opened for a query is determined by what is sent: the traversal came through, or it stopped where a block is
-- sent or isn't a node
abbrev pub IsSettled : Dag → QueryParts → Type 0
IsSettled d q = IsAtPlace (traversal q d).end × IsSettledAt q (block_list q d) (traversal q d).end
