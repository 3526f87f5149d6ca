use Rattle.std.proofs.Common.{List, length, ◌∷◌, ◌≡◌}
use Rattle.std.specs.Map.{keys_of}
use Rattle.tg_cid.specs.Cid.{CidParts}
use Rattle.tg_model.specs.Dag.{Section}
use Rattle.tg_model.specs.Queries.{QueryParts}
use Rattle.tg_model.specs.Stores.{Store}
use Rattle.tg_model_laws.specs.Tasks.{Task, Want, depth_of, open_block}
use Rattle.tg_walk.specs.Known.{KnowsBelow}
use Rattle.tg_walk.proofs.known.Known.leave.Given as goal

-- what was known is known
abbrev pub invariant-loop-node : goal.invariant-loop-node
invariant-loop-node l = record {
  keys : keys_of l.self.entries ≡ keys_of l.fn.self.entries;
  knows : (q : QueryParts) (store : Store) (sections : List Section) (w : Want) (cid : CidParts) (later : List (Task CidParts)) → depth_of w ≡ l.fn.depth
      → KnowsBelow q store sections l.fn.self (open_block w cid ∷ later) → KnowsBelow q store sections l.self (open_block w cid ∷ later);
}

abbrev pub decreases-loop-node : goal.decreases-loop-node
decreases-loop-node l = length l.self.nodes
