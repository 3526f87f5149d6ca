use Rattle.std.proofs.Common.{List, ◌≡◌, ◌≤◌}
use Rattle.tg_model.specs.Dag.{Section}
use Rattle.tg_model.specs.Stores.{Store}
use Rattle.tg_walk.proofs.Passing.{IsNear}
use Rattle.tg_walk.specs.Walks.{IsOnWalk, blocks_left, max_depth}
use Rattle.tg_walk.proofs.walk.next_unknown.Given as goal

-- places were passed over of which all is known
abbrev pub invariant-loop-next : goal.invariant-loop-next
invariant-loop-next l = record {
  query : l.frames.query ≡ l.fn.frames.query;
  stands : (store : Store) (sections : List Section) → IsOnWalk max_depth l.fn.frames l.fn.known store sections → IsNear l.frames l.known store sections;
  fewer : blocks_left l.frames ≤ blocks_left l.fn.frames;
}

abbrev pub decreases-loop-next : goal.decreases-loop-next
decreases-loop-next l = blocks_left l.frames
