use Rattle.std.proofs.Common.{List, Some, ◌≡◌, ◌≤◌}
use Rattle.tg_model.specs.Dag.{Section}
use Rattle.tg_model.specs.Stores.{Store, looked_in}
use Rattle.tg_walk.proofs.Giving.{HasPassed}
use Rattle.tg_walk.specs.Known.{KnownState}
use Rattle.tg_walk.specs.Walks.{IsOnWalk, blocks_left, max_depth}
use Rattle.tg_walk.proofs.walk.next_repeated.Given as goal

-- blocks that are not asked for were passed over
abbrev pub invariant-loop-found : goal.invariant-loop-found
invariant-loop-found g l = record {
  query : l.frames.query ≡ l.fn.frames.query;
  stands : (store : Store) (sections : List Section) → g.B.Blocks.blocks.stored l.fn.blocks ≡ Some store
      → (known : KnownState) → IsOnWalk max_depth l.fn.frames known store sections → IsOnWalk max_depth l.frames known store sections;
  fewer : blocks_left l.frames ≤ blocks_left l.fn.frames;
  looked : HasPassed l.fn.frames.query (looked_in g.B.Blocks.blocks l.fn.blocks l.blocks);
}

abbrev pub decreases-loop-found : goal.decreases-loop-found
decreases-loop-found g l = blocks_left l.frames
