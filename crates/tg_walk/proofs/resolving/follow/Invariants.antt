use Rattle.tg_model.specs.Stores.{looked_in}
use Rattle.tg_traversal.specs.Left.{tasks_left}
use Rattle.tg_walk.proofs.PathLookups.{HasLookedTo}
use Rattle.tg_walk.proofs.PathSteps.{IsAlong}
use Rattle.tg_walk.proofs.resolving.follow.Given as goal

-- one place of the path is left, and the blocks of the places before it were looked up
abbrev pub invariant-loop-passed : goal.invariant-loop-passed
invariant-loop-passed g l = record {
  along : IsAlong l.fn.root l.fn.frames.query.path (g.B.Blocks.blocks.stored l.fn.blocks) l.passed l.frames;
  looked : HasLookedTo (g.B.Blocks.blocks.stored l.fn.blocks) l.fn.root l.fn.frames.query.path (tasks_left l.frames) (looked_in g.B.Blocks.blocks l.fn.blocks l.blocks);
}
