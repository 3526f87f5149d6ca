use Rattle.std.specs.Prelude.{ℕ}
use Rattle.tg_doors.specs.Doors.{at_door}
use Rattle.tg_model.specs.Stores.{looked_in}
use Rattle.tg_serve.proofs.Runs.{HasServed}
use Rattle.tg_serve.specs.Serving.{LinksTell}
use Rattle.tg_walk.specs.Walks.{HaveLookedUp}
use Rattle.tg_serve.proofs.serve_door.Given as goal

-- the links so far were served
abbrev pub invariant-loop-left : goal.invariant-loop-left
invariant-loop-left g l = record {
  served : HasServed (g.B.Blocks.blocks.stored l.fn.blocks) l.fn.limits.received l.fn.count l.left (LinksTell g.L.Link.Link.link)
      (g.B.Blocks.blocks.faults l.fn.blocks) (g.B.Blocks.blocks.faults l.blocks) (at_door g.L.Door.door l.fn.door l.door) l.happened;
  asks : (before : g.row.L.Denot) (asked : ℕ) → g.L.Door.door.asked before l.fn.door asked → g.L.Door.door.asked before l.door asked;
  looked : HaveLookedUp (looked_in g.B.Blocks.blocks l.fn.blocks l.blocks);
}

-- each further link leaves fewer
abbrev pub decreases-loop-left : goal.decreases-loop-left
decreases-loop-left g l = l.left
