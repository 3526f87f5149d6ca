use Rattle.std.proofs.Common.{◌≡◌, length, ℕ}
use Rattle.tg_model.specs.Stores.{looked_in}
use Rattle.tg_serve.specs.Turns.{AreLanes, GoAt, moment_of, weight}
use Rattle.tg_walk.specs.Walks.{HaveLookedUp}
use Rattle.tg_serve.proofs.lanes.serve_lanes.Given as goal

-- lanes go as they began
abbrev pub invariant-loop-turns : goal.invariant-loop-turns
invariant-loop-turns g l = record {
  lanes : AreLanes l.turns.links.items (length l.lanes.sessions) l.turns.busy (length l.turns.ready.items) (length l.turns.room.items);
  number : length l.turns.links.items ≡ length l.fn.lanes.sessions;
  most : l.lanes.most ≡ l.fn.lanes.most;
  goes : GoAt g.L.Door.door g.L.Link.Link.link g.L.Link.Source.source (g.B.Blocks.blocks.stored l.fn.lanes.blocks) l.fn.lanes.most l.fn.turns.left
      (g.B.Blocks.blocks.faults l.fn.lanes.blocks) l.fn.door
      (moment_of g.B.Blocks.blocks l.lanes l.turns.links.items l.turns.left l.turns.happened l.door);
  asks : (before : g.row.L.Denot) (asked : ℕ) → g.L.Door.door.asked before l.fn.door asked → g.L.Door.door.asked before l.door asked;
  looked : HaveLookedUp (looked_in g.B.Blocks.blocks l.fn.lanes.blocks l.lanes.blocks);
}

-- less may happen behind each turn
abbrev pub decreases-loop-turns : goal.decreases-loop-turns
decreases-loop-turns g l = weight l.lanes.most l.turns.left l.lanes.sessions l.turns.links.items
