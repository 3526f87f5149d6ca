use Rattle.std.proofs.Common.{◌<◌, ◌≡◌, None, Some, false, length, slice_get, ℕ}
use Rattle.tg_serve.specs.Turns.{AreLanes, MayGoOn, moment_of}
use Rattle.tg_serve.proofs.lanes.admit_links.Given as goal

-- none was free of the lanes so far, or a link was admitted, or the door was asked
abbrev pub invariant-loop-lane : goal.invariant-loop-lane
invariant-loop-lane g l = record {
  lanes : AreLanes l.turns.links.items (length l.lanes.sessions) l.turns.busy (length l.turns.ready.items) (length l.turns.room.items);
  number : length l.turns.links.items ≡ length l.fn.turns.links.items;
  most : l.lanes.most ≡ l.fn.lanes.most;
  blocks : l.lanes.blocks ≡ l.fn.lanes.blocks;
  goes : MayGoOn g.L.Door.door g.L.Link.Link.link g.L.Link.Source.source (g.B.Blocks.blocks.stored l.fn.lanes.blocks) l.fn.lanes.most l.came
      (moment_of g.B.Blocks.blocks l.fn.lanes l.fn.turns.links.items l.fn.turns.left l.fn.turns.happened l.fn.door)
      (moment_of g.B.Blocks.blocks l.lanes l.turns.links.items l.turns.left l.turns.happened l.door);
  still : l.came ≡ false → l.left ≡ l.fn.most;
  none_free : l.came ≡ false → (lane : ℕ) → lane < l.lane → slice_get l.fn.turns.links.items lane ≡ Some None → ⊥;
  asks : (before : g.row.L.Denot) (asked : ℕ) → g.L.Door.door.asked before l.fn.door asked → g.L.Door.door.asked before l.door asked;
}
