use Rattle.std.proofs.Common.{List, Some, length, ℕ, ◌<◌, ◌≡◌}
use Rattle.std.specs.List.{slice_get}
use Rattle.tg_dials.specs.Dials.{at_dial}
use Rattle.tg_swarming.proofs.Telling.{DialledStay}
use Rattle.tg_swarming.specs.Counts.{KeepsCount, open_count}
use Rattle.tg_swarming.specs.Rounds.{AreLeft, DialTells, HasHungUp, Over, Setup}
use Rattle.tg_swarming.proofs.rounds.hang_up.Given as goal

-- the links that were given back so far are told, and the others are there; none stands before this peer
abbrev pub invariant-loop-peer : goal.invariant-loop-peer
invariant-loop-peer g l = record {
  number : length l.lines ≡ length l.fn.lines;
  dialled : DialledStay g.D.Dial.dial l.fn.dial l.dial;
  tells : (setup : Setup) (first : g.row.D.Denot) (overs : List Over) (missed : ℕ)
      → AreLeft g.D.Link.Link.link g.D.Link.Source.source setup (g.D.Dial.dial.dialled first l.fn.dial) l.fn.lines
      → DialTells (at_dial g.D.Dial.dial first l.fn.dial) overs missed → HasHungUp setup (at_dial g.D.Dial.dial first l.dial) overs missed;
  left : (setup : Setup) (first : g.row.D.Denot)
      → AreLeft g.D.Link.Link.link g.D.Link.Source.source setup (g.D.Dial.dial.dialled first l.fn.dial) l.fn.lines
      → AreLeft g.D.Link.Link.link g.D.Link.Source.source setup (g.D.Dial.dial.dialled first l.dial) l.lines;
  count : KeepsCount g.D.Dial.dial l.fn.dial (open_count l.fn.lines) l.dial (open_count l.lines);
  none : (at : ℕ) (link : g.row.D-Link.Denot) → at < l.peer → slice_get l.lines at ≡ Some (Some link) → ⊥;
}
