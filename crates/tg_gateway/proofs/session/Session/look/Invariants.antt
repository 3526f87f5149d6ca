use Rattle.std.proofs.Common.{◌≡◌, ◌≤◌, ◌++◌, ℕ, List, length}
use Rattle.tg_gateway.specs.Steps.{HasAnswered}
use Rattle.tg_model.specs.Stores.{looked_in}
use Rattle.tg_reply.specs.Sessions.{IsOpen}
use Rattle.tg_streams.specs.Streams.{into}
use Rattle.tg_walk.specs.Walks.{HaveLookedUp}
use Rattle.tg_gateway.proofs.session.Session.look.Given as goal

-- the bytes before the rest were added, of which an open session answered some
abbrev pub invariant-loop-self : goal.invariant-loop-self
invariant-loop-self g l = record {
  looked : HaveLookedUp (looked_in g.B.Blocks.blocks l.initial.blocks l.blocks);
  counted : g.B.Blocks.blocks.faults l.initial.blocks ≤ g.B.Blocks.blocks.faults l.blocks;
  open_is : IsOpen l.self.state;
  added : List ℕ;
  bytes_are : l.bytes ≡ added ++ l.rest;
  has : HasAnswered (g.B.Blocks.blocks.stored l.initial.blocks) l.initial.self.state l.self.state added
      (looked_in g.B.Blocks.blocks l.initial.blocks l.blocks) (into g.S.Sink.sink l.initial.out l.out);
}

abbrev pub decreases-loop-self : goal.decreases-loop-self
decreases-loop-self g l = length l.rest
