use Rattle.std.proofs.Common.{◌≤◌, [], length}
use Rattle.tg_gateway.specs.Steps.{HasAnswered}
use Rattle.tg_model.specs.Stores.{looked_in}
use Rattle.tg_reply.specs.Sessions.{IsOpen}
use Rattle.tg_streams.specs.Streams.{into}
use Rattle.tg_walk.specs.Walks.{HaveLookedUp}
use Rattle.tg_gateway.proofs.session.Session.answer.Given as goal

-- the store was looked up in, and the session, which is open, answered what it kept at the front
abbrev pub invariant-loop : goal.invariant-loop
invariant-loop g l = record {
  looked : HaveLookedUp (looked_in g.B.Blocks.blocks l.initial.blocks l.blocks);
  counted : g.B.Blocks.blocks.faults l.initial.blocks ≤ g.B.Blocks.blocks.faults l.blocks;
  open_is : IsOpen l.self.state;
  has : HasAnswered (g.B.Blocks.blocks.stored l.initial.blocks) l.initial.self.state l.self.state []
      (looked_in g.B.Blocks.blocks l.initial.blocks l.blocks) (into g.S.Sink.sink l.initial.out l.out);
}

abbrev pub decreases-loop : goal.decreases-loop
decreases-loop g l = length l.self.state.kept
