-- what was heard and said so far, for which the session stands, and that it is open
use Rattle.std.proofs.Common.{◌<◌, ◌-◌, length}
use Rattle.tg_links.specs.Steps.{link_step}
use Rattle.tg_model.specs.Stores.{looked_in}
use Rattle.tg_gateway.proofs.Serving.{HasHeard}
use Rattle.tg_gateway.proofs.link.hear.Given as goal

abbrev pub invariant-loop-size : goal.invariant-loop-size
invariant-loop-size g l = record {
  room : 0 < length l.room;
  heard : HasHeard (g.B.Blocks.blocks.stored l.fn.blocks) l.fn.session.state.most l.session.state
      (link_step g.K.Link.link g.K.Source.source l.fn.link l.link) (looked_in g.B.Blocks.blocks l.fn.blocks l.blocks);
}

abbrev pub decreases-loop-size : goal.decreases-loop-size
decreases-loop-size g l = l.session.state.most - l.session.state.received
