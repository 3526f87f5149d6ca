use Rattle.std.proofs.Common.{ap, length, subst, sym, ◌∙◌}
use Rattle.std.proofs.lemmas.List.{length-set}
use Rattle.tg_lanes.specs.History.{EventStands}
use Rattle.tg_lanes.proofs.Moves.{idle_put, lanes_ended, lanes_fed}
use Rattle.tg_model.specs.Stores.{looked_in}
use Rattle.tg_streams.specs.Streams.{into}
use Rattle.tg_lanes.proofs.lanes.Lanes.event.Goals as goal

pub returns-in-Ended-clause-stands : goal.returns-in-Ended-clause-stands
returns-in-Ended-clause-stands g c =
    subst (λ e. EventStands (g.B.Blocks.blocks.stored c.args.self.now.blocks) c.args.self.now.sessions c.args.self.now.sessions c.args.lane e
    (looked_in g.B.Blocks.blocks c.args.self.now.blocks c.args.self.now.blocks) (into g.S.Sink.sink c.args.out.now c.args.out.now) _)
    (sym c.in-Ended.is)
    (λ since moves stand. lanes_ended (g.B.Blocks.blocks.stored c.args.self.now.blocks) c.args.self.now.sessions c.args.lane since
    (g.B.Blocks.blocks.faults c.args.self.now.blocks) moves stand)

pub returns-in-Piece-clause-stands : goal.returns-in-Piece-clause-stands
returns-in-Piece-clause-stands g c =
    let p = c.feed.ensures.ends in
    subst (λ e. EventStands (g.B.Blocks.blocks.stored c.args.self.now.blocks) c.args.self.now.sessions c.feed.new.self.sessions c.args.lane e
    (looked_in g.B.Blocks.blocks c.args.self.now.blocks c.feed.new.self.blocks) (into g.S.Sink.sink c.args.out.now c.feed.new.out) c.feed.result)
    (sym c.in-Piece.is)
    (lanes_fed
    (record {
      go_on = c.sessions_go_on.ensures.go_on;
      stay_closed = c.sessions_go_on.ensures.closed;
      limit_all = c.sessions_refuse.ensures.limit_all;
      broken_next = c.sessions_refuse.ensures.broken_next;
      longer = c.sessions_refuse.ensures.longer;
    })
    (g.B.Blocks.blocks.stored c.args.self.now.blocks) c.args.self.now.sessions c.feed.new.self.sessions c.args.lane c.in-Piece.piece.now
    (looked_in g.B.Blocks.blocks c.args.self.now.blocks c.feed.new.self.blocks) (into g.S.Sink.sink c.args.out.now c.feed.new.out)
    c.feed.ensures.counted p.before p.behind _ c.feed.result
    (λ same. idle_put g.S.Sink.sink g.met.S.Sink.rests c.args.out.now c.feed.new.out same.1) p.was p.sessions p.feeds)

pub returns-in-Piece-clause-lanes : goal.returns-in-Piece-clause-lanes
returns-in-Piece-clause-lanes g c =
    let p = c.feed.ensures.ends in
    ap length p.sessions ∙ length-set c.args.self.now.sessions c.args.lane p.behind
