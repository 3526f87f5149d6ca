use Rattle.tg_lanes.proofs.Calling.{both_fed}
use Rattle.tg_streams.specs.Streams.{into}
use Rattle.tg_lanes.proofs.callers.two_events.Goals as goal

pub returns : goal.returns
returns g c =
    both_fed g.B.Blocks.blocks c.args.lanes.now c.event-one.new.self c.event-two.new.self c.args.first.now c.args.second.now _ _
    (into g.S.Sink.sink c.args.out.now c.event-one.new.out) (into g.T.Sink.sink c.args.other.now c.event-two.new.out) c.event-one.result c.event-two.result
    c.lanes_begin.ensures c.lanes_are_apart.ensures.writes c.lanes_are_apart.ensures.breaks c.requires
    c.event-one.ensures.ends c.event-one.ensures.stands c.event-one.ensures.looked.looked.stored
    c.event-two.ensures.ends c.event-two.ensures.stands
