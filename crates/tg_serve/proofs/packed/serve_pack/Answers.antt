use Rattle.std.proofs.Common.{◌≡◌}
use Rattle.tg_doors.specs.Doors.{at_door}
use Rattle.tg_serve.proofs.Attaching.{pack_asked, pack_kept, pack_served}
use Rattle.tg_serve.specs.Serving.{LinksTell}
use Rattle.tg_streams.specs.Streams.{into}
use Rattle.tg_serve.proofs.packed.serve_pack.Goals as goal

pub returns-clause-pack : goal.returns-clause-pack
returns-clause-pack g c =
    pack_kept g.P.Pack.pack c.args.pack c.serve_attached.result.0 g.met.P.Pack.joins c.attach_pack-attached.result
    c.serve_attached.result.1 c.attach_pack-attached.ensures.attached c.attach_pack-attached.ensures.refused
    c.serve_attached.ensures.pack c.serve_attached.ensures.refused

pub returns-clause-served : goal.returns-clause-served
returns-clause-served g c =
    pack_served g.P.Pack.pack c.args.pack c.serve_attached.result.0 c.args.limits.received c.args.port c.args.count c.args.lanes
    (LinksTell g.L.Link.Link.link) (into g.S.Sink.sink c.args.out.now c.serve_attached.new.out)
    (at_door g.L.Door.door c.args.door.now c.serve_attached.new.door) (c.serve_attached.new.door ≡ c.args.door.now)
    c.attach_pack-attached.result c.serve_attached.result.1
    c.attach_pack-attached.ensures.attached c.attach_pack-attached.ensures.refused
    c.serve_attached.ensures.served c.serve_attached.ensures.refused c.serve_attached.ensures.untouched

pub returns-clause-asked : goal.returns-clause-asked
returns-clause-asked g c =
    pack_asked (g.L.Door.door.asked c.args.door.now c.serve_attached.new.door c.args.port) c.serve_attached.result.0
    c.attach_pack-attached.result c.serve_attached.result.1 c.serve_attached.ensures.asked c.serve_attached.ensures.refused
