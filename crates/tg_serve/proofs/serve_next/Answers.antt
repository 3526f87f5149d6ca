use Rattle.std.proofs.Common.{Ok, Option, subst}
use Rattle.tg_doors.specs.Doors.{IsAdmitted, at_door, given_link}
use Rattle.tg_model.specs.Stores.{looked_in}
use Rattle.tg_serve.proofs.OneLink.{link_served}
use Rattle.tg_serve.proofs.serve_next.Goals as goal

pub returns-clause-serves : goal.returns-clause-serves
returns-clause-serves g c =
    let admitted = subst (λ (given : Option _). IsAdmitted (at_door g.L.Door.door c.args.door.now c.admit.new.self) (given_link g.L.Link.Link.link g.L.Link.Source.source (Ok given)))
    c.in-Some.is c.in_ok-link.ensures.admitted in
    link_served g.L.Door.door g.L.Link.Link.link g.L.Link.Source.source c.args.door.now c.admit.new.self c.done.new.self c.in-Some.link c.serve_link-ran.new.link
    (g.B.Blocks.blocks.stored c.args.blocks.now) c.args.limits.received (looked_in g.B.Blocks.blocks c.args.blocks.now c.serve_link-ran.new.blocks)
    c.serve_link-ran.result.0 c.serve_link-ran.result.1 admitted c.in_ok-link.ensures.served c.in_ok-link.ensures.port
    c.serve_link-ran.ensures.ends c.serve_link-ran.ensures.counted c.done.ensures.done c.done.ensures.coming c.done.ensures.port
