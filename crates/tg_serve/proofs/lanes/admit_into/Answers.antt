use Rattle.std.proofs.Common.{◌<◌, ◌≡◌, None, Ok, Option, Some, ap, arith, refl, subst, sym, ◌-◌, ◌∙◌}
use Rattle.tg_doors.specs.Doors.{IsAdmitted, at_door, given_link}
use Rattle.tg_gateway.specs.declared.fault.GatewayFault.TheVariants as faults
use Rattle.std.proofs.lemmas.Option.{slice_get_within}
use Rattle.std.specs.Prelude.{Err}
use Rattle.tg_lanes.specs.OwnLaws.{get_some}
use Rattle.tg_serve.proofs.Turning.{comes, comes_back, gone_to, none_is, none_was}
use Rattle.tg_serve.specs.Serving.{happened_with}
use Rattle.tg_lanes.specs.Lanes.{LanesView}
use Rattle.tg_serve.specs.Turns.{LanesGo, weight}
use Rattle.tg_serve.proofs.lanes.admit_into.Goals as goal

pub returns-in-Ok-clause-goes : goal.returns-in-Ok-clause-goes
returns-in-Ok-clause-goes g c first count before go =
    let admitted = subst (λ (given : Option _). IsAdmitted (at_door g.L.Door.door c.args.door.now c.admit.new.self)
    (given_link g.L.Link.Link.link g.L.Link.Source.source (Ok given))) c.in-Ok-Some.field-0-is c.in-Ok-Some.ensures.admitted in
    let there = get_some c.args.lanes.now.sessions c.args.lane (let many = c.requires.lanes.as_many in let in_it = slice_get_within c.args.turns.now.links.items c.args.lane None c.requires.free in omega (arith, many, in_it)) in
    gone_to g.L.Door.door g.L.Link.Link.link g.L.Link.Source.source (g.B.Blocks.blocks.stored c.args.lanes.now.blocks) c.args.lanes.now.most count before first c.admit.new.self
    (g.B.Blocks.blocks.faults c.args.lanes.now.blocks) (g.B.Blocks.blocks.faults c.renew.new.self.blocks)
    (weight c.args.lanes.now.most c.args.turns.now.left c.args.lanes.now.sessions c.args.turns.now.links.items) c.renew.new.self.sessions _ _ _ _ _ _
    (ap (λ v. g.B.Blocks.blocks.faults v.blocks) c.in-Ok.ensures.renewed) c.put_link.ensures.links (ap (λ t. t.left) c.put_link.ensures.others)
    (ap (λ t. t.happened) c.put_link.ensures.others)
    (comes g.L.Door.door g.L.Link.Link.link g.L.Link.Source.source (g.B.Blocks.blocks.stored c.args.lanes.now.blocks) c.args.lanes.now.most count before first
    c.args.door.now c.admit.new.self c.args.lanes.now.sessions c.args.lane (g.B.Blocks.blocks.faults c.args.lanes.now.blocks)
    c.args.turns.now.left c.args.turns.now.links.items c.args.turns.now.happened go c.requires.left c.requires.free
    c.in-Ok-Some.link admitted c.in-Ok-Some.ensures.served c.in-Ok-Some.ensures.port c.renew.new.self.sessions (ap (λ v. v.sessions) c.in-Ok.ensures.renewed) there.0 there.1
    (c.in-Ok.ensures.stands (g.B.Blocks.blocks.stored c.args.lanes.now.blocks) before (g.B.Blocks.blocks.faults c.args.lanes.now.blocks) go.moves go.stand)
    (c.args.turns.now.left - 1) (let some = c.requires.left in omega (arith, some)))

pub returns-in-Err-clause-goes : goal.returns-in-Err-clause-goes
returns-in-Err-clause-goes g c first count before go =
    none_was g.L.Door.door g.L.Link.Link.link g.L.Link.Source.source (g.B.Blocks.blocks.stored c.args.lanes.now.blocks) c.args.lanes.now.most count before first
    c.args.door.now c.admit.new.self c.args.lanes.now.sessions c.args.lane (g.B.Blocks.blocks.faults c.args.lanes.now.blocks)
    c.args.turns.now.left c.args.turns.now.links.items c.args.turns.now.happened go c.requires.left c.requires.free
    c.in-Err.field-0 c.in-Err.ensures.admitted c.in-Err.ensures.served c.in-Err.ensures.port c.in-Err.ensures.counted

pub returns-in-Ok-None-clause-goes : goal.returns-in-Ok-None-clause-goes
returns-in-Ok-None-clause-goes g c first count before go =
    let admitted = subst (λ (given : Option _). IsAdmitted (at_door g.L.Door.door c.args.door.now c.admit.new.self)
    (given_link g.L.Link.Link.link g.L.Link.Source.source (Ok given))) c.in-Ok-None.field-0-is c.in-Ok-None.ensures.admitted in
    none_is g.L.Door.door g.L.Link.Link.link g.L.Link.Source.source (g.B.Blocks.blocks.stored c.args.lanes.now.blocks) c.args.lanes.now.most count before first
    c.args.door.now c.admit.new.self c.args.lanes.now.sessions c.args.lane (g.B.Blocks.blocks.faults c.args.lanes.now.blocks)
    c.args.turns.now.left c.args.turns.now.links.items c.args.turns.now.happened go c.requires.left c.requires.free
    admitted c.in-Ok-None.ensures.served c.in-Ok-None.ensures.port

pub returns-in-Err-renew-clause-goes : goal.returns-in-Err-renew-clause-goes
returns-in-Err-renew-clause-goes g c first count before go =
    let admitted = subst (λ (given : Option _). IsAdmitted (at_door g.L.Door.door c.args.door.now c.admit.new.self)
    (given_link g.L.Link.Link.link g.L.Link.Source.source (Ok given))) c.in-Ok-Some.field-0-is c.in-Ok-Some.ensures.admitted in
    let some = c.requires.left in
    let with_none : c.with-turns.result ≡ happened_with c.args.turns.now.happened (record { requests = 0; broken = 0; store = 0 }) (Err faults.OutOfMemory) =
    c.with-turns.ensures ∙ ap (λ s. happened_with c.args.turns.now.happened s (Err faults.OutOfMemory)) c.none.ensures in
    let P : LanesView g.row.B.Denot → Type 0 = λ v.
    LanesGo g.L.Link.Link.link g.L.Link.Source.source (g.B.Blocks.blocks.stored c.args.lanes.now.blocks) c.args.lanes.now.most count before
    (g.B.Blocks.blocks.faults v.blocks) v.sessions c.args.turns.now.links.items (c.args.turns.now.left - 1) (at_door g.L.Door.door first c.done.new.self) c.with-turns.result
    × (weight c.args.lanes.now.most (c.args.turns.now.left - 1) v.sessions c.args.turns.now.links.items
    < weight c.args.lanes.now.most c.args.turns.now.left c.args.lanes.now.sessions c.args.turns.now.links.items) in
    subst P (sym c.in-Err-renew.ensures.refused)
    (gone_to g.L.Door.door g.L.Link.Link.link g.L.Link.Source.source (g.B.Blocks.blocks.stored c.args.lanes.now.blocks) c.args.lanes.now.most count before first c.done.new.self
    (g.B.Blocks.blocks.faults c.args.lanes.now.blocks) (g.B.Blocks.blocks.faults c.args.lanes.now.blocks)
    (weight c.args.lanes.now.most c.args.turns.now.left c.args.lanes.now.sessions c.args.turns.now.links.items) c.args.lanes.now.sessions
    c.args.turns.now.links.items c.args.turns.now.links.items (c.args.turns.now.left - 1) (c.args.turns.now.left - 1)
    (happened_with c.args.turns.now.happened (record { requests = 0; broken = 0; store = 0 }) (Err faults.OutOfMemory)) c.with-turns.result refl refl refl with_none
    (comes_back g.L.Door.door g.L.Link.Link.link g.L.Link.Source.source (g.B.Blocks.blocks.stored c.args.lanes.now.blocks) c.args.lanes.now.most count before first
    c.args.door.now c.admit.new.self c.args.lanes.now.sessions c.args.lane (g.B.Blocks.blocks.faults c.args.lanes.now.blocks)
    c.args.turns.now.left c.args.turns.now.links.items c.args.turns.now.happened go c.requires.left c.requires.free
    c.done.new.self c.in-Ok-Some.link admitted c.in-Ok-Some.ensures.served c.in-Ok-Some.ensures.port c.done.ensures.done c.done.ensures.coming c.done.ensures.port c.done.ensures.shut
    (c.args.turns.now.left - 1) (omega (arith, some))))
