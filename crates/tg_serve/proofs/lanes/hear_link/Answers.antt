use Rattle.std.proofs.Common.{None, Ok, Some, ap, arith, refl, set-set, sym, ◌∙◌}
use Rattle.std.specs.Prelude.{slice_set}
use Rattle.tg_lanes.specs.OwnLaws.{get_some}
use Rattle.tg_serve.proofs.LaneRuns.{end_of}
use Rattle.tg_serve.proofs.Turning.{close_not_more, fault_not_more, goes_back, goes_on, gone_to, happens_by}
use Rattle.tg_serve.specs.Turns.{weight}
use Rattle.tg_serve.proofs.lanes.hear_link.Goals as goal

pub returns-in-Ok-More-clause-goes : goal.returns-in-Ok-More-clause-goes
returns-in-Ok-More-clause-goes g c first count before go =
    let many = c.requires.lanes.as_many in
    let in_it = c.requires.lane in
    let was = get_some c.args.lanes.now.sessions c.args.lane (omega (arith, many, in_it)) in
    let here = c.take_link.ensures.taken ∙ ap Some c.in-Some.is in
    gone_to g.L.Door.door g.L.Link.Link.link g.L.Link.Source.source (g.B.Blocks.blocks.stored c.args.lanes.now.blocks) c.args.lanes.now.most count before first
    c.args.door.now (g.B.Blocks.blocks.faults c.hear.new.lanes.blocks) (g.B.Blocks.blocks.faults c.hear.new.lanes.blocks)
    (weight c.args.lanes.now.most c.args.turns.now.left c.args.lanes.now.sessions c.args.turns.now.links.items) c.hear.new.lanes.sessions _ _ _ _ _ _ refl
    (c.put_link.ensures.links ∙ ap (λ l. slice_set l c.args.lane (Some c.hear.new.link)) c.take_link.ensures.links
    ∙ set-set c.args.turns.now.links.items c.args.lane None (Some c.hear.new.link))
    (ap (λ t. t.left) c.put_link.ensures.others ∙ ap (λ t. t.left) c.take_link.ensures.others)
    (ap (λ t. t.happened) c.put_link.ensures.others ∙ ap (λ t. t.happened) c.take_link.ensures.others)
    (goes_on g.L.Door.door g.L.Link.Link.link g.L.Link.Source.source (g.B.Blocks.blocks.stored c.args.lanes.now.blocks) c.args.lanes.now.most count before first
    c.args.door.now c.args.lanes.now c.hear.new.lanes c.args.lane (g.B.Blocks.blocks.faults c.args.lanes.now.blocks) (g.B.Blocks.blocks.faults c.hear.new.lanes.blocks)
    c.args.turns.now.left c.args.turns.now.links.items c.args.turns.now.happened was.0 c.in-Some.link c.hear.new.link c.hear.ensures.counted go was.1 here
    c.hear.result (c.in-Ok-More.is ∙ ap Ok c.in-Ok-More.field-0-is) c.hear.ensures.heard)

pub returns-in-Ok-Close-clause-goes : goal.returns-in-Ok-Close-clause-goes
returns-in-Ok-Close-clause-goes g c first count before go =
    let many = c.requires.lanes.as_many in
    let in_it = c.requires.lane in
    let was = get_some c.args.lanes.now.sessions c.args.lane (omega (arith, many, in_it)) in
    let here = c.take_link.ensures.taken ∙ ap Some c.in-Some.is in
    let back = c.give_back.ensures in
    gone_to g.L.Door.door g.L.Link.Link.link g.L.Link.Source.source (g.B.Blocks.blocks.stored c.args.lanes.now.blocks) c.args.lanes.now.most count before first
    c.give_back.new.door (g.B.Blocks.blocks.faults c.hear.new.lanes.blocks) (g.B.Blocks.blocks.faults c.hear.new.lanes.blocks)
    (weight c.args.lanes.now.most c.args.turns.now.left c.args.lanes.now.sessions c.args.turns.now.links.items) c.hear.new.lanes.sessions _ _ _ _ _ _ refl
    (ap (λ t. t.links.items) back.others ∙ c.take_link.ensures.links)
    (ap (λ t. t.left) back.others ∙ ap (λ t. t.left) c.take_link.ensures.others)
    refl
    (goes_back g.L.Door.door g.L.Link.Link.link g.L.Link.Source.source (g.B.Blocks.blocks.stored c.args.lanes.now.blocks) c.args.lanes.now.most count before first
    c.args.door.now c.args.lanes.now c.hear.new.lanes c.args.lane (g.B.Blocks.blocks.faults c.args.lanes.now.blocks) (g.B.Blocks.blocks.faults c.hear.new.lanes.blocks)
    c.args.turns.now.left c.args.turns.now.links.items c.args.turns.now.happened was.0 c.in-Some.link c.hear.new.link c.hear.ensures.counted go was.1 here
    c.sessions_go_on.ensures.sent c.give_back.new.door c.hear.result
    (close_not_more c.hear.result c.in-Ok-Close.field-0 c.in-Ok-Close.is c.in-Ok-Close.field-0-is) c.hear.ensures.heard back.done back.coming back.port back.shut
    c.give_back.new.turns.happened
    (happens_by c.hear.new.lanes.sessions c.args.lane _ c.args.turns.now.happened c.give_back.new.turns.happened _ (end_of c.hear.result)
    (ap (λ t. t.happened) c.take_link.ensures.others) (sym (ap end_of (c.in-Ok-Close.is))) back.happened))

pub returns-in-Err-clause-goes : goal.returns-in-Err-clause-goes
returns-in-Err-clause-goes g c first count before go =
    let many = c.requires.lanes.as_many in
    let in_it = c.requires.lane in
    let was = get_some c.args.lanes.now.sessions c.args.lane (omega (arith, many, in_it)) in
    let here = c.take_link.ensures.taken ∙ ap Some c.in-Some.is in
    let back = c.give_back-in-Err.ensures in
    gone_to g.L.Door.door g.L.Link.Link.link g.L.Link.Source.source (g.B.Blocks.blocks.stored c.args.lanes.now.blocks) c.args.lanes.now.most count before first
    c.give_back-in-Err.new.door (g.B.Blocks.blocks.faults c.hear.new.lanes.blocks) (g.B.Blocks.blocks.faults c.hear.new.lanes.blocks)
    (weight c.args.lanes.now.most c.args.turns.now.left c.args.lanes.now.sessions c.args.turns.now.links.items) c.hear.new.lanes.sessions _ _ _ _ _ _ refl
    (ap (λ t. t.links.items) back.others ∙ c.take_link.ensures.links)
    (ap (λ t. t.left) back.others ∙ ap (λ t. t.left) c.take_link.ensures.others)
    refl
    (goes_back g.L.Door.door g.L.Link.Link.link g.L.Link.Source.source (g.B.Blocks.blocks.stored c.args.lanes.now.blocks) c.args.lanes.now.most count before first
    c.args.door.now c.args.lanes.now c.hear.new.lanes c.args.lane (g.B.Blocks.blocks.faults c.args.lanes.now.blocks) (g.B.Blocks.blocks.faults c.hear.new.lanes.blocks)
    c.args.turns.now.left c.args.turns.now.links.items c.args.turns.now.happened was.0 c.in-Some.link c.hear.new.link c.hear.ensures.counted go was.1 here
    c.sessions_go_on.ensures.sent c.give_back-in-Err.new.door c.hear.result
    (fault_not_more c.hear.result c.in-Err.fault c.in-Err.is) c.hear.ensures.heard back.done back.coming back.port back.shut
    c.give_back-in-Err.new.turns.happened
    (happens_by c.hear.new.lanes.sessions c.args.lane _ c.args.turns.now.happened c.give_back-in-Err.new.turns.happened _ (end_of c.hear.result)
    (ap (λ t. t.happened) c.take_link.ensures.others) (sym (ap end_of (c.in-Err.is))) back.happened))
