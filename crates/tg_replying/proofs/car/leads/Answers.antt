use Rattle.tg_model.specs.Stores.{looked_in}
use Rattle.tg_replying.proofs.Leading.{bad_over, gone_over}
use Rattle.tg_replying.proofs.car.leads.Goals as goal

pub returns-in-Err-Gone-clause-leads : goal.returns-in-Err-Gone-clause-leads
returns-in-Err-Gone-clause-leads g c =
    let e = c.in-Err-Gone.ensures in
    gone_over (g.B.Blocks.blocks.stored c.args.blocks.now)
    (looked_in g.B.Blocks.blocks c.args.blocks.now c.resolve.new.blocks) c.args.query.now c.root.result
    c.path.result.now c.in-Err-Gone.field-0 c.in-Err-Gone.field-0-0
    c.root.ensures c.path.ensures.path c.in-Err-Gone.field-0-is
    (record { end = e.end; shape = e.shape; cause = e.cause })

pub returns-in-Err-BadBlock-clause-leads : goal.returns-in-Err-BadBlock-clause-leads
returns-in-Err-BadBlock-clause-leads g c =
    let e = c.in-Err-BadBlock.ensures in
    bad_over (g.B.Blocks.blocks.stored c.args.blocks.now)
    (looked_in g.B.Blocks.blocks c.args.blocks.now c.resolve.new.blocks) c.args.query.now c.root.result
    c.path.result.now c.in-Err-BadBlock.field-0 c.in-Err-BadBlock.field-0-0 c.in-Err-BadBlock.field-0-1
    c.root.ensures c.path.ensures.path c.in-Err-BadBlock.field-0-is
    (record { end = e.end; shape = e.shape; cause = e.cause })
