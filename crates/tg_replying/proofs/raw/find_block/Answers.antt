use Rattle.std.proofs.Common.{Err, sym, subst}
use Rattle.tg_model.specs.Stores.{looked_in}
use Rattle.tg_reply_writing.specs.declared.asking.AskFault.{AskFault}
use Rattle.tg_replying.proofs.SendingBlocks.{fault_over}
use Rattle.tg_replying.specs.Replying.{FindsOr}
use Rattle.tg_replying.proofs.raw.find_block.Goals as goal

pub returns-in-Ok-clause-finds : goal.returns-in-Ok-clause-finds
returns-in-Ok-clause-finds g c =
    let e = c.in-Ok.ensures in
    (record { block = e.found; identity = e.identity }, e.looked.quiet)

pub returns-in-Err-clause-finds : goal.returns-in-Err-clause-finds
returns-in-Err-clause-finds g c =
    let told = g.B.Blocks.blocks.stored c.args.blocks.now in
    let lookups = looked_in g.B.Blocks.blocks c.args.blocks.now c.fetch.new.blocks in
    let e = c.in-Err.ensures in
    subst (λ (fault : AskFault). FindsOr c.args.cid.now told lookups (Err fault)) (sym c.ask_fault_of_store.ensures)
    (fault_over told c.args.cid.now lookups c.in-Err.fault e.cause e.no_memory)
