use Rattle.std.proofs.Common.{length, ap, arith}
use Rattle.std.proofs.lemmas.Result.{IfOk-weaker}
use Rattle.std.specs.List.{sum_by}
use Rattle.tg_cid.specs.declared.cid.Codec.TheVariants.{DagPb}
use Rattle.tg_filedag.proofs.Calls.{node_kept}
use Rattle.tg_node_writing.specs.KeepingSteps.{keeps_as, same_stops}
use Rattle.tg_filedag.proofs.Rooms.{block_small}
use Rattle.tg_filedag.proofs.keeping.keep_node.Goals as goal
use Rattle.tg_filedag.specs.Trees.{content_in, tsize_in}
use Rattle.tg_model.specs.Stores.{kept_in}

pub keep_block-requires-clause-small : goal.keep_block-requires-clause-small
keep_block-requires-clause-small g c =
    let small = block_small c.written_nodes.ensures.room c.args.links.now c.in-Ok.block c.requires.few c.requires.plain c.in-Ok.ensures in
    let same = ap length c.as_slice.ensures in
    omega arith

pub returns-clause-made : goal.returns-clause-made
returns-clause-made g c =
    let links = c.args.links.now in
    let block = c.in-Ok.block in
    let small = block_small c.written_nodes.ensures.room links block c.requires.few c.requires.plain c.in-Ok.ensures in
    let keeping = kept_in g.K.Keep.keeper c.args.keep.now c.keep_block.new.keep in
    IfOk-weaker c.keep_block.result _ _
    (λ made h. node_kept links block made keeping c.in-Ok.ensures small
    (keeps_as DagPb made keeping c.as_slice.result.now block c.totals-content.result.0 (sum_by content_in links) c.totals-content.result.1 (sum_by tsize_in links)
    c.as_slice.ensures c.totals-content.ensures.content c.totals-content.ensures.tsize h))
    c.keep_block.ensures.made

pub returns-in_default-clause-stops : goal.returns-in_default-clause-stops
returns-in_default-clause-stops g c = same_stops g.K.Keep.keeper g.met.K.Keep.rests c.args.keep.now
