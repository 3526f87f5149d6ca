use Rattle.std.proofs.Common.{arith}
use Rattle.std.proofs.lemmas.Result.{IfErr-weaker, IfOk-weaker}
use Rattle.tg_dir.proofs.ByWeight.{basic_made, basic_stops, sharded_made, sharded_stops}
use Rattle.tg_dir.proofs.directory.build.Goals as goal
use Rattle.tg_model.specs.Stores.{kept_in}
use Rattle.tg_node_writing.specs.Nodes.{NodeLaws}

pub returns-then-weight-threshold-clause-made : goal.returns-then-weight-threshold-clause-made
returns-then-weight-threshold-clause-made g c =
    IfOk-weaker c.build.result _ _
    (λ made h. sharded_made c.args.threshold c.args.entries.now made (kept_in g.K.Keep.keeper c.args.keep.now c.build.new.keep) (omega (arith, c.if-weight-threshold.true, c.weight.ensures)) h)
    c.build.ensures.made

pub returns-else-weight-threshold-clause-made : goal.returns-else-weight-threshold-clause-made
returns-else-weight-threshold-clause-made g c =
    let laws : NodeLaws = record { written = c.written_nodes.ensures.written; unix_node = c.written_nodes.ensures.unix_node } in
    IfOk-weaker c.keep_basic.result _ _
    (λ made h. basic_made laws c.linked_nodes.ensures c.args.threshold c.args.entries.now made (kept_in g.K.Keep.keeper c.args.keep.now c.keep_basic.new.keep) c.requires.entries
    (omega (arith, c.if-weight-threshold.false, c.weight.ensures)) h)
    c.keep_basic.ensures.made

pub returns-then-weight-threshold-clause-stops : goal.returns-then-weight-threshold-clause-stops
returns-then-weight-threshold-clause-stops g c =
    IfErr-weaker c.build.result _ _ (λ fault h. sharded_stops c.args.entries.now fault (kept_in g.K.Keep.keeper c.args.keep.now c.build.new.keep) h) c.build.ensures.cause

pub returns-else-weight-threshold-clause-stops : goal.returns-else-weight-threshold-clause-stops
returns-else-weight-threshold-clause-stops g c =
    IfErr-weaker c.keep_basic.result _ _ (λ fault h. basic_stops c.args.entries.now fault (kept_in g.K.Keep.keeper c.args.keep.now c.keep_basic.new.keep) h) c.keep_basic.ensures.cause
