use Rattle.std.proofs.Common.{sym, ◌∙◌}
use Rattle.tg_node.proofs.NodeLines.{exact_raw, exact_dag_pb}
use Rattle.tg_node.proofs.text.node_text.Goals as goal

pub returns-in-Raw-clause-exact : goal.returns-in-Raw-clause-exact
returns-in-Raw-clause-exact c = exact_raw c.args.cid.now c.args.block.now c.raw_text.result (sym c.codec.ensures ∙ c.in-Raw.is) c.raw_text.ensures

pub returns-in-DagPb-clause-exact : goal.returns-in-DagPb-clause-exact
returns-in-DagPb-clause-exact c = exact_dag_pb c.args.cid.now c.args.block.now c.dag_pb_text.result (sym c.codec.ensures ∙ c.in-DagPb.is) c.dag_pb_text.ensures.exact
