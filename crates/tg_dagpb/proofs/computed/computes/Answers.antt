use Rattle.tg_dagpb.proofs.ComputedNode.{node_law, node_fault_law}
use Rattle.tg_dagpb.proofs.computed.computes.Goals as goal

pub returns-clause-node : goal.returns-clause-node
returns-clause-node c = node_law c.table_laws.ensures

pub returns-clause-fault : goal.returns-clause-fault
returns-clause-fault c = node_fault_law c.table_laws.ensures
