use Rattle.tg_dagpb.proofs.Same.{one_node}
use Rattle.tg_dagpb.proofs.Orders.{one_canonical, one_data_first, node_orders}
use Rattle.tg_dagpb.proofs.Cursors.{start_between}
use Rattle.tg_dagpb.proofs.laws.one_text.Goals as goal

pub returns-clause-one_node : goal.returns-clause-one_node
returns-clause-one_node c = λ a b text p q. one_node c.table_laws.ensures text a b p q

pub returns-clause-canonical : goal.returns-clause-canonical
returns-clause-canonical c = one_canonical c.table_laws.ensures

pub returns-clause-other : goal.returns-clause-other
returns-clause-other c = one_data_first c.table_laws.ensures

pub returns-clause-orders : goal.returns-clause-orders
returns-clause-orders c = node_orders

pub returns-clause-start : goal.returns-clause-start
returns-clause-start c = λ node text p. start_between text node p
