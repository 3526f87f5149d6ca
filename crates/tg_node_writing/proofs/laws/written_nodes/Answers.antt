use Rattle.tg_node_writing.proofs.NodeLengths.{node_fits}
use Rattle.tg_node_writing.proofs.NodeLinks.{node_is, node_written}
use Rattle.tg_node_writing.proofs.laws.written_nodes.Goals as goal

pub returns : goal.returns
returns c = record {
  written = λ entries unix block children h lead. node_written entries unix block children h lead;
  unix_node = λ entries unix block h. let is = node_is entries unix block h in (h.links, is.0, is.1);
  room = λ entries unix block h sha. node_fits c.table_laws.ensures c.spelling_laws.ensures entries unix block h sha;
}
