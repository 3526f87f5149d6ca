use Rattle.tg_node_writing.proofs.NodeLinks.{file_reads}
use Rattle.tg_node_writing.proofs.laws.file_nodes.Goals as goal

pub returns : goal.returns
returns c = λ entries total sizes block cid h many fits dag. file_reads entries total sizes block cid h many fits dag
