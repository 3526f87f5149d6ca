use Rattle.tg_node_writing.proofs.LinkedNodes.{links_of_nodes}
use Rattle.tg_node_writing.proofs.laws.linked_nodes.Goals as goal

pub returns : goal.returns
returns c = links_of_nodes c.one_text.ensures.one_node c.one_spelling.ensures
