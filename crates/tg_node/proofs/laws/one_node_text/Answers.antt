use Rattle.tg_node.proofs.NodeLines.{one_text_of}
use Rattle.tg_node.proofs.laws.one_node_text.Goals as goal

pub returns : goal.returns
returns c = one_text_of c.one_spelling.ensures.no_front c.one_spelling.ensures.one_text c.one_data.ensures c.one_text.ensures.one_node
