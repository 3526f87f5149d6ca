use Rattle.std.proofs.Common.{take}
use Rattle.tg_node_writing.proofs.nodes.node_block.Given as goal
use Rattle.tg_node_writing.specs.Nodes.{AreLinksFor}

abbrev pub invariant-loop-entry : goal.invariant-loop-entry
invariant-loop-entry l = AreLinksFor (take l.entry-index l.entries) l.links.items
