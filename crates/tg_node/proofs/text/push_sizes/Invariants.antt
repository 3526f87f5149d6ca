use Rattle.std.proofs.Common.{◌≡◌, ◌++◌, take}
use Rattle.std.specs.List.{flat_map}
use Rattle.tg_node.specs.NodeTexts.{size_line}
use Rattle.tg_node.proofs.text.push_sizes.Given as goal

-- the lines of the sizes so far were added
abbrev pub invariant-loop-size : goal.invariant-loop-size
invariant-loop-size l = l.text ≡ l.fn.text ++ flat_map size_line (take l.size-index l.sizes)
