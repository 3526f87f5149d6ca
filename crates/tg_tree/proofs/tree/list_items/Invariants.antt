use Rattle.std.proofs.Common.{◌≡◌, map, take}
use Rattle.tg_tree.specs.Tree.{item_of}
use Rattle.tg_tree.proofs.tree.list_items.Given as goal

abbrev pub invariant-loop-name : goal.invariant-loop-name
invariant-loop-name l = l.items ≡ map item_of (take l.name-index l.entries)
