use Rattle.std.proofs.Common.{◌≡◌, Some, drop}
use Rattle.tg_tree.specs.Tree.{tree_at}
use Rattle.tg_tree.proofs.tree.Tree.at.Given as goal

-- the names that are left lead from what was found to where the path leads
abbrev pub invariant-loop-name : goal.invariant-loop-name
invariant-loop-name l = tree_at (Some l.self) l.path ≡ tree_at (Some l.found) (drop l.name-index l.path)
