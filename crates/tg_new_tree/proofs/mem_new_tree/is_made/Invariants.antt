use Rattle.std.proofs.Common.{Contains, take}
use Rattle.tg_new_tree.specs.NewTrees.{paths_made}
use Rattle.tg_new_tree.proofs.mem_new_tree.is_made.Given as goal

-- nothing that was passed was made at the path
abbrev pub invariant-loop-one : goal.invariant-loop-one
invariant-loop-one l = Contains (paths_made (take l.one-index l.made)) l.path → ⊥
