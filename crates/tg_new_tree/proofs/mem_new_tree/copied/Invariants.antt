use Rattle.std.proofs.Common.{◌≡◌, take}
use Rattle.tg_new_tree.proofs.mem_new_tree.copied.Given as goal

abbrev pub invariant-loop-name : goal.invariant-loop-name
invariant-loop-name l = l.copy ≡ take l.name-index l.path
