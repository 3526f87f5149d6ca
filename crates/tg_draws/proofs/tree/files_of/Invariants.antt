use Rattle.std.proofs.Common.{◌≡◌, ◌+◌, ◌++◌, List, length, ℕ}
use Rattle.std.specs.Vec.Iter.{into_iter_items, into_iter_len}
use Rattle.tg_draws.specs.Trees.{AreFilesFrom}
use Rattle.tg_tree.specs.declared.tree.Tree.{Tree}
use Rattle.tg_draws.proofs.tree.files_of.Given as goal

-- what is held, with entries of the files that are left behind it, are entries of all
abbrev pub invariant-loop-bytes : goal.invariant-loop-bytes
invariant-loop-bytes l = (goal.iterator-loop-bytes).can_next l.bytes-iterator
    × (goal.iterator-loop-bytes).is_finite l.bytes-iterator
    × (into_iter_len l.bytes-iterator ≡ length (into_iter_items l.bytes-iterator))
    × (length l.entries.items + length (into_iter_items l.bytes-iterator) ≡ length l.fn.many)
    × ((others : List (List ℕ × Tree)) → AreFilesFrom (length l.entries.items) (into_iter_items l.bytes-iterator) others
    → AreFilesFrom 0 l.fn.many (l.entries.items ++ others))
