use Rattle.std.proofs.Common.{take, All}
use Rattle.std.specs.List.{IsDistinct}
use Rattle.std.specs.Map.{keys_of}
use Rattle.std.specs.Str.{bytes_eq}
use Rattle.tg_tree.specs.Tree.{NamesDiffer}
use Rattle.tg_tree.proofs.tree.Tree.+names_differ.Given as goal

-- the names of the entries that were passed differ, and so do those below each of them
abbrev pub invariant-loop-i : goal.invariant-loop-i
invariant-loop-i l = record {
  here : IsDistinct bytes_eq (keys_of (take l.i l.entries));
  below : All (λ e. NamesDiffer e.1) (take l.i l.entries);
}
