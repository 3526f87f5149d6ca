use Rattle.std.proofs.Common.{ℕ, List, take}
use Rattle.tg_unixfs.specs.Writing.{numbered, as_numbers}
use Rattle.tg_unixfs.proofs.Encoding.{PutsFields}
use Rattle.tg_unixfs.proofs.put_sizes.Given as goal

abbrev pub invariant-loop-size : goal.invariant-loop-size
invariant-loop-size l = (source : List ℕ) → PutsFields source (numbered 4 (as_numbers (take l.size-index l.sizes))) l.initial.text.items l.text.items
