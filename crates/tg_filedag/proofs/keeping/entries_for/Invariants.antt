use Rattle.std.proofs.Common.{◌≡◌, take}
use Rattle.std.specs.Prelude.{map}
use Rattle.tg_filedag.proofs.keeping.entries_for.Given as goal
use Rattle.tg_filedag.specs.Trees.{entry_for}

abbrev pub invariant-loop-link : goal.invariant-loop-link
invariant-loop-link l = l.entries.items ≡ map entry_for (take l.link-index l.links)
