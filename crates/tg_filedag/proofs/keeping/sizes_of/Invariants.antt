use Rattle.std.proofs.Common.{◌≡◌, take}
use Rattle.std.specs.Prelude.{map}
use Rattle.tg_filedag.proofs.keeping.sizes_of.Given as goal
use Rattle.tg_filedag.specs.Trees.{content_in}

abbrev pub invariant-loop-link : goal.invariant-loop-link
invariant-loop-link l = l.sizes.items ≡ map content_in (take l.link-index l.links)
