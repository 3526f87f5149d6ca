use Rattle.std.proofs.Common.{◌≡◌, take}
use Rattle.std.specs.List.{sum_by}
use Rattle.tg_filedag.proofs.keeping.totals.Given as goal
use Rattle.tg_filedag.specs.Trees.{content_in, tsize_in}

abbrev pub invariant-loop-link : goal.invariant-loop-link
invariant-loop-link l = (l.content ≡ sum_by content_in (take l.link-index l.links)) × (l.tsizes ≡ sum_by tsize_in (take l.link-index l.links))
