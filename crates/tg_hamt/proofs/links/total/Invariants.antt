use Rattle.std.proofs.Common.{◌≡◌, take}
use Rattle.std.specs.List.{sum_by}
use Rattle.tg_hamt.proofs.links.total.Given as goal
use Rattle.tg_hamt.specs.Links.{tsize_in}

abbrev pub invariant-loop-link : goal.invariant-loop-link
invariant-loop-link l = l.tsizes ≡ sum_by tsize_in (take l.link-index l.links)
