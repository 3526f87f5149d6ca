-- the names so far are seen, and the search goes on in the links that are left
use Rattle.std.proofs.Common.{◌≤◌, ◌-◌, length}
use Rattle.tg_model.proofs.Ahead.{LinksLeft}
use Rattle.tg_model.proofs.NameLemmas.{Seen}
use Rattle.tg_model.specs.PlacedSteps.{block_links}
use Rattle.tg_model.proofs.folders.doubled_name.Given as goal

abbrev pub invariant-loop-link : goal.invariant-loop-link
invariant-loop-link l = record {
  left : LinksLeft l.block l.at (λ links. Seen (block_links l.block) links l.index l.seen);
  count : l.index ≤ l.at;
}

abbrev pub decreases-loop-link : goal.decreases-loop-link
decreases-loop-link l = length l.block - l.at
