-- the search goes on in the links that are left
use Rattle.std.proofs.Common.{◌≡◌, ◌≤◌, ◌-◌, length}
use Rattle.tg_model.proofs.Ahead.{LinksLeft}
use Rattle.tg_model.specs.Computed.{first_from, has_bad_suffix}
use Rattle.tg_model.specs.PlacedSteps.{block_links}
use Rattle.tg_model.proofs.folders.bad_suffix.Given as goal

abbrev pub invariant-loop-link : goal.invariant-loop-link
invariant-loop-link l = record {
  left : LinksLeft l.block l.at (λ links. first_from has_bad_suffix 0 (block_links l.block) ≡ first_from has_bad_suffix l.index links);
  count : l.index ≤ l.at;
}

abbrev pub decreases-loop-link : goal.decreases-loop-link
decreases-loop-link l = length l.block - l.at
