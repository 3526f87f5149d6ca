-- the CIDs so far, and those of what is left
use Rattle.std.proofs.Common.{◌≡◌, ◌≤◌, ◌+◌, ◌-◌, ◌++◌, List, length, Ok}
use Rattle.tg_cid.specs.Cid.{CidParts}
use Rattle.tg_model.proofs.Ahead.{LinksLeft}
use Rattle.tg_model.specs.Computed.{◌>>=◌, cids_from}
use Rattle.tg_model.specs.PlacedSteps.{block_links}
use Rattle.tg_model.specs.Reading.{AreCids}
use Rattle.tg_model.proofs.links.count_links.Given as goal

abbrev pub invariant-loop-link : goal.invariant-loop-link
invariant-loop-link l = record {
  left : LinksLeft l.block l.at (λ links. (length (block_links l.block) ≡ l.count + length links)
      × ((front : List CidParts) × (cids_from 0 (block_links l.block) ≡ (cids_from l.count links >>= λ cids. Ok (front ++ cids)))
      × ((cids : List CidParts) → AreCids links cids → AreCids (block_links l.block) (front ++ cids))));
  count : l.count ≤ l.at;
}

abbrev pub decreases-loop-link : goal.decreases-loop-link
decreases-loop-link l = length l.block - l.at
