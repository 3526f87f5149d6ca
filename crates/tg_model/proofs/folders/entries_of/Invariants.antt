-- the entries so far, and those of what is left
use Rattle.std.proofs.Common.{◌≡◌, ◌++◌, ◌-◌, length}
use Rattle.tg_model.proofs.Ahead.{CidsLeft}
use Rattle.tg_model.specs.PlacedSteps.{block_cids, block_links}
use Rattle.tg_model.specs.Reading.{entries_of}
use Rattle.tg_model.proofs.folders.entries_of.Given as goal

abbrev pub invariant-loop-link : goal.invariant-loop-link
invariant-loop-link l = CidsLeft l.block l.at (λ links cids. entries_of (block_links l.block) (block_cids l.block) ≡ l.entries ++ entries_of links cids)

abbrev pub decreases-loop-link : goal.decreases-loop-link
decreases-loop-link l = length l.block - l.at
