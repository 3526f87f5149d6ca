-- the slots so far, and those of what is left
use Rattle.std.proofs.Common.{◌≡◌, ◌+◌, ◌-◌, length}
use Rattle.tg_model.proofs.Ahead.{CidsLeft}
use Rattle.tg_model.proofs.NameLemmas.{slots_behind}
use Rattle.tg_model.specs.Computed.{slots_from}
use Rattle.tg_model.specs.PlacedSteps.{block_cids, block_links}
use Rattle.tg_model.proofs.folders.slots_of.Given as goal

abbrev pub invariant-loop-link : goal.invariant-loop-link
invariant-loop-link l = CidsLeft l.block l.at (λ links cids. (length l.numbers ≡ length l.slots + length links)
    × (slots_from 0 l.numbers (block_links l.block) (block_cids l.block) ≡ slots_behind l.slots l.numbers links cids))

abbrev pub decreases-loop-link : goal.decreases-loop-link
decreases-loop-link l = length l.block - l.at
