-- the count and the total so far, and those of what is left; the total stands still at 2 ^ 128 - 1
use Rattle.std.proofs.Common.{◌≡◌, ◌≤◌, ◌+◌, ◌-◌, ◌^◌, length, min, sum}
use Rattle.tg_model.proofs.Ahead.{SizesLeft}
use Rattle.tg_model.specs.PlacedSteps.{text_sizes}
use Rattle.tg_model.proofs.placed.sizes_of.Given as goal

abbrev pub invariant-loop-size : goal.invariant-loop-size
invariant-loop-size l = record {
  left : SizesLeft l.text l.at (λ sizes. (length (text_sizes l.text) ≡ l.count + length sizes)
      × (min (l.inline + sum (text_sizes l.text)) (2 ^ 128 - 1) ≡ min (l.total + sum sizes) (2 ^ 128 - 1)));
  count : l.count ≤ l.at;
  total : l.total ≤ 2 ^ 128 - 1;
}

abbrev pub decreases-loop-size : goal.decreases-loop-size
decreases-loop-size l = length l.text - l.at
