use Rattle.std.proofs.Common.{◌≡◌, ◌^◌, ◌/◌, ◌%◌, ◌==◌}
use Rattle.std.specs.Prelude.{filter}
use Rattle.tg_model.specs.Reading.{below, big_endian}
use Rattle.tg_model.proofs.folders.used_numbers.Given as goal

abbrev pub invariant-loop-number : goal.invariant-loop-number
invariant-loop-number l = l.used.items ≡ filter (λ i. (big_endian l.bits / 2 ^ i) % 2 == 1) (below l.number)
