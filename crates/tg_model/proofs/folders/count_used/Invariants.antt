use Rattle.std.proofs.Common.{◌≡◌, ◌+◌, ◌*◌, ◌-◌, ◌^◌, ◌/◌, ◌%◌, ◌==◌, length, min}
use Rattle.std.specs.Prelude.{filter}
use Rattle.tg_model.specs.Reading.{below, big_endian}
use Rattle.tg_model.proofs.folders.count_used.Given as goal

abbrev pub invariant-loop-index : goal.invariant-loop-index
invariant-loop-index l = l.count ≡ min (length (filter (λ i. (big_endian l.bits / 2 ^ i) % 2 == 1) (below (8 * l.index)))) (2 ^ 64 - 1)

abbrev pub invariant-loop-bit : goal.invariant-loop-bit
invariant-loop-bit l = l.count ≡ min (length (filter (λ i. (big_endian l.bits / 2 ^ i) % 2 == 1) (below (8 * l.index + l.bit)))) (2 ^ 64 - 1)
