use Rattle.std.proofs.Common.{arith, ℕ, Bool, ◌+◌, ◌*◌, ◌^◌, ◌/◌, ◌%◌, ◌==◌, sym, ◌∙◌}
use Rattle.tg_model.specs.Reading.{big_endian}
use Rattle.tg_model.proofs.BitLemmas.{counted_yes, counted_no}
use Rattle.tg_model.proofs.folders.count_used.Goals as goal
use Rattle.tg_model.proofs.folders.count_used.Goals.{then-is_used, else-is_used}

pub loop-bit-preserved : goal.loop-bit-preserved
loop-bit-preserved c =
    let is_set : ℕ → Bool = λ i. (big_endian c.args.bits.now / 2 ^ i) % 2 == 1 in
    let n : ℕ = 8 * c.loop-index.index + c.loop-bit.bit in
    let m : ℕ = 8 * c.loop-index.index + (c.loop-bit.bit + 1) in
    elim c.if-is_used.branch [
      | then-is_used w ↦ w.count-is ∙ counted_yes is_set n m c.loop-bit.count w.saturating_add-count.result (omega arith) (sym c.is_used.ensures ∙ w.if-is_used.true) c.loop-bit.invariant w.saturating_add-count.ensures
      | else-is_used w ↦ w.count-is ∙ counted_no is_set n m c.loop-bit.count (omega arith) (sym c.is_used.ensures ∙ w.if-is_used.false) c.loop-bit.invariant
    ]
