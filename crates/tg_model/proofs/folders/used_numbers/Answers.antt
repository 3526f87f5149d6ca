use Rattle.std.proofs.Common.{arith, ◌≡◌, ℕ, Bool, ◌+◌, ◌*◌, ◌^◌, ◌/◌, ◌%◌, ◌==◌, ◌++◌, ◌∷◌, [], refl, ap, sym, ◌∙◌}
use Rattle.tg_model.specs.Reading.{big_endian}
use Rattle.tg_model.proofs.BitLemmas.{filtered_yes, filtered_no}
use Rattle.tg_model.proofs.folders.used_numbers.Goals as goal
use Rattle.tg_model.proofs.folders.used_numbers.Goals.{then-is_used+in_ok-push, else-is_used}

pub loop-number-preserved : goal.loop-number-preserved
loop-number-preserved c =
    let is_set : ℕ → Bool = λ i. (big_endian c.args.bits.now / 2 ^ i) % 2 == 1 in
    let n : ℕ = c.loop-number.number in
    let place : n ≡ 8 * (n / 8) + n % 8 = omega arith in
    let found = ap is_set place ∙ sym c.is_used.ensures in
    elim c.if-is_used.branch [
      | then-is_used+in_ok-push w ↦ ap (λ v. v.items) w.used-is ∙ w.in_ok-push.ensures.items ∙ ap (λ l. l ++ n ∷ []) c.loop-number.invariant ∙ sym (filtered_yes is_set n (n + 1) refl (found ∙ w.if-is_used.true))
      | else-is_used w ↦ ap (λ v. v.items) w.used-is ∙ c.loop-number.invariant ∙ sym (filtered_no is_set n (n + 1) refl (found ∙ w.if-is_used.false))
    ]
