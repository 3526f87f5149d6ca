use Rattle.std.proofs.Common.{◌≡◌, ◌+◌, ◌-◌, ◌^◌, suc, List, ℕ, [], ◌∷◌, ◌++◌, length, min, sum, sym, ap, ◌∙◌, arith}
use Rattle.std.proofs.lemmas.List.Sums.{sum_by-cons}
use Rattle.tg_model.proofs.PlacedAnswers.{below_top, saturated_more, saturated_all}
use Rattle.tg_model.proofs.placed.sizes_of.Goals as goal

pub loop-size-preserved : goal.loop-size-preserved
loop-size-preserved c =
    let left = c.loop-size.invariant.left in
    let next = c.in-Some.ensures.next left.ahead.behind left.sizes left.ahead.between in
    let longer : length left.sizes ≡ suc (length next.0) = ap (λ (sizes : List ℕ). length sizes) next.1 in
    record {
      left = record {
        sizes = next.0;
        ahead = record { behind = left.ahead.behind ++ c.in-Some.size ∷ []; between = next.2 };
        so_far = (
          omega arith,
          left.so_far.1 ∙ ap (λ (sizes : List ℕ). min (c.loop-size.total + sum sizes) (2 ^ 128 - 1)) next.1
              ∙ ap (λ (n : ℕ). min (c.loop-size.total + n) (2 ^ 128 - 1)) (sum_by-cons (λ (n : ℕ). n) c.in-Some.size next.0)
              ∙ sym (saturated_more (2 ^ 128 - 1) c.loop-size.total c.in-Some.size (sum next.0))
              ∙ ap (λ (n : ℕ). min (min (c.loop-size.total + n) (2 ^ 128 - 1) + sum next.0) (2 ^ 128 - 1)) (sym c.from.ensures)
              ∙ ap (λ (n : ℕ). min (n + sum next.0) (2 ^ 128 - 1)) (sym c.saturating_add-total.ensures),
        );
      };
      count = omega (arith, c.in-Some.ensures.forward.0);
      total = below_top (2 ^ 128) c.saturating_add-total.result c.saturating_add-total.type_inv;
    }

pub returns-clause-count : goal.returns-clause-count
returns-clause-count c =
    let left = c.loop-size.invariant.left in
    let none = c.in_default.ensures.next left.ahead.behind left.sizes left.ahead.between in
    let empty : length left.sizes ≡ 0 = ap (λ (sizes : List ℕ). length sizes) none in
    omega arith

pub returns-clause-total : goal.returns-clause-total
returns-clause-total c =
    let left = c.loop-size.invariant.left in
    let none = c.in_default.ensures.next left.ahead.behind left.sizes left.ahead.between in
    sym (left.so_far.1 ∙ saturated_all (2 ^ 128 - 1) c.loop-size.total (sum left.sizes) (ap (λ (sizes : List ℕ). sum sizes) none) c.loop-size.invariant.total)
