use Rattle.std.proofs.Common.{ap, option_copied, sym, ◌∙◌}
use Rattle.tg_query.specs.Cuts.{cut_at}
use Rattle.tg_query.specs.Accepts.{first_car}
use Rattle.tg_query.proofs.Firsts.{car_here, car_passed}
use Rattle.tg_query.proofs.accepts.first_car.Goals as goal

pub returns-in-Some : goal.returns-in-Some
returns-in-Some c =
    let value = c.value-item.result in
    let found = sym c.car_in.ensures ∙ ap option_copied c.in-Some.is in
    let own = ap (λ v. first_car (cut_at 44 v)) (sym c.as_slice.ensures) in
    sym (c.loop-value.invariant ∙ car_here c.args.values.now c.loop-value.value-index value c.in-Some.range.now c.loop-value-test.true c.value-item.is (own ∙ found))

pub loop-value-preserved : goal.loop-value-preserved
loop-value-preserved c =
    let value = c.value-item.result in
    let none = sym c.car_in.ensures ∙ ap option_copied c.in_default.is in
    let own = ap (λ v. first_car (cut_at 44 v)) (sym c.as_slice.ensures) in
    c.loop-value.invariant ∙ car_passed c.args.values.now c.loop-value.value-index value c.loop-value-test.true c.value-item.is (own ∙ none)
