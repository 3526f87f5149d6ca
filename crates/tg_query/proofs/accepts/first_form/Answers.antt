use Rattle.std.proofs.Common.{ap, sym, ◌∙◌}
use Rattle.tg_query.specs.Cuts.{cut_at}
use Rattle.tg_query.specs.Accepts.{first_form}
use Rattle.tg_query.proofs.Firsts.{form_here, form_passed}
use Rattle.tg_query.proofs.accepts.first_form.Goals as goal

pub returns-in-Some : goal.returns-in-Some
returns-in-Some c =
    let value = c.value-item.result in
    let found = sym c.form_in.ensures ∙ c.in-Some.is in
    let own = ap (λ v. first_form (cut_at 44 v)) (sym c.as_slice.ensures) in
    sym (c.loop-value.invariant ∙ form_here c.args.values.now c.loop-value.value-index value c.in-Some.form c.loop-value-test.true c.value-item.is (own ∙ found))

pub loop-value-preserved : goal.loop-value-preserved
loop-value-preserved c =
    let value = c.value-item.result in
    let none = sym c.form_in.ensures ∙ c.in_default.is in
    let own = ap (λ v. first_form (cut_at 44 v)) (sym c.as_slice.ensures) in
    c.loop-value.invariant ∙ form_passed c.args.values.now c.loop-value.value-index value c.loop-value-test.true c.value-item.is (own ∙ none)
