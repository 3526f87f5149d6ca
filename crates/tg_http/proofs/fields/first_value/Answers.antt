use Rattle.std.proofs.Common.{◌∙◌}
use Rattle.tg_http.proofs.Values.{values_none, first_found}
use Rattle.tg_http.proofs.fields.first_value.Goals as goal

pub returns-in-Some : goal.returns-in-Some
returns-in-Some c =
    first_found c.args.name.now c.args.text.now c.args.fields.now c.loop-field.field-index _ c.loop-field-test.true c.in-Some.value.now c.loop-field.invariant
    c.in-Some.ensures

pub loop-field-preserved : goal.loop-field-preserved
loop-field-preserved c =
    values_none c.args.name.now c.args.text.now c.args.fields.now c.loop-field.field-index _ c.loop-field-test.true c.in_default.ensures ∙ c.loop-field.invariant
