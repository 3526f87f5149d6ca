use Rattle.std.proofs.Common.{sym, ◌∙◌}
use Rattle.std.specs.Prelude.{codes}
use Rattle.tg_http.proofs.Values.{values_none, values_some}
use Rattle.tg_http.proofs.fields.accepted.Goals as goal
use Rattle.tg_http.proofs.fields.accepted.Goals.{in-Some+in_ok-of+in_ok-push, in_default}

pub loop-field-preserved : goal.loop-field-preserved
loop-field-preserved c =
    let name = codes "accept" in
    elim c.match-value_under.branch [
      | in-Some+in_ok-of+in_ok-push w ↦
          let more = values_some name c.args.text.now c.args.fields.now c.loop-field.field-index _ c.loop-field-test.true w.in-Some.value.now w.in-Some.ensures in
          let pushed = w.in_ok-push.ensures.ok in
          let made = w.in_ok-of.ensures in
          cc
      | in_default w ↦
          w.list-is ∙ c.loop-field.invariant
          ∙ sym (values_none name c.args.text.now c.args.fields.now c.loop-field.field-index _ c.loop-field-test.true w.in_default.ensures)
    ]
