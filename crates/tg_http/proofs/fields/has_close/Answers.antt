use Rattle.std.proofs.Common.{sym}
use Rattle.std.specs.Prelude.{codes}
use Rattle.tg_http.proofs.Values.{close_at, close_none, close_other}
use Rattle.tg_http.proofs.fields.has_close.Goals as goal
use Rattle.tg_http.proofs.fields.has_close.Goals.{in-Some+else-lists_token, in_default}

pub returns-then-lists_token : goal.returns-then-lists_token
returns-then-lists_token c =
    close_at (codes "connection") c.args.text.now c.args.fields.now c.loop-field.field-index _ c.loop-field-test.true c.in-Some.value.now
    c.in-Some.ensures (sym c.if-lists_token.ensures)

pub loop-field-preserved : goal.loop-field-preserved
loop-field-preserved c =
    let name = codes "connection" in
    elim c.match-value_under.branch [
      | in-Some+else-lists_token w ↦
          close_other name c.args.text.now c.args.fields.now c.loop-field.field-index _ c.loop-field-test.true w.in-Some.value.now
          c.loop-field.invariant w.in-Some.ensures (sym w.if-lists_token.ensures)
      | in_default w ↦
          close_none name c.args.text.now c.args.fields.now c.loop-field.field-index _ c.loop-field-test.true c.loop-field.invariant w.in_default.ensures
    ]
