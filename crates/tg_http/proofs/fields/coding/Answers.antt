use Rattle.std.proofs.Common.{sym}
use Rattle.std.specs.Prelude.{codes}
use Rattle.tg_http.proofs.Values.{coding_at, coding_none, coding_same}
use Rattle.tg_http.proofs.fields.coding.Goals as goal
use Rattle.tg_http.proofs.fields.coding.Goals.{in-Some+else-not-is_same, in_default}

pub returns-then-not-is_same : goal.returns-then-not-is_same
returns-then-not-is_same c =
    coding_at (codes "content-encoding") c.args.text.now c.args.fields.now c.loop-field.field-index _ c.loop-field-test.true c.in-Some.value.now
    c.loop-field.invariant c.in-Some.ensures (sym c.if-not-is_same.ensures)

pub loop-field-preserved : goal.loop-field-preserved
loop-field-preserved c =
    let name = codes "content-encoding" in
    elim c.match-value_under.branch [
      | in-Some+else-not-is_same w ↦
          coding_same name c.args.text.now c.args.fields.now c.loop-field.field-index _ c.loop-field-test.true w.in-Some.value.now
          c.loop-field.invariant w.in-Some.ensures (sym w.if-not-is_same.ensures)
      | in_default w ↦
          coding_none name c.args.text.now c.args.fields.now c.loop-field.field-index _ c.loop-field-test.true c.loop-field.invariant w.in_default.ensures
    ]
