use Rattle.httparse.specs.declared.spans.HeaderSpan.{HeaderSpan}
use Rattle.tg_http.proofs.Values.{seen, are_more, are_same}
use Rattle.tg_http.proofs.fields.value_of.Goals as goal
use Rattle.tg_http.proofs.fields.value_of.Goals.{in-Some, in_default}

no_span : HeaderSpan
no_span = record { name = record { start = 0; end = 0 }; value = record { start = 0; end = 0 } }

pub loop-field-preserved : goal.loop-field-preserved
loop-field-preserved c =
    elim c.match-value_under.branch [
      | in-Some w ↦
          are_more c.args.name.now c.args.text.now c.args.fields.now c.loop-field.field-index _ c.loop-field-test.true w.in-Some.value.now
          w.and-found.result c.match-value_under.found w.in-Some.ensures w.found-is
          (w.and-found.ensures (seen c.args.name.now c.args.text.now c.args.fields.now c.loop-field.field-index no_span c.loop-field-test.true c.loop-field.field-index) c.loop-field.invariant)
      | in_default w ↦
          are_same c.args.name.now c.args.text.now c.args.fields.now c.loop-field.field-index _ c.loop-field-test.true c.loop-field.found
          c.match-value_under.found w.in_default.ensures w.found-is c.loop-field.invariant
    ]
