use Rattle.std.proofs.Common.{take, map}
use Rattle.httparse.specs.Spans.{header_bytes}
use Rattle.tg_http.specs.Fields.{values, AreValues}
use Rattle.tg_http.proofs.fields.value_of.Given as goal

abbrev pub invariant-loop-field : goal.invariant-loop-field
invariant-loop-field l = AreValues (values l.name (map (header_bytes l.text) (take l.field-index l.fields))) l.found
