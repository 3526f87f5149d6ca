use Rattle.std.proofs.Common.{◌≡◌, [], take, map}
use Rattle.httparse.specs.Spans.{header_bytes}
use Rattle.tg_http.specs.Fields.{values}
use Rattle.tg_http.proofs.fields.first_value.Given as goal

abbrev pub invariant-loop-field : goal.invariant-loop-field
invariant-loop-field l = values l.name (map (header_bytes l.text) (take l.field-index l.fields)) ≡ []
