use Rattle.std.proofs.Common.{◌≡◌, take, map}
use Rattle.std.specs.Prelude.{codes}
use Rattle.httparse.specs.Spans.{header_bytes}
use Rattle.tg_http.specs.Fields.{values}
use Rattle.tg_http.proofs.fields.accepted.Given as goal

abbrev pub invariant-loop-field : goal.invariant-loop-field
invariant-loop-field l = l.list ≡ values (codes "accept") (map (header_bytes l.text) (take l.field-index l.fields))
