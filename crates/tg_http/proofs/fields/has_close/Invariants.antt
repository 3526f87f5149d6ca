use Rattle.std.proofs.Common.{◌≡◌, take, map, false}
use Rattle.std.specs.Prelude.{codes}
use Rattle.std.specs.List.{list_any}
use Rattle.httparse.specs.Spans.{header_bytes}
use Rattle.tg_http.specs.Fields.{values, lists_token}
use Rattle.tg_http.proofs.fields.has_close.Given as goal

abbrev pub invariant-loop-field : goal.invariant-loop-field
invariant-loop-field l = list_any (lists_token (codes "close")) (values (codes "connection") (map (header_bytes l.text) (take l.field-index l.fields))) ≡ false
