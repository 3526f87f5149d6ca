use Rattle.std.proofs.Common.{◌≡◌, take, map, None}
use Rattle.std.specs.Prelude.{not, codes, find}
use Rattle.httparse.specs.Spans.{header_bytes}
use Rattle.tg_http.specs.Fields.{values, is_identity}
use Rattle.tg_http.proofs.fields.coding.Given as goal

abbrev pub invariant-loop-field : goal.invariant-loop-field
invariant-loop-field l = find (λ value. not (is_identity value)) (values (codes "content-encoding") (map (header_bytes l.text) (take l.field-index l.fields))) ≡ None
