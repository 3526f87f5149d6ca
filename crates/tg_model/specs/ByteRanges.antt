-- Ranges of a file's bytes (Trustless Gateway specification, entity-bytes).
use Rattle.std.specs.Prelude.{List, None, Option, Some, drop, length, min, take, ℕ, ◌+◌, ◌-◌}
use Rattle.tg_model.specs.Queries.{SpanParts}
use Rattle.tg_model.specs.declared.queries.SpanFrom.{SpanFrom}
use Rattle.tg_model.specs.declared.queries.SpanFrom.TheVariants.{Last, Start}

-- the first byte of the range in a file of `total` bytes: the offset, or so many bytes before the end, and 0 where
-- there are fewer
abbrev pub low_of : SpanFrom → ℕ → ℕ
low_of (Start start) total = start
low_of (Last count) total = total - count

-- the byte behind the range
abbrev pub high_of : Option ℕ → ℕ → ℕ
high_of None total = total
high_of (Some to) total = min (to + 1) total

-- the bytes of the range; none where it doesn't begin before its end
abbrev pub slice_of : List ℕ → SpanParts → List ℕ
slice_of bytes span = take (high_of span.to (length bytes) - low_of span.from (length bytes)) (drop (low_of span.from (length bytes)) bytes)
