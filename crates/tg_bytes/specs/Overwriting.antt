-- Bytes put over others.
use Rattle.std.specs.Prelude.{ℕ, ◌+◌, List, ◌++◌, length, take, drop}

-- the bytes in place of as many at an offset
abbrev pub over : List ℕ → ℕ → List ℕ → List ℕ
over content offset bytes = take offset content ++ bytes ++ drop (offset + length bytes) content
