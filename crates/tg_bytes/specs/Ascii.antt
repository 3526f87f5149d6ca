-- Bytes of ASCII (RFC 20) that texts and paths have in common.
use Rattle.std.specs.Prelude.{ℕ}

-- the end of a line
abbrev pub line_feed : ℕ
line_feed = 10

-- between the names of a path
abbrev pub slash : ℕ
slash = 47

-- between the words of a line
abbrev pub space : ℕ
space = 32
