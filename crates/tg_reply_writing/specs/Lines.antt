-- The lines of a head (RFC 9112, sections 4 and 5).
use Rattle.httparse.specs.Ascii.{crlf_bytes}
use Rattle.std.specs.List.{flat_map}
use Rattle.std.specs.Prelude.{List, codes, ℕ, ◌++◌, ◌∷◌}
use Rattle.tg_bytes.specs.Ascii.{space}
use Rattle.tg_reply.specs.Heads.{NamedValue, digits_of, field_line, phrase_of}
use Rattle.tg_reply.specs.declared.status.Status.{Status}

-- the status line
abbrev pub status_line : Status → List ℕ
status_line status = codes "HTTP/1.1 " ++ (digits_of status ++ (space ∷ (phrase_of status ++ crlf_bytes)))

-- the lines of fields
abbrev pub field_lines : List NamedValue → List ℕ
field_lines fields = flat_map field_line fields
