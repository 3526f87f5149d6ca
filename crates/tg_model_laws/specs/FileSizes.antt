-- How many bytes a file's DAG declares, and has (UnixFS specification, File).
use Rattle.std.specs.Prelude.{length, ⊤, ℕ, ◌≡◌}
use Rattle.tg_model.specs.Content.{content}
use Rattle.tg_model.specs.Dag.{Dag, bare, node, total_of, unopened}
use Rattle.tg_model.specs.Sound.{IsFileKind, IsSound}

-- the root is a raw block or a file, where its kind is known
abbrev pub HasFileRoot : Dag → Type 0
HasFileRoot (unopened cid) = ⊤
HasFileRoot (bare section fault) = ⊤
HasFileRoot (node section kind children) = IsFileKind kind

-- the number of bytes that the root declares
abbrev pub root_total : Dag → ℕ
root_total (unopened cid) = 0
root_total (bare section fault) = 0
root_total (node section kind children) = total_of section kind

-- of a sound file this is the number of its bytes
abbrev pub TotalIsLength : Type 0
TotalIsLength = (d : Dag) → IsSound d → HasFileRoot d → length (content d) ≡ root_total d
