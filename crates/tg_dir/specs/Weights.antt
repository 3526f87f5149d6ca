-- The weight of a directory, above which it is sharded (this project's own profile of UnixFS).
use Rattle.std.specs.List.{sum_by}
use Rattle.std.specs.Prelude.{List, length, ℕ, ◌+◌}
use Rattle.tg_cid.specs.Computed.{v1_bytes}
use Rattle.tg_model.specs.declared.kinds.NewEntry.{NewEntry}

-- the lengths of an entry's name and of its CID in version 1 together
abbrev pub weight_in : NewEntry → ℕ
weight_in entry = length entry.name + length (v1_bytes entry.cid)

-- those of all entries
abbrev pub weight_for : List NewEntry → ℕ
weight_for entries = sum_by weight_in entries
