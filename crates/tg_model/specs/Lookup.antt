-- A path looked up by the names of entries (Path Gateway specification, Path Resolution; UnixFS specification,
-- Pathing). No hash appears.
use Rattle.std.specs.Prelude.{Bool, List, None, Option, Some, [], bytes_eq, false, if◌then◌else◌, true, ℕ, ◌+◌, ◌∷◌}
use Rattle.tg_model.specs.Content.{DirEntry, entries}
use Rattle.tg_model.specs.Dag.{Dag, bare, node, unopened}
use Rattle.tg_model.specs.declared.kinds.Kind.{Kind}
use Rattle.tg_model.specs.declared.kinds.Kind.TheVariants.{Basic, File, Raw, Shard, Symlink}

-- where a path leads: to a node, or to no entry or no directory at a segment, counted from 0
pub data LookupEnd : Type 0 where
  found : Dag → LookupEnd
  not_there : ℕ → LookupEnd
  not_folder : ℕ → LookupEnd

abbrev pub is_directory_kind : Kind → Bool
is_directory_kind Raw = false
is_directory_kind (File inline filesize parts) = false
is_directory_kind (Basic entries) = true
is_directory_kind (Shard slots) = true
is_directory_kind (Symlink target) = false

abbrev pub is_directory : Dag → Bool
is_directory (unopened cid) = false
is_directory (bare section fault) = false
is_directory (node section kind children) = is_directory_kind kind

-- the first entry of that name
abbrev pub entry_named : List ℕ → List DirEntry → Option Dag
entry_named name [] = None
entry_named name (entry ∷ entries) = if bytes_eq name entry.name then Some entry.dag else entry_named name entries

-- the segments from number `i` on, each among the entries of the node reached so far
abbrev pub lookup_below : ℕ → (Dag → LookupEnd) → Option Dag → LookupEnd
lookup_below i onward None = not_there i
lookup_below i onward (Some below) = onward below

abbrev pub lookup_in : ℕ → (Dag → LookupEnd) → List ℕ → Dag → Bool → LookupEnd
lookup_in i onward name d true = lookup_below i onward (entry_named name (entries d))
lookup_in i onward name d false = not_folder i

abbrev pub lookup_from : ℕ → List (List ℕ) → Dag → LookupEnd
lookup_from i [] d = found d
lookup_from i (name ∷ path) d = lookup_in i (lookup_from (i + 1) path) name d (is_directory d)

abbrev pub lookup_path : List (List ℕ) → Dag → LookupEnd
lookup_path path d = lookup_from 0 path d
