-- How many files and directories a DAG holds, and how many bytes (UnixFS specification: File, Directory,
-- HAMTDirectory).
use Rattle.std.specs.Prelude.{List, None, Option, Some, [], length, ℕ, ◌+◌, ◌∷◌}
use Rattle.tg_import.specs.declared.summary.Summary.{Summary}
use Rattle.tg_model.specs.Content.{content}
use Rattle.tg_model.specs.Dag.{Children, Dag, bare, no_child, node, unopened, with_child}
use Rattle.tg_model.specs.declared.kinds.Kind.TheVariants.{Basic, File, Raw, Shard, Symlink}
use Rattle.tg_model.specs.declared.kinds.Slot.{Slot}

abbrev pub nothing : Summary
nothing = record { files = 0; folders = 0; shards = 0; bytes = 0 }

abbrev pub one_file : ℕ → Summary
one_file bytes = record { files = 1; folders = 0; shards = 0; bytes = bytes }

abbrev pub one_folder : Summary
one_folder = record { files = 0; folders = 1; shards = 0; bytes = 0 }

abbrev pub one_sharded : Summary
one_sharded = record { files = 0; folders = 1; shards = 1; bytes = 0 }

-- both together
abbrev pub plus : Summary → Summary → Summary
plus a b = record { files = a.files + b.files; folders = a.folders + b.folders; shards = a.shards + b.shards; bytes = a.bytes + b.bytes }

-- an entry of a shard, or a child shard
abbrev pub slot_counts : Option (List ℕ) → Summary → Summary → Summary
slot_counts (Some name) entry inside = entry
slot_counts None entry inside = inside

-- a file counts with its bytes, a directory as one folder with what its entries count, and a sharded one as one shard
-- besides
abbrev mutual
  pub counts_of : Dag → Summary
  counts_of (unopened cid) = nothing
  counts_of (bare section fault) = nothing
  counts_of (node section Raw children) = one_file (length section.block)
  counts_of (node section (File inline filesize parts) children) =
      one_file (length (content (node section (File inline filesize parts) children)))
  counts_of (node section (Basic es) children) = plus one_folder (counts_of_children children)
  counts_of (node section (Shard slots) children) = plus one_sharded (counts_of_slots slots children)
  counts_of (node section (Symlink target) children) = nothing

  pub counts_of_children : Children → Summary
  counts_of_children no_child = nothing
  counts_of_children (with_child d children) = plus (counts_of d) (counts_of_children children)

  pub counts_of_slots : List Slot → Children → Summary
  counts_of_slots slots no_child = nothing
  counts_of_slots [] (with_child d children) = nothing
  counts_of_slots (slot ∷ slots) (with_child d children) =
      plus (slot_counts slot.name (counts_of d) (counts_inside d)) (counts_of_slots slots children)

  -- what the entries of a child shard count
  pub counts_inside : Dag → Summary
  counts_inside (unopened cid) = nothing
  counts_inside (bare section fault) = nothing
  counts_inside (node section Raw children) = nothing
  counts_inside (node section (File inline filesize parts) children) = nothing
  counts_inside (node section (Basic es) children) = nothing
  counts_inside (node section (Shard slots) children) = counts_of_slots slots children
  counts_inside (node section (Symlink target) children) = nothing
