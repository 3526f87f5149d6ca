-- How many shards a directory has (UnixFS specification, HAMTDirectory), and how many the directory `many` of an audit may have.
use Rattle.std.specs.Prelude.{List, None, Option, Some, [], codes, ℕ, ◌+◌, ◌<◌, ◌∷◌, ◌≡◌, ◌≤◌}
use Rattle.tg_model.specs.Dag.{Children, Dag, Section, bare, no_child, node, unopened, with_child}
use Rattle.tg_model.specs.Lookup.{found, lookup_path}
use Rattle.tg_model.specs.declared.kinds.Kind.TheVariants.{Basic, File, Raw, Shard, Symlink}
use Rattle.tg_model.specs.declared.kinds.Slot.{Slot}

-- a slot without a name leads to a child shard
abbrev pub if_unnamed : Option (List ℕ) → ℕ → ℕ
if_unnamed (Some name) n = 0
if_unnamed None n = n

-- what the blocks of a directory alone come to, without those of its entries, by what each comes to
module _ (u : Section → ℕ) where
  abbrev mutual
    pub inner : Dag → ℕ
    inner (unopened cid) = 0
    inner (bare section fault) = 0
    inner (node section Raw children) = 0
    inner (node section (File inline filesize parts) children) = 0
    inner (node section (Basic es) children) = u section
    inner (node section (Shard slots) children) = u section + inner_slots slots children
    inner (node section (Symlink target) children) = 0

    pub inner_slots : List Slot → Children → ℕ
    inner_slots slots no_child = 0
    inner_slots [] (with_child d children) = 0
    inner_slots (slot ∷ slots) (with_child d children) = if_unnamed slot.name (inner d) + inner_slots slots children

-- the shards of a directory; one in a single block has one
abbrev pub one_each : Section → ℕ
one_each section = 1

abbrev pub shards : Dag → ℕ
shards d = inner one_each d

-- the directory of `many` has no more than a listing may remember besides the root's block, where each block is sent once
abbrev pub HasFewShards : Dag → Type 0
HasFewShards d = (m : Dag) → lookup_path (codes "many" ∷ []) d ≡ found m → shards m ≤ 1048575

-- it has more, which takes more than 393,113 files
pub record HasManyShards (files : ℕ) (d : Dag) : Type 0 where
  pub shards : HasFewShards d → ⊥
  pub more : 393113 < files
