-- The links of a shard, and its block (UnixFS specification, HAMTDirectory).
use Rattle.std.specs.List.{sum_by}
use Rattle.std.specs.Prelude.{List, [], length, ℕ, ◌++◌, ◌+◌, ◌∷◌, ◌≡◌, ◌≤◌}
use Rattle.tg_cid.specs.declared.cid.Codec.TheVariants.{DagPb}
use Rattle.tg_cid.specs.declared.cid.HashKind.TheVariants.{Sha256}
use Rattle.tg_model.specs.ImportLayout.{HasNoLeadingZero, shard_unix}
use Rattle.tg_model.specs.Reading.{slot_digits, used_slots}
use Rattle.tg_model.specs.Stores.{Keeping}
use Rattle.tg_model.specs.declared.kinds.Made.{Made}
use Rattle.tg_model.specs.declared.kinds.NewEntry.{NewEntry}
use Rattle.tg_node_writing.specs.Keeping.{Keeps, section_of}
use Rattle.tg_node_writing.specs.Nodes.{IsNodeOf}

-- the link of a slot that holds an entry, and of one that holds a child shard
abbrev pub entry_link_of : ℕ → NewEntry → NewEntry
entry_link_of slot entry = record { name = slot_digits slot ++ entry.name; cid = entry.cid; tsize = entry.tsize }

abbrev pub child_link_of : ℕ → Made → NewEntry
child_link_of slot made = record { name = slot_digits slot ++ []; cid = made.cid; tsize = made.tsize }

-- a shard's link is small, and its CID is of sha2-256
pub record IsShardLink (link : NewEntry) : Type 0 where
  pub short : length link.name ≤ 257
  pub plain : link.cid.hash ≡ Sha256

-- the Tsize of a link
abbrev pub tsize_in : NewEntry → ℕ
tsize_in link = link.tsize

-- the block of the shard with these links and these slots' bits was kept
pub record IsKeptShard (links : List NewEntry) (bits : List ℕ) (made : Made) (keeping : Keeping) : Type 0 where
  pub shortest : List ℕ
  pub used : used_slots shortest ≡ used_slots bits
  pub no_zero : HasNoLeadingZero shortest
  pub few : length shortest ≤ 32
  pub block : List ℕ
  pub written : IsNodeOf links (shard_unix shortest) block
  pub small : length block ≤ 131072
  pub cid_is : made.cid ≡ (section_of DagPb block).cid
  pub content_is : made.content ≡ 0
  pub tsize_is : made.tsize ≡ length block + sum_by tsize_in links
  pub keeps : Keeps (section_of DagPb block ∷ []) keeping
