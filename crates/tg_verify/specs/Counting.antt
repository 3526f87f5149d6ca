-- What a verifier counts, and when a limit is passed.
use Rattle.std.specs.List.{flat_map}
use Rattle.std.specs.Prelude.{All, Bool, List, None, Option, Some, [], false, filter, length, nat_lt, not, true, ℕ, ◌++◌, ◌+◌}
use Rattle.std.specs.Prelude.{◌<◌, ◌∷◌, ◌≡◌, ◌≤◌}
use Rattle.tg_model.specs.Counts.{counts_of, each_counted, greatest, met_line, met_with, names_size}
use Rattle.tg_model.specs.LimitNumbers.{LimitNumbers}
use Rattle.tg_model.specs.PathWalk.{whole}
use Rattle.tg_model.specs.Queries.{QueryParts}
use Rattle.tg_model.specs.Traversal.{ListedEntry}
use Rattle.tg_model.specs.declared.limits.LimitKind.TheVariants as kinds
use Rattle.tg_model.specs.declared.limits.LimitKind.{LimitKind}
use Rattle.tg_model_laws.specs.Stages.{Given, ending}
use Rattle.tg_verify.specs.State.{told}
use Rattle.tg_verify.specs.declared.counts.Counts.{Counts}
use Rattle.tg_verify.specs.declared.counts.Directory.{Directory}
use Rattle.tg_verify.specs.declared.counts.Source.{Source}
use Rattle.tg_verify.specs.declared.counts.Source.TheVariants as sources

-- ---- entries

-- of the entries that were met those whose directories aren't done with
abbrev pub met_open : List ListedEntry → List ListedEntry → List ListedEntry
met_open before [] = before
met_open before (m ∷ met) = met_open (met_with before m) met

-- the directories of these entries, each of some of them and with a longer path than the one before it, and what is
-- counted of each
abbrev pub AreDirectories : List Directory → List ListedEntry → Type 0
AreDirectories [] met = met ≡ []
AreDirectories (directory ∷ directories) met =
    (own inner : List ListedEntry) × (met ≡ own ++ inner) × (0 < length own) × All (λ m. length m.directory ≡ directory.path) own
    × All (λ m. directory.path < length m.directory) inner
    × (directory.entries ≡ told (length own)) × (directory.names ≡ told (names_size own)) × AreDirectories directories inner

-- of these entries those of directories whose paths aren't longer
abbrev pub met_above : ℕ → List ListedEntry → List ListedEntry
met_above size met = filter (λ other. not (nat_lt size (length other.directory))) met

-- the innermost directory was taken out where its path is this long, or else a new one is told; the other entries are of
-- the directories that it lies in
pub record IsTakenOut (size : ℕ) (met : List ListedEntry) (taken : Directory) (directories : List Directory) : Type 0 where
  pub outer : List ListedEntry
  pub own : List ListedEntry
  pub met_is : met ≡ outer ++ own
  pub shorter : All (λ m. length m.directory < size) outer
  pub same : All (λ m. length m.directory ≡ size) own
  pub path : taken.path ≡ size
  pub entries : taken.entries ≡ told (length own)
  pub names : taken.names ≡ told (names_size own)
  pub are_left : AreDirectories directories outer

-- these entries were met
pub record HasMet (counts : Counts) (met : List ListedEntry) : Type 0 where
  pub entries : counts.entries ≡ told (greatest (each_counted length [] met))
  pub names : counts.names ≡ told (greatest (each_counted names_size [] met))
  pub directories : AreDirectories counts.directories.items (met_open [] met)

-- ---- all counts

-- what the limits count of what was given
abbrev pub counts_given : QueryParts → Given → LimitNumbers
counts_given q given = counts_of q (ending given whole)

-- this was given
pub record HasCounted (q : QueryParts) (counts : Counts) (given : Given) : Type 0 where
  pub met : HasMet counts given.met
  pub output : counts.output ≡ told (counts_given q given).output
  pub seen_blocks : counts.seen_blocks ≡ told (counts_given q given).seen_blocks
  pub seen_bytes : counts.seen_bytes ≡ told (counts_given q given).seen_bytes
  pub reused : counts.reused ≡ told (counts_given q given).reused

-- ---- a step

-- a block that is opened adds to the blocks that are remembered, to their bytes, and to the places that took one
abbrev pub blocks_added : Bool → Source → ℕ
blocks_added true source = 0
blocks_added false sources.Section = 1
blocks_added false sources.Remembered = 0
blocks_added false sources.Digest = 0

abbrev pub bytes_added : Bool → Source → List ℕ → ℕ
bytes_added true source block = 0
bytes_added false sources.Section block = length block
bytes_added false sources.Remembered block = 0
bytes_added false sources.Digest block = 0

abbrev pub reused_added : Bool → Source → ℕ
reused_added true source = 0
reused_added false sources.Section = 0
reused_added false sources.Remembered = 1
reused_added false sources.Digest = 0

-- a block from this source was opened, and with what came up to the next place this text was said, and these entries
-- were met
pub record IsCountedOn (dups : Bool) (source : Source) (block text : List ℕ) (entries : List ListedEntry) (old new : Counts) : Type 0 where
  pub met : (before : List ListedEntry) → HasMet old before → HasMet new (before ++ entries)
  pub output : new.output ≡ told (old.output + (length text + length (flat_map met_line entries)))
  pub seen_blocks : new.seen_blocks ≡ told (old.seen_blocks + blocks_added dups source)
  pub seen_bytes : new.seen_bytes ≡ told (old.seen_bytes + bytes_added dups source block)
  pub reused : new.reused ≡ told (old.reused + reused_added dups source)

-- ---- limits

-- the numbers of a verifier's counts
abbrev pub numbers_of : Counts → LimitNumbers
numbers_of counts = record {
  block = 0;
  depth = 0;
  entries = counts.entries;
  names = counts.names;
  received = 0;
  output = counts.output;
  seen_blocks = counts.seen_blocks;
  seen_bytes = counts.seen_bytes;
  reused = counts.reused;
}

-- none of these kinds of limits is passed by what is counted
pub record AreUnpassed (limits n : LimitNumbers) : Type 0 where
  pub entries : n.entries ≤ limits.entries
  pub names : n.names ≤ limits.names
  pub output : n.output ≤ limits.output
  pub seen_blocks : n.seen_blocks ≤ limits.seen_blocks
  pub seen_bytes : n.seen_bytes ≤ limits.seen_bytes
  pub reused : n.reused ≤ limits.reused

-- this kind is the first of them in this order whose limit is passed
abbrev pub IsFirstPassed : LimitNumbers → LimitNumbers → LimitKind → Type 0
IsFirstPassed limits n kinds.Block = ⊥
IsFirstPassed limits n kinds.Depth = ⊥
IsFirstPassed limits n kinds.Received = ⊥
IsFirstPassed limits n kinds.Entries = limits.entries < n.entries
IsFirstPassed limits n kinds.Names = (n.entries ≤ limits.entries) × (limits.names < n.names)
IsFirstPassed limits n kinds.Output =
    (n.entries ≤ limits.entries) × (n.names ≤ limits.names) × (limits.output < n.output)
IsFirstPassed limits n kinds.SeenBlocks =
    (n.entries ≤ limits.entries) × (n.names ≤ limits.names) × (n.output ≤ limits.output)
    × (limits.seen_blocks < n.seen_blocks)
IsFirstPassed limits n kinds.SeenBytes =
    (n.entries ≤ limits.entries) × (n.names ≤ limits.names) × (n.output ≤ limits.output)
    × (n.seen_blocks ≤ limits.seen_blocks) × (limits.seen_bytes < n.seen_bytes)
IsFirstPassed limits n kinds.Reused =
    (n.entries ≤ limits.entries) × (n.names ≤ limits.names) × (n.output ≤ limits.output)
    × (n.seen_blocks ≤ limits.seen_blocks) × (n.seen_bytes ≤ limits.seen_bytes) × (limits.reused < n.reused)

abbrev pub IsPassedFirst : LimitNumbers → LimitNumbers → Option LimitKind → Type 0
IsPassedFirst limits n None = AreUnpassed limits n
IsPassedFirst limits n (Some kind) = IsFirstPassed limits n kind
