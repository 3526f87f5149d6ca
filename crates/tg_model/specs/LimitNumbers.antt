-- The numbers of limits.
use Rattle.tg_model.specs.declared.limits.LimitKind.TheVariants as kinds
use Rattle.tg_cid.specs.Limits.{max_block_len}
use Rattle.std.specs.Prelude.{ℕ, ◌≤◌}
use Rattle.tg_model.specs.declared.limits.LimitKind.{LimitKind}

pub record LimitNumbers : Type 0 where
  pub block : ℕ
  pub depth : ℕ
  pub entries : ℕ
  pub names : ℕ
  pub received : ℕ
  pub output : ℕ
  pub seen_blocks : ℕ
  pub seen_bytes : ℕ
  pub reused : ℕ

abbrev pub number_of : LimitKind → LimitNumbers → ℕ
number_of kinds.Block n = n.block
number_of kinds.Depth n = n.depth
number_of kinds.Entries n = n.entries
number_of kinds.Names n = n.names
number_of kinds.Received n = n.received
number_of kinds.Output n = n.output
number_of kinds.SeenBlocks n = n.seen_blocks
number_of kinds.SeenBytes n = n.seen_bytes
number_of kinds.Reused n = n.reused

abbrev pub with_number : LimitKind → ℕ → LimitNumbers → LimitNumbers
with_number kinds.Block number n = record n { block = number }
with_number kinds.Depth number n = record n { depth = number }
with_number kinds.Entries number n = record n { entries = number }
with_number kinds.Names number n = record n { names = number }
with_number kinds.Received number n = record n { received = number }
with_number kinds.Output number n = record n { output = number }
with_number kinds.SeenBlocks number n = record n { seen_blocks = number }
with_number kinds.SeenBytes number n = record n { seen_bytes = number }
with_number kinds.Reused number n = record n { reused = number }

-- the standard numbers
abbrev pub standard : LimitNumbers
standard = record {
  block = max_block_len;
  depth = 512;
  entries = 1048576;
  names = 268435456;
  received = 1099511627776;
  output = 1099511627776;
  seen_blocks = 1048576;
  seen_bytes = 1073741824;
  reused = 16777216;
}

-- no number is above the other's of its kind
pub record AreWithin (most n : LimitNumbers) : Type 0 where
  pub block : n.block ≤ most.block
  pub depth : n.depth ≤ most.depth
  pub entries : n.entries ≤ most.entries
  pub names : n.names ≤ most.names
  pub received : n.received ≤ most.received
  pub output : n.output ≤ most.output
  pub seen_blocks : n.seen_blocks ≤ most.seen_blocks
  pub seen_bytes : n.seen_bytes ≤ most.seen_bytes
  pub reused : n.reused ≤ most.reused
