-- Numbers that are within others, and limits that are passed.
use Rattle.std.proofs.Common.{arith, ◌<◌, ◌≤◌}
use Rattle.tg_model.specs.LimitNumbers.{AreWithin, LimitNumbers, number_of}
use Rattle.tg_model.specs.declared.limits.LimitKind.TheVariants as kinds
use Rattle.tg_model.specs.declared.limits.LimitKind.{LimitKind}
use Rattle.tg_verify.specs.Counting.{IsFirstPassed}

-- numbers within some that are within others are within these
pub within_both : (most some n : LimitNumbers) → AreWithin most some → AreWithin some n → AreWithin most n
within_both most some n a b = record {
  block = let x = a.block in let y = b.block in omega (arith, x, y);
  depth = let x = a.depth in let y = b.depth in omega (arith, x, y);
  entries = let x = a.entries in let y = b.entries in omega (arith, x, y);
  names = let x = a.names in let y = b.names in omega (arith, x, y);
  received = let x = a.received in let y = b.received in omega (arith, x, y);
  output = let x = a.output in let y = b.output in omega (arith, x, y);
  seen_blocks = let x = a.seen_blocks in let y = b.seen_blocks in omega (arith, x, y);
  seen_bytes = let x = a.seen_bytes in let y = b.seen_bytes in omega (arith, x, y);
  reused = let x = a.reused in let y = b.reused in omega (arith, x, y);
}

-- of each kind
pub number_within : (most n : LimitNumbers) (kind : LimitKind) → AreWithin most n → number_of kind n ≤ number_of kind most
number_within most n kinds.Block h = h.block
number_within most n kinds.Depth h = h.depth
number_within most n kinds.Entries h = h.entries
number_within most n kinds.Names h = h.names
number_within most n kinds.Received h = h.received
number_within most n kinds.Output h = h.output
number_within most n kinds.SeenBlocks h = h.seen_blocks
number_within most n kinds.SeenBytes h = h.seen_bytes
number_within most n kinds.Reused h = h.reused

-- where a limit is passed, more is counted
pub is_above : (limits n : LimitNumbers) (kind : LimitKind) → IsFirstPassed limits n kind → number_of kind limits < number_of kind n
is_above limits n kinds.Block h = absurd h
is_above limits n kinds.Depth h = absurd h
is_above limits n kinds.Entries h = h
is_above limits n kinds.Names h = h.1
is_above limits n kinds.Received h = absurd h
is_above limits n kinds.Output h = h.2
is_above limits n kinds.SeenBlocks h = h.3
is_above limits n kinds.SeenBytes h = h.4
is_above limits n kinds.Reused h = h.5

-- so none is of numbers within the limits
pub not_passed : (limits n : LimitNumbers) (kind : LimitKind) → AreWithin limits n → IsFirstPassed limits n kind → ⊥
not_passed limits n kind h passed =
    let most = number_within limits n kind h in
    let above = is_above limits n kind passed in
    omega (arith, most, above)
