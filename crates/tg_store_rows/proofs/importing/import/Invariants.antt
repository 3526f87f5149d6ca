use Rattle.std.proofs.Common.{◌≡◌, ◌+◌, ◌<◌, ◌≤◌, length}
use Rattle.tg_store_rows.proofs.importing.import.Given as goal

abbrev pub invariant-loop-rest : goal.invariant-loop-rest
invariant-loop-rest g l = record {
  most : length l.fn.bytes ≤ 1048576;
  some : 0 < l.step;
  low : 1 ≤ l.chunker.size;
  open_chunk : length l.chunker.bytes < l.chunker.size;
  leaves : l.file.leaves + length l.rest ≤ length l.fn.bytes;
  bytes : (l.file.bytes + length l.chunker.bytes) + length l.rest ≡ length l.fn.bytes;
}

abbrev pub decreases-loop-rest : goal.decreases-loop-rest
decreases-loop-rest g l = length l.rest
