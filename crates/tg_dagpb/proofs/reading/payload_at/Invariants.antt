use Rattle.std.proofs.Common.{◌-◌, length}
use Rattle.tg_dagpb.specs.Reading.{CheckedSoFar}
use Rattle.tg_dagpb.proofs.reading.payload_at.Given as goal

abbrev pub invariant-loop-field : goal.invariant-loop-field
invariant-loop-field l = CheckedSoFar l.bytes l.cursor l.bad l.payload

abbrev pub decreases-loop-field : goal.decreases-loop-field
decreases-loop-field l = length l.bytes - l.cursor.at
