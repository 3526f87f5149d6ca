use Rattle.std.proofs.Common.{◌-◌}
use Rattle.tg_dagpb.specs.Reading.{LinkSoFar}
use Rattle.tg_dagpb.proofs.reading.link_in.Given as goal

abbrev pub invariant-loop-field : goal.invariant-loop-field
invariant-loop-field l = LinkSoFar l.bytes l.start l.end l.cursor l.places

abbrev pub decreases-loop-field : goal.decreases-loop-field
decreases-loop-field l = (l.end - l.start) - l.cursor.at
