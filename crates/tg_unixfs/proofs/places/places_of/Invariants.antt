use Rattle.std.proofs.Common.{◌-◌, length}
use Rattle.tg_unixfs.specs.Places.{DataSoFar}
use Rattle.tg_unixfs.proofs.places.places_of.Given as goal

abbrev pub invariant-loop-field : goal.invariant-loop-field
invariant-loop-field l = DataSoFar l.bytes l.cursor l.places l.time

abbrev pub decreases-loop-field : goal.decreases-loop-field
decreases-loop-field l = length l.bytes - l.cursor.at
