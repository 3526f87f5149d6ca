use Rattle.std.proofs.Common.{◌-◌, length}
use Rattle.tg_pbtable.specs.Taking.{PassesNone}
use Rattle.tg_dagpb.specs.Cursor.{IsBetween}
use Rattle.tg_dagpb.proofs.reading.link_places_at.Given as goal

abbrev pub invariant-loop-field : goal.invariant-loop-field
invariant-loop-field l = PassesNone (IsBetween l.bytes) l.at l.from

abbrev pub decreases-loop-field : goal.decreases-loop-field
decreases-loop-field l = length l.bytes - l.from
