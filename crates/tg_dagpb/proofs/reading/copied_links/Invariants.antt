use Rattle.std.proofs.Common.{◌-◌, length}
use Rattle.tg_pbtable.specs.Taking.{AreFirst}
use Rattle.tg_dagpb.specs.Cursor.{IsBetween, IsCursor}
use Rattle.tg_dagpb.proofs.reading.copied_links.Given as goal

abbrev pub invariant-loop-places : goal.invariant-loop-places
invariant-loop-places l = record { cursor : IsCursor l.bytes l.at; passed : AreFirst (IsBetween l.bytes) l.at l.links }

abbrev pub decreases-loop-places : goal.decreases-loop-places
decreases-loop-places l = length l.bytes - l.at
