use Rattle.std.proofs.Common.{◌-◌, length}
use Rattle.tg_pbtable.specs.Taking.{AreFirst}
use Rattle.tg_unixfs.specs.Places.{IsBetween, IsCursor}
use Rattle.tg_unixfs.proofs.sizes_of.Given as goal

abbrev pub invariant-loop-size : goal.invariant-loop-size
invariant-loop-size l = record { cursor : IsCursor l.bytes l.at; passed : AreFirst (IsBetween l.bytes) l.at l.sizes }

abbrev pub decreases-loop-size : goal.decreases-loop-size
decreases-loop-size l = length l.bytes - l.at
