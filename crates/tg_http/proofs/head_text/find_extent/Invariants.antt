use Rattle.std.proofs.Common.{◌-◌, length}
use Rattle.tg_http.specs.Sought.{IsSought}
use Rattle.tg_http.proofs.head_text.find_extent.Given as goal

-- where the cursor stands was sought
abbrev pub invariant-loop-size : goal.invariant-loop-size
invariant-loop-size l = IsSought l.cursor l.bytes

abbrev pub decreases-loop-size : goal.decreases-loop-size
decreases-loop-size l = length l.bytes - l.cursor.seen
