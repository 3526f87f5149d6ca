use Rattle.std.proofs.Common.{ℕ, List, ◌++◌, take}
use Rattle.tg_car.specs.Fronts.{IsInHeader}
use Rattle.tg_car.specs.HeaderState.{FollowsHeader}
use Rattle.tg_car.proofs.reader.follow.Given as goal

abbrev pub invariant-loop-at : goal.invariant-loop-at
invariant-loop-at l = (bytes : List ℕ) → FollowsHeader l.fn.state bytes → IsInHeader bytes
    → FollowsHeader l.state (bytes ++ take l.at l.piece) × IsInHeader (bytes ++ take l.at l.piece)
