use Rattle.std.proofs.Common.{◌≡◌, ◌++◌, take}
use Rattle.tg_car.specs.Heads.{IsInHead}
use Rattle.tg_car.proofs.head.fill.Given as goal

abbrev pub invariant-loop-at : goal.invariant-loop-at
invariant-loop-at l = (l.head ≡ l.fn.head ++ take l.at l.piece) × IsInHead l.head
