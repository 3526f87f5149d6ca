use Rattle.std.proofs.Common.{◌≡◌, drop}
use Rattle.tg_query.specs.Accepts.{first_car, ranges_of}
use Rattle.tg_query.proofs.accepts.first_car.Given as goal

abbrev pub invariant-loop-value : goal.invariant-loop-value
invariant-loop-value l = first_car (ranges_of l.values) ≡ first_car (ranges_of (drop l.value-index l.values))
