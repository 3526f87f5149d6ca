use Rattle.std.proofs.Common.{◌≡◌, ℕ, Some, None, ◌<◌}
use Rattle.std.specs.List.{slice_get}
use Rattle.tg_dials.proofs.dial.first_link.Given as goal

-- no link stands before the place
abbrev pub invariant-loop-place : goal.invariant-loop-place
invariant-loop-place g l = (k : ℕ) → k < l.place → slice_get l.links k ≡ Some None
