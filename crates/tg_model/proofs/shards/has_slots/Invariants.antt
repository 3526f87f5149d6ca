-- the slots that are left decide
use Rattle.std.proofs.Common.{◌≡◌, ◌++◌, ◌∷◌, [], drop}
use Rattle.tg_model.specs.Sound.{has_slots}
use Rattle.tg_model.proofs.shards.has_slots.Given as goal

abbrev pub invariant-loop-level : goal.invariant-loop-level
invariant-loop-level l = has_slots l.name 0 (l.above ++ l.last ∷ []) ≡ has_slots l.name l.level (drop l.level l.above ++ l.last ∷ [])
