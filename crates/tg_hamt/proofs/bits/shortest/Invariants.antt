use Rattle.std.proofs.Common.{◌≡◌, drop}
use Rattle.tg_hamt.proofs.bits.shortest.Given as goal
use Rattle.tg_model.specs.Reading.{used_slots}

abbrev pub invariant-loop-i : goal.invariant-loop-i
invariant-loop-i l = used_slots (drop l.i l.bits) ≡ used_slots l.bits
