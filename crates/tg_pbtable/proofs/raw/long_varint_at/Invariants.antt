use Rattle.std.proofs.Common.{◌≡◌, ◌<◌, take}
use Rattle.tg_varint.specs.Varint.{number_of, AllGoOn}
use Rattle.tg_pbtable.proofs.raw.long_varint_at.Given as goal

abbrev pub invariant-loop-i : goal.invariant-loop-i
invariant-loop-i l = (l.i < 10) × AllGoOn (take l.i l.bytes) × (l.number ≡ number_of (take l.i l.bytes))
