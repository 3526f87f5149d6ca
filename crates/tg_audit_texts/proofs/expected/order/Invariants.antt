use Rattle.std.proofs.Common.{take, ◌≡◌}
use Rattle.tg_audit_texts.proofs.expected.order.Given as goal
use Rattle.tg_audit_texts.specs.Expected.{numbers_from}

-- the numbers so far
abbrev pub invariant-loop-number : goal.invariant-loop-number
invariant-loop-number l = l.order.items ≡ numbers_from 0 (take l.number l.many)
