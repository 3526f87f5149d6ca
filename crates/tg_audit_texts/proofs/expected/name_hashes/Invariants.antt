use Rattle.std.proofs.Common.{take, ◌≡◌}
use Rattle.std.specs.Prelude.{map}
use Rattle.tg_audit_texts.proofs.expected.name_hashes.Given as goal
use Rattle.tg_audit_texts.specs.Expected.{hashed_name}

-- the files so far
abbrev pub invariant-loop-number : goal.invariant-loop-number
invariant-loop-number l = l.hashed.items ≡ map hashed_name (take l.number-index l.numbers)
