use Rattle.std.proofs.Common.{take, ◌≡◌}
use Rattle.std.specs.Prelude.{map}
use Rattle.tg_audit_texts.proofs.ExpectedTexts.{number_of}
use Rattle.tg_audit_texts.proofs.expected.by_hash.Given as goal

-- the numbers so far
abbrev pub invariant-loop-file : goal.invariant-loop-file
invariant-loop-file l = l.order.items ≡ map number_of (take l.file-index l.files)
