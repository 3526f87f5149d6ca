use Rattle.std.proofs.Common.{List, take, ℕ, ◌++◌}
use Rattle.tg_audit_texts.proofs.expected.add_files.Given as goal
use Rattle.tg_audit_texts.specs.Expected.{files_bundled}
use Rattle.tg_audit_texts.specs.Hashing.{IsHashing}

-- the records so far
abbrev pub invariant-loop-number : goal.invariant-loop-number
invariant-loop-number l =
    (text : List ℕ) → IsHashing l.fn.hashing text → IsHashing l.hashing (text ++ files_bundled l.many (take l.number-index l.order))
