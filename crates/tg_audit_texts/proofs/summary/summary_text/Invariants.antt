use Rattle.std.proofs.Common.{take, ◌++◌, ◌≡◌}
use Rattle.tg_audit_texts.proofs.summary.summary_text.Given as goal
use Rattle.tg_audit_texts.specs.Summary.{files_line, hashed_lines, root_line}

-- the lines so far
abbrev pub invariant-loop-i : goal.invariant-loop-i
invariant-loop-i l = l.text ≡ (root_line l.fn.root ++ files_line l.fn.summary) ++ hashed_lines 1 (take l.i l.found)
