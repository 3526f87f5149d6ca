use Rattle.std.proofs.Common.{take, ◌≡◌}
use Rattle.tg_audit.proofs.auditing.compare_all.Given as goal
use Rattle.tg_audit.specs.Audits.{AreAnswered}

-- those so far have the expected answers, over one store
abbrev pub invariant-loop-i : goal.invariant-loop-i
invariant-loop-i g l = (g.B.Blocks.blocks.stored l.blocks ≡ g.B.Blocks.blocks.stored l.fn.blocks)
    × AreAnswered (g.B.Blocks.blocks.stored l.fn.blocks) (take l.i l.queries) (take l.i l.expected)
