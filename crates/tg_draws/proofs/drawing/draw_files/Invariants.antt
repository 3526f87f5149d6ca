use Rattle.tg_draws.specs.Draws.{AreFilesDrawn}
use Rattle.tg_draws.proofs.drawing.draw_files.Given as goal

-- so many files were drawn as the loop has come to
abbrev pub invariant-loop : goal.invariant-loop
invariant-loop l = AreFilesDrawn l.fn.generator.state l.counter l.many l.generator.state
