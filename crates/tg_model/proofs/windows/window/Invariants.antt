-- where the next part begins, and the run so far
use Rattle.std.proofs.Common.{◌≡◌}
use Rattle.tg_model.proofs.WindowRuns.{RunBelow}
use Rattle.tg_model.specs.Window.{offset_of}
use Rattle.tg_model.proofs.windows.window.Given as goal

abbrev pub invariant-loop-at : goal.invariant-loop-at
invariant-loop-at l = record {
  offset : l.from ≡ offset_of l.inline l.parts l.at;
  run : RunBelow l.inline l.parts l.low l.high l.first l.end l.at;
}
