use Rattle.std.proofs.Common.{◌≡◌}
use Rattle.std.specs.Prelude.{take}
use Rattle.tg_extract.proofs.Paths.{below}
use Rattle.tg_extract.proofs.lines.shown_path.Given as goal

abbrev pub invariant-loop-name : goal.invariant-loop-name
invariant-loop-name l = l.text ≡ below (take l.name-index l.path)
