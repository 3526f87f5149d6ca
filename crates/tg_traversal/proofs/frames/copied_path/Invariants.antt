-- the names so far
use Rattle.std.proofs.Common.{◌≡◌, take}
use Rattle.tg_traversal.proofs.frames.copied_path.Given as goal

abbrev pub invariant-loop-name : goal.invariant-loop-name
invariant-loop-name l = l.copy ≡ take l.name-index l.path
