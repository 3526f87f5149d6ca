use Rattle.std.proofs.Common.{◌≡◌, take}
use Rattle.tg_import.proofs.names.copy_of.Given as goal

abbrev pub invariant-loop-name : goal.invariant-loop-name
invariant-loop-name l = l.copy ≡ take l.name-index l.path
