use Rattle.std.proofs.Common.{◌≡◌, drop}
use Rattle.std.specs.Map.{lookup}
use Rattle.std.specs.Str.{bytes_eq}
use Rattle.tg_tree.proofs.tree.find.Given as goal

-- the name isn't among the entries that were passed
abbrev pub invariant-loop-held : goal.invariant-loop-held
invariant-loop-held l = lookup (bytes_eq l.name) l.entries ≡ lookup (bytes_eq l.name) (drop l.held-index l.entries)
