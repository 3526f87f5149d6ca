use Rattle.std.proofs.Common.{take, ◌≡◌}
use Rattle.std.specs.Prelude.{map}
use Rattle.tg_audit_texts.proofs.queries.path_of.Given as goal

-- the names so far
abbrev pub invariant-loop-name : goal.invariant-loop-name
invariant-loop-name l = l.path ≡ map (λ name. name.now) (take l.name-index l.names)
