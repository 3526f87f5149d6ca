use Rattle.std.proofs.Common.{◌≡◌, ◌++◌, take}
use Rattle.tg_query.specs.Requests.{path_text}
use Rattle.tg_query.proofs.requests.push_path.Given as goal

abbrev pub invariant-loop-name : goal.invariant-loop-name
invariant-loop-name l = l.text ≡ l.initial.text ++ path_text (take l.name-index l.path)
