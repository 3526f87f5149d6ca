use Rattle.std.proofs.Common.{◌≡◌, ◌++◌, ◌∷◌, take}
use Rattle.std.specs.List.{flat_map}
use Rattle.tg_bytes.specs.Ascii.{slash}
use Rattle.tg_model.specs.Texts.{escaped}
use Rattle.tg_commands.proofs.import.path_text.Given as goal

-- the first name and those so far stand in the text, each behind a slash
abbrev pub invariant-loop-name : goal.invariant-loop-name
invariant-loop-name l = l.text ≡ l.initial.text ++ flat_map (λ next. slash ∷ escaped next) (take l.name-index l.rest)
