use Rattle.std.proofs.Common.{◌≡◌, ◌++◌, take}
use Rattle.std.specs.List.{flat_map}
use Rattle.tg_words.specs.Help.{summary_line}
use Rattle.tg_words.proofs.help.push_summaries.Given as goal

-- the lines of the commands so far
abbrev pub invariant-loop-name : goal.invariant-loop-name
invariant-loop-name l = l.text ≡ l.initial.text ++ flat_map summary_line (take l.name-index l.names)
