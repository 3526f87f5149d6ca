use Rattle.std.proofs.Common.{◌≡◌, ◌++◌, take}
use Rattle.std.specs.List.{flat_map}
use Rattle.tg_words.specs.Help.{option_line, option_of}
use Rattle.tg_words.proofs.help.push_options.Given as goal

-- the lines of the options so far
abbrev pub invariant-loop-option : goal.invariant-loop-option
invariant-loop-option l = l.text ≡ l.initial.text ++ flat_map (λ option. option_line (option_of option)) (take l.option-index l.options)
