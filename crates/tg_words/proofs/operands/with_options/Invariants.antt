use Rattle.std.proofs.Common.{◌≡◌, map, take}
use Rattle.clap.specs.Simple.{app_of}
use Rattle.tg_words.specs.Operands.{texts_of}
use Rattle.tg_words.specs.Parsing.{option_rule, with_rules}
use Rattle.tg_words.proofs.operands.with_options.Given as goal

-- the options so far stand behind the arguments
abbrev pub invariant-loop-name : goal.invariant-loop-name
invariant-loop-name l = app_of l.command ≡ with_rules (app_of l.fn.command) (map (option_rule l.action) (texts_of (take l.name-index l.names)))
