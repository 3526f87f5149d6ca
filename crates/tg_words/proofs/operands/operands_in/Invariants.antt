use Rattle.std.proofs.Common.{◌≡◌, ◌++◌}
use Rattle.std.specs.Prelude.{filter_map}
use Rattle.clap.specs.Walk.{rows_of}
use Rattle.clap.specs.Matches.{found_of, ids_left}
use Rattle.tg_words.specs.Operands.{givens, texts_of}
use Rattle.tg_words.specs.Parsing.{option_at, options_in, positional_in}
use Rattle.tg_words.proofs.operands.operands_in.Given as goal

-- the options so far stand before those of the names that are left
abbrev pub invariant-loop-name : goal.invariant-loop-name
invariant-loop-name l =
    (texts_of l.found.positional.items ≡ positional_in (rows_of (found_of l.matches)))
    × (givens l.found.options.items ++ filter_map (option_at (texts_of l.names.flags.now) (rows_of (found_of l.matches))) (ids_left l.name-iterator)
    ≡ options_in (texts_of l.names.flags.now) (rows_of (found_of l.matches)))
