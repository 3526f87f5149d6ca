use Rattle.std.proofs.Common.{◌≡◌, drop, find}
use Rattle.std.specs.Str.{bytes_eq}
use Rattle.tg_words.proofs.operands.find_option.Given as goal

-- the search among the options that are left finds what the search among all does
abbrev pub invariant-loop-option : goal.invariant-loop-option
invariant-loop-option l =
    find (λ option. bytes_eq option.name.now l.name) (drop l.option-index l.options) ≡ find (λ option. bytes_eq option.name.now l.name) l.options
