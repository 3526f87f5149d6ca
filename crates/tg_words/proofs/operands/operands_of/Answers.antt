use Rattle.std.proofs.Common.{map, string_bytes, Global}
use Rattle.std.proofs.lemmas.Result.{err_from_is_err_and}
use Rattle.clap.specs.Simple.{app_of}
use Rattle.tg_words.specs.Operands.{names_of}
use Rattle.tg_words.proofs.Naming.{are_by}
use Rattle.tg_words.proofs.Parses.{are_texts, only_these, spelled, wants_memory}
use Rattle.tg_words.proofs.operands.operands_of.Goals as goal

pub returns-in_err-matches-clause-only : goal.returns-in_err-matches-clause-only
returns-in_err-matches-clause-only c =
    let p = err_from_is_err_and c.from_residual-in_err-matches.result c.from_residual-in_err-matches.ensures.1 in
    rw (p.1, p.2)
    (λ positional options s. wants_memory (names_of c.args.names) (map (string_bytes {Z = Global}) c.args.words.now) positional options (app_of c.in_ok-command.command) c.in_err-matches.field-0.0
    c.in_ok-command.ensures (are_by _ c.requires) (are_texts c.args.words.now) c.in_err-matches.ensures.kinds s)

pub returns-clause-found : goal.returns-clause-found
returns-clause-found c =
    spelled (names_of c.args.names) (map (string_bytes {Z = Global}) c.args.words.now) (app_of c.in_ok-command.command) c.in_ok-matches.matches
    c.in_ok-command.ensures (are_by _ c.requires) (are_texts c.args.words.now) c.in_ok-matches.ensures.matches _ _ c.in_ok-matches.ensures.kinds
    c.in_ok-operands_in.ensures.0 c.in_ok-operands_in.ensures.1

pub returns-clause-only : goal.returns-clause-only
returns-clause-only c = λ positional options s.
    only_these (names_of c.args.names) (map (string_bytes {Z = Global}) c.args.words.now) (app_of c.in_ok-command.command) c.in_ok-matches.matches
    c.in_ok-command.ensures (are_by _ c.requires) (are_texts c.args.words.now) c.in_ok-matches.ensures.matches _ positional _ options
    c.in_ok-operands_in.ensures.0 c.in_ok-operands_in.ensures.1 s
