use Rattle.std.proofs.Common.{◌≡◌, ◌∙◌, ◌++◌, [], ap, rules}
use Rattle.std.specs.Prelude.{filter_map}
use Rattle.clap.specs.Matches.{found_of, ids_left}
use Rattle.clap.specs.Walk.{rows_of}
use Rattle.tg_words.specs.Operands.{givens, texts_of}
use Rattle.tg_words.specs.Parsing.{option_at}
use Rattle.tg_words.proofs.Matches.{names_begin, no_words_are, words_are}
use Rattle.tg_words.proofs.operands.operands_in.Goals as goal
use Rattle.tg_words.proofs.operands.operands_in.Goals.{in-Some+in_ok-extend_from_slice, in_default}

pub loop-name-init : goal.loop-name-init
loop-name-init c =
    let f = found_of c.args.matches.now in
    let flags = texts_of c.args.names.flags.now in
    elim c.match-get_strs.branch [
      | in-Some+in_ok-extend_from_slice w ↦ (
        search (rules, words_are f),
        ap (λ os. givens os ++ filter_map (option_at flags (rows_of f)) (ids_left c.into_iter-name-iterator.result)) (let e : c.match-get_strs.found.options.items ≡ [] = search rules in e)
            ∙ names_begin flags f (ids_left c.into_iter-name-iterator.result) (search rules),
      )
      | in_default w ↦ (
        search (rules, no_words_are f),
        ap (λ os. givens os ++ filter_map (option_at flags (rows_of f)) (ids_left c.into_iter-name-iterator.result)) (let e : c.match-get_strs.found.options.items ≡ [] = search rules in e)
            ∙ names_begin flags f (ids_left c.into_iter-name-iterator.result) (search rules),
      )
    ]
