use Rattle.std.proofs.Common.{◌≤◌, length, Ok, Err, rules, tests, sym, ap, ◌∙◌, subst}
use Rattle.std.specs.Prelude.{◌==◌}
use Rattle.std.proofs.lemmas.List.{length-map}
use Rattle.std.proofs.lemmas.Result.{err_from_is_err_and}
use Rattle.tg_query.specs.Answers.{Gives}
use Rattle.tg_query.specs.WordTexts.{Rooted, word_of}
use Rattle.tg_words.specs.Operands.{given, givens}
use Rattle.tg_words.proofs.FetchAnswers.{is_empty, not_empty, path_refused, raw_found, raw_refused}
use Rattle.tg_words.proofs.QueryAnswers.{word_taken}
use Rattle.tg_words.proofs.fetches.raw_query.Goals as goal

pub returns-in_err-root : goal.returns-in_err-root
returns-in_err-root c =
    let p = err_from_is_err_and c.from_residual.result c.from_residual.ensures.1 in
    rw (p.1, p.2)
    (raw_refused c.roots_read.ensures.word c.args.target.now _ c.in_err-root.field-0.0
    (subst (λ t. Gives {A = Rooted} (word_of t) (Err c.in_err-root.field-0.0)) c.as_bytes.ensures.value c.in_err-root.ensures))

pub returns-then-not-is_empty : goal.returns-then-not-is_empty
returns-then-not-is_empty c =
    let word = word_taken c.roots_read.ensures.word c.args.target.now c.in_ok-root.root c.in_ok-root.path
    (subst (λ t. Gives {A = Rooted} (word_of t) (Ok (c.in_ok-root.root, c.in_ok-root.path))) c.as_bytes.ensures.value c.in_ok-root.ensures) in
    path_refused c.roots_read.ensures.word c.args.target.now (givens c.args.options.now) c.in_ok-root.root c.in_ok-root.path word
    (not_empty c.in_ok-root.path _ (c.is_empty.ensures ∙ ap (λ p. length p == 0) c.as_slice.ensures) c.if-not-is_empty.true)

pub returns : goal.returns
returns c =
    let word = word_taken c.roots_read.ensures.word c.args.target.now c.in_ok-root.root c.in_ok-root.path
    (subst (λ t. Gives {A = Rooted} (word_of t) (Ok (c.in_ok-root.root, c.in_ok-root.path))) c.as_bytes.ensures.value c.in_ok-root.ensures) in
    raw_found c.roots_read.ensures.word c.args.target.now (givens c.args.options.now) c.in_ok-root.root c.in_ok-root.path c.raw.result
    (subst (λ n. n ≤ 1) (sym (length-map c.args.options.now given)) (search (rules, tests))) word
    (is_empty c.in_ok-root.path _ (c.is_empty.ensures ∙ ap (λ p. length p == 0) c.as_slice.ensures) c.if-not-is_empty.false) c.raw.ensures
