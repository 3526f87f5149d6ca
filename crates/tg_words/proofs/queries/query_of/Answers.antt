use Rattle.std.proofs.Common.{◌≡◌, ◌∙◌, Bool, Ok, Err, subst}
use Rattle.std.proofs.lemmas.Result.{err_from_is_err_and}
use Rattle.tg_model.specs.declared.queries.Form.TheVariants.{Car}
use Rattle.tg_query.specs.Answers.{Gives}
use Rattle.tg_query.specs.WordTexts.{Rooted, word_of}
use Rattle.tg_words.specs.QueryWords.{scope_for}
use Rattle.tg_words.proofs.QueryAnswers.{dups_else, good_path, query_found, word_refused, word_taken}
use Rattle.tg_words.proofs.queries.query_of.Goals as goal

pub returns-in_err-root : goal.returns-in_err-root
returns-in_err-root c =
    let p = err_from_is_err_and c.from_residual-in_err-root.result c.from_residual-in_err-root.ensures.1 in
    rw (p.1, p.2)
    (word_refused c.roots_read.ensures.word c.args.target.now _ _ _ c.in_err-root.field-0.0
    (subst (λ t. Gives {A = Rooted} (word_of t) (Err c.in_err-root.field-0.0)) c.as_bytes.ensures.value c.in_err-root.ensures))

pub car_query-requires-clause-good : goal.car_query-requires-clause-good
car_query-requires-clause-good c =
    good_path c.as_bytes.result.now c.in_ok-root.root c.in_ok-root.path
    (word_taken c.roots_read.ensures.word c.as_bytes.result.now c.in_ok-root.root c.in_ok-root.path c.in_ok-root.ensures)

pub returns : goal.returns
returns c =
    query_found c.roots_read.ensures.word c.spans_read.ensures.span c.args.target.now _ _ _ c.in_ok-root.root c.in_ok-root.path c.in_ok-asked.asked c.in_ok-span.span c.in_ok-dups.dups c.car_query.result
    (word_taken c.roots_read.ensures.word c.args.target.now c.in_ok-root.root c.in_ok-root.path
    (subst (λ t. Gives {A = Rooted} (word_of t) (Ok (c.in_ok-root.root, c.in_ok-root.path))) c.as_bytes.ensures.value c.in_ok-root.ensures))
    c.in_ok-asked.ensures.found c.in_ok-span.ensures.found c.in_ok-dups.ensures.found
    (subst (λ (dups : Bool). c.car_query.result ≡ record { root = c.in_ok-root.root; path = c.in_ok-root.path; form = Car; scope = scope_for c.in_ok-asked.asked c.in_ok-span.span; span = c.in_ok-span.span; dups = dups })
    (c.unwrap_or.ensures ∙ dups_else c.in_ok-dups.dups) c.car_query.ensures)
