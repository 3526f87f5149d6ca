use Rattle.std.proofs.Common.{◌≡◌, ◌∙◌, Bool, Ok, Err, None, rules, tests, sym, subst}
use Rattle.std.proofs.lemmas.Iterator.{YieldsList-from_slice}
use Rattle.std.proofs.lemmas.Iterator.Search.{all_from_yields_List}
use Rattle.std.proofs.lemmas.Result.{err_from_is_err_and}
use Rattle.tg_model.specs.declared.queries.Form.TheVariants.{Car}
use Rattle.tg_model.specs.declared.queries.Scope.TheVariants.{All}
use Rattle.tg_query.specs.Answers.{Gives}
use Rattle.tg_query.specs.WordTexts.{Rooted, word_of}
use Rattle.tg_words.specs.Operands.{given, givens, is_into}
use Rattle.tg_words.proofs.IntoAnswers.{all_given, into_found, into_refused, others_refused}
use Rattle.tg_words.proofs.QueryAnswers.{dups_else, good_path, word_taken}
use Rattle.tg_words.proofs.intos.query_into.Goals as goal

pub returns-then-not-all : goal.returns-then-not-all
returns-then-not-all c =
    let all = all_from_yields_List (λ o. is_into (given o)) _ _ c.all.result c.all.ensures.ran (YieldsList-from_slice c.args.options.now cc) (λ x b q k. search (rules, tests)) in
    others_refused c.args.target.now (givens c.args.options.now) (sym (all_given c.args.options.now) ∙ sym all ∙ c.if-not-all.true)

pub returns-in_err-root : goal.returns-in_err-root
returns-in_err-root c =
    let p = err_from_is_err_and c.from_residual-in_err-root.result c.from_residual-in_err-root.ensures.1 in
    rw (p.1, p.2)
    (into_refused c.roots_read.ensures.word c.args.target.now _ c.in_err-root.field-0.0
    (subst (λ t. Gives {A = Rooted} (word_of t) (Err c.in_err-root.field-0.0)) c.as_bytes.ensures.value c.in_err-root.ensures))

pub car-requires-clause-good : goal.car-requires-clause-good
car-requires-clause-good c =
    good_path c.as_bytes.result.now c.in_ok-root.root c.in_ok-root.path
    (word_taken c.roots_read.ensures.word c.as_bytes.result.now c.in_ok-root.root c.in_ok-root.path c.in_ok-root.ensures)

pub returns : goal.returns
returns c =
    let all = all_from_yields_List (λ o. is_into (given o)) _ _ c.all.result c.all.ensures.ran (YieldsList-from_slice c.args.options.now cc) (λ x b q k. search (rules, tests)) in
    into_found c.roots_read.ensures.word c.args.target.now (givens c.args.options.now) c.in_ok-root.root c.in_ok-root.path _ c.in_ok-dups.dups c.car.result
    (sym (all_given c.args.options.now) ∙ sym all ∙ c.if-not-all.false)
    (word_taken c.roots_read.ensures.word c.args.target.now c.in_ok-root.root c.in_ok-root.path
    (subst (λ t. Gives {A = Rooted} (word_of t) (Ok (c.in_ok-root.root, c.in_ok-root.path))) c.as_bytes.ensures.value c.in_ok-root.ensures))
    c.value_of.ensures c.in_ok-dups.ensures.found
    (subst (λ (dups : Bool). c.car.result ≡ record { root = c.in_ok-root.root; path = c.in_ok-root.path; form = Car; scope = All; span = None; dups = dups })
    (c.unwrap_or.ensures ∙ dups_else c.in_ok-dups.dups) c.car.ensures)
