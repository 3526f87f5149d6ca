use Rattle.std.proofs.Common.{rules, tests, true, false, sym, ◌∙◌}
use Rattle.std.proofs.lemmas.Iterator.{YieldsList-from_slice}
use Rattle.std.proofs.lemmas.Iterator.Search.{any_from_yields_List}
use Rattle.tg_words.specs.Operands.{given, givens, is_raw}
use Rattle.tg_words.proofs.FetchAnswers.{any_given, asked_where}
use Rattle.tg_words.proofs.fetches.asked.Goals as goal

pub returns-then-any : goal.returns-then-any
returns-then-any c =
    let any = any_from_yields_List (λ o. is_raw (given o)) _ _ c.any.result c.any.ensures.ran (YieldsList-from_slice c.args.options.now cc) (λ x b q k. search (rules, tests)) in
    asked_where c.args.target.now (givens c.args.options.now) true _ (sym (any_given c.args.options.now) ∙ sym any ∙ c.if-any.true) c.raw_query.ensures

pub returns : goal.returns
returns c =
    let any = any_from_yields_List (λ o. is_raw (given o)) _ _ c.any.result c.any.ensures.ran (YieldsList-from_slice c.args.options.now cc) (λ x b q k. search (rules, tests)) in
    asked_where c.args.target.now (givens c.args.options.now) false _ (sym (any_given c.args.options.now) ∙ sym any ∙ c.if-any.false) c.query_with.ensures
