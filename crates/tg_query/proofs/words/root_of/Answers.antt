use Rattle.std.proofs.Common.{subst}
use Rattle.std.proofs.lemmas.Result.{err_from_is_err_and}
use Rattle.tg_query.specs.Answers.{Gives}
use Rattle.tg_query.specs.CidAnswers.{CidAnswer, root_of, with_query_fault}
use Rattle.tg_query.proofs.CidAnswers.{from_text_is, root_given}
use Rattle.tg_query.proofs.words.root_of.Goals as goal

pub returns : goal.returns
returns c =
    let text = c.args.text.now in
    let r = c.from_text.result in
    let is = from_text_is c.spelling_laws.ensures c.text_laws.ensures text r c.from_text.ensures.only c.from_text.ensures.given in
    subst (λ (a : CidAnswer). Gives (root_of text) (with_query_fault a)) c.in_ok-from_text.was (root_given text r is)

pub returns-in_err-from_text : goal.returns-in_err-from_text
returns-in_err-from_text c =
    let text = c.args.text.now in
    let r = c.from_text.result in
    let is = from_text_is c.spelling_laws.ensures c.text_laws.ensures text r c.from_text.ensures.only c.from_text.ensures.given in
    let p = err_from_is_err_and c.from_residual.result c.from_residual.ensures.1 in
    rw (p.1, p.2) (subst (λ (a : CidAnswer). Gives (root_of text) (with_query_fault a)) c.in_err-from_text.was (root_given text r is))
