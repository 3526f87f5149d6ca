use Rattle.std.proofs.lemmas.Result.{err_from_is_err_and}
use Rattle.tg_words.specs.Operands.{VerifyIntoGiven, givens}
use Rattle.tg_words.proofs.IntoAnswers.{verify_into_found}
use Rattle.tg_words.proofs.Positional.{exact_err}
use Rattle.tg_words.proofs.intos.verify_into.Goals as goal

pub returns-in_err-query_into : goal.returns-in_err-query_into
returns-in_err-query_into c =
    let p = err_from_is_err_and c.from_residual-in_err-query_into.result c.from_residual-in_err-query_into.ensures.1 in
    rw (p.1, p.2)
    (exact_err _ (VerifyIntoGiven c.args.target.now c.args.folder.now (givens c.args.options.now)) _ c.in_err-query_into.ensures (λ parts is. (parts.query, is.query)))

pub returns : goal.returns
returns c =
    verify_into_found c.args.target.now c.args.folder.now (givens c.args.options.now) _ c.in_ok-named.ensures.found.0 c.in_ok-named.ensures.found.1 c.in_ok-query_into.ensures
