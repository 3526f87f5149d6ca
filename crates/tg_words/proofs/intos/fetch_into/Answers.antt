use Rattle.std.proofs.Common.{rules}
use Rattle.std.proofs.lemmas.Result.{err_from_is_err_and}
use Rattle.tg_words.specs.Operands.{FetchIntoGiven, givens}
use Rattle.tg_words.proofs.IntoAnswers.{fetch_into_found}
use Rattle.tg_words.proofs.Positional.{exact_err}
use Rattle.tg_words.proofs.intos.fetch_into.Goals as goal

pub returns-in_err-query : goal.returns-in_err-query
returns-in_err-query c =
    let p = err_from_is_err_and c.from_residual-in_err-query.result c.from_residual-in_err-query.ensures.1 in
    rw (p.1, p.2)
    (exact_err _ (FetchIntoGiven c.args.addr.now c.args.target.now c.args.folder.now (givens c.args.options.now)) _ c.in_err-query.ensures (λ parts is. (parts.query, is.query)))

pub returns : goal.returns
returns c =
    fetch_into_found c.args.addr.now c.args.target.now c.args.folder.now (givens c.args.options.now) _ (search rules) c.requires.addr
    c.in_ok-folder.ensures.found.0 c.in_ok-folder.ensures.found.1 c.in_ok-query.ensures
