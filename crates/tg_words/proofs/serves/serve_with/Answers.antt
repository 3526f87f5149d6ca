use Rattle.std.proofs.lemmas.Result.{err_from_is_err_and}
use Rattle.tg_words.specs.Operands.{ServeGiven, givens}
use Rattle.tg_words.proofs.Positional.{exact_err}
use Rattle.tg_words.proofs.serves.serve_with.Goals as goal

pub returns-in_err-lanes : goal.returns-in_err-lanes
returns-in_err-lanes c =
    let p = err_from_is_err_and c.from_residual-in_err-lanes.result c.from_residual-in_err-lanes.ensures.1 in
    rw (p.1, p.2) (exact_err _ (ServeGiven c.args.pack.now (givens c.args.options.now)) _ c.in_err-lanes.ensures (λ parts is. (parts.lanes, is.lanes)))
