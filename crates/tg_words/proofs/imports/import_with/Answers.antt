use Rattle.std.proofs.Common.{rules}
use Rattle.std.proofs.lemmas.Result.{err_from_is_err_and}
use Rattle.tg_words.specs.Operands.{ImportGiven, givens}
use Rattle.tg_words.proofs.ImportAnswers.{import_found}
use Rattle.tg_words.proofs.Positional.{exact_err}
use Rattle.tg_words.proofs.imports.import_with.Goals as goal

pub returns-in_err-chunk : goal.returns-in_err-chunk
returns-in_err-chunk c =
    let p = err_from_is_err_and c.from_residual-in_err-chunk.result c.from_residual-in_err-chunk.ensures.1 in
    rw (p.1, p.2)
    (exact_err _ (ImportGiven c.args.folder.now c.args.pack.now (givens c.args.options.now)) _ c.in_err-chunk.ensures
    (λ parts is. ((parts.chunk, parts.width, parts.shard), (is.chunk, is.width, is.shard))))

pub returns : goal.returns
returns c =
    import_found c.args.folder.now c.args.pack.now (givens c.args.options.now) _ c.in_ok-chunk.shard c.in_ok-folder.ensures.found.0 c.in_ok-folder.ensures.found.1
    c.in_ok-pack.ensures.found.0 c.in_ok-pack.ensures.found.1 (search rules) c.in_ok-chunk.ensures
