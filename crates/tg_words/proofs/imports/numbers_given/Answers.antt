use Rattle.std.proofs.Common.{Err, Ok}
use Rattle.std.proofs.lemmas.Result.{err_from_is_err_and}
use Rattle.tg_words.specs.Operands.{givens}
use Rattle.tg_words.proofs.ImportAnswers.{NumbersGiven, number_at, three_numbers}
use Rattle.tg_words.proofs.Positional.{exact_err}
use Rattle.tg_words.proofs.imports.numbers_given.Goals as goal

pub returns-in_err-chunk : goal.returns-in_err-chunk
returns-in_err-chunk c =
    let p = err_from_is_err_and c.from_residual.result c.from_residual.ensures.1 in
    let refused = number_at _ _ _ _ _ (Err c.in_err-chunk.field-0.0) c.value_of.ensures c.in_err-chunk.ensures in
    rw (p.1, p.2) (exact_err _ (NumbersGiven (givens c.args.options.now)) _ refused (λ numbers is. (numbers.0, is.0)))

pub returns-in_err-width : goal.returns-in_err-width
returns-in_err-width c =
    let p = err_from_is_err_and c.from_residual-in_err-width.result c.from_residual-in_err-width.ensures.1 in
    let refused = number_at _ _ _ _ _ (Err c.in_err-width.field-0.0) c.value_of-2.ensures c.in_err-width.ensures in
    rw (p.1, p.2) (exact_err _ (NumbersGiven (givens c.args.options.now)) _ refused (λ numbers is. (numbers.1, is.1)))

pub returns-in_err-shard : goal.returns-in_err-shard
returns-in_err-shard c =
    let p = err_from_is_err_and c.from_residual-in_err-shard.result c.from_residual-in_err-shard.ensures.1 in
    let refused = number_at _ _ _ _ _ (Err c.in_err-shard.field-0.0) c.value_of-3.ensures c.in_err-shard.ensures in
    rw (p.1, p.2) (exact_err _ (NumbersGiven (givens c.args.options.now)) _ refused (λ numbers is. (numbers.2, is.2)))

pub returns : goal.returns
returns c =
    three_numbers (givens c.args.options.now) c.in_ok-chunk.chunk c.in_ok-width.width c.in_ok-shard.shard
    (number_at _ _ _ _ _ (Ok c.in_ok-chunk.chunk) c.value_of.ensures c.in_ok-chunk.ensures)
    (number_at _ _ _ _ _ (Ok c.in_ok-width.width) c.value_of-2.ensures c.in_ok-width.ensures)
    (number_at _ _ _ _ _ (Ok c.in_ok-shard.shard) c.value_of-3.ensures c.in_ok-shard.ensures)
