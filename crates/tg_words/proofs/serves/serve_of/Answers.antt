use Rattle.std.proofs.Common.{Ok, Err, ap}
use Rattle.std.proofs.lemmas.Result.{err_from_is_err_and}
use Rattle.tg_words.specs.Operands.{givens}
use Rattle.tg_words.proofs.Lines.{serve_lines}
use Rattle.tg_words.proofs.Positional.{answered, no_operands}
use Rattle.tg_words.proofs.ServeAnswers.{serve_form}
use Rattle.tg_words.proofs.serves.serve_of.Goals as goal

pub returns-in_err-pack : goal.returns-in_err-pack
returns-in_err-pack c =
    let p = err_from_is_err_and c.from_residual.result c.from_residual.ensures.1 in
    rw (p.1, p.2) (no_operands serve_form _ _ serve_lines c.in_err-pack.ensures.only)

pub returns-in_err-serve : goal.returns-in_err-serve
returns-in_err-serve c =
    let p = err_from_is_err_and c.from_residual-in_err-serve.result c.from_residual-in_err-serve.ensures.1 in
    rw (p.1, p.2)
    (answered serve_form _ c.in_ok-pack.pack.now _ _ (Err c.in_err-serve.field-0.0) serve_lines (ap givens c.as_slice.ensures.value)
    c.in_ok-pack.ensures.found c.in_ok-pack.ensures.only c.in_err-serve.ensures)

pub returns : goal.returns
returns c =
    answered serve_form _ c.in_ok-pack.pack.now _ _ (Ok c.in_ok-serve.serve) serve_lines (ap givens c.as_slice.ensures.value)
    c.in_ok-pack.ensures.found c.in_ok-pack.ensures.only c.in_ok-serve.ensures
