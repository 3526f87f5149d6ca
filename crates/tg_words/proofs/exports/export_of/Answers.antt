use Rattle.std.proofs.Common.{Ok, Err, refl, ap}
use Rattle.std.proofs.lemmas.Result.{err_from_is_err_and}
use Rattle.tg_words.specs.Operands.{ExportGiven, givens}
use Rattle.tg_words.specs.QueryWords.{query_names}
use Rattle.tg_words.proofs.ExportAnswers.{export_form, export_found}
use Rattle.tg_words.proofs.Lines.{export_lines}
use Rattle.tg_words.proofs.Positional.{answered, exact_err, no_operands, two_only}
use Rattle.tg_words.proofs.exports.export_of.Goals as goal

pub returns-in_err-pack : goal.returns-in_err-pack
returns-in_err-pack c =
    let p = err_from_is_err_and c.from_residual.result c.from_residual.ensures.1 in
    rw (p.1, p.2) (no_operands export_form _ _ export_lines (λ pair options s. c.in_err-pack.ensures.only pair.0 pair.1 options s))

pub returns-in_err-named : goal.returns-in_err-named
returns-in_err-named c =
    let p = err_from_is_err_and c.from_residual-in_err-named.result c.from_residual-in_err-named.ensures.1 in
    rw (p.1, p.2)
    (answered export_form _ (c.in_ok-pack.pack.now, c.in_ok-pack.target.now) _ _ (Err c.in_err-named.field-0.0) export_lines refl
    c.in_ok-pack.ensures.found (two_only query_names _ _ _ _ c.in_ok-pack.ensures.only)
    (record { found = tt; only = λ parts is. c.in_err-named.ensures.only is.named }))

pub returns-in_err-query_with : goal.returns-in_err-query_with
returns-in_err-query_with c =
    let p = err_from_is_err_and c.from_residual-in_err-query_with.result c.from_residual-in_err-query_with.ensures.1 in
    rw (p.1, p.2)
    (answered export_form _ (c.in_ok-pack.pack.now, c.in_ok-pack.target.now) _ (givens c.as_slice.result.now) (Err c.in_err-query_with.field-0.0) export_lines (ap givens c.as_slice.ensures.value)
    c.in_ok-pack.ensures.found (two_only query_names _ _ _ _ c.in_ok-pack.ensures.only)
    (exact_err _ (ExportGiven c.in_ok-pack.pack.now c.in_ok-pack.target.now (givens c.as_slice.result.now)) _ c.in_err-query_with.ensures (λ parts is. (parts.query, is.query))))

pub returns : goal.returns
returns c =
    answered export_form _ (c.in_ok-pack.pack.now, c.in_ok-pack.target.now) _ (givens c.as_slice.result.now) (Ok _) export_lines (ap givens c.as_slice.ensures.value)
    c.in_ok-pack.ensures.found (two_only query_names _ _ _ _ c.in_ok-pack.ensures.only)
    (export_found c.in_ok-pack.pack.now c.in_ok-pack.target.now (givens c.as_slice.result.now) _ c.in_ok-named.ensures.found.0 c.in_ok-named.ensures.found.1 c.in_ok-query_with.ensures)
