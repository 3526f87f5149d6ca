use Rattle.std.proofs.Common.{Ok, Err, ap}
use Rattle.std.proofs.lemmas.Result.{err_from_is_err_and}
use Rattle.tg_words.specs.Operands.{givens}
use Rattle.tg_words.specs.ImportLines.{import_names}
use Rattle.tg_words.proofs.ImportAnswers.{import_form}
use Rattle.tg_words.proofs.Lines.{import_lines}
use Rattle.tg_words.proofs.Positional.{answered, no_operands, two_only}
use Rattle.tg_words.proofs.imports.import_of.Goals as goal

pub returns-in_err-folder : goal.returns-in_err-folder
returns-in_err-folder c =
    let p = err_from_is_err_and c.from_residual.result c.from_residual.ensures.1 in
    rw (p.1, p.2) (no_operands import_form _ _ import_lines (λ pair options s. c.in_err-folder.ensures.only pair.0 pair.1 options s))

pub returns-in_err-import : goal.returns-in_err-import
returns-in_err-import c =
    let p = err_from_is_err_and c.from_residual-in_err-import.result c.from_residual-in_err-import.ensures.1 in
    rw (p.1, p.2)
    (answered import_form _ (c.in_ok-folder.folder.now, c.in_ok-folder.pack.now) _ _ (Err c.in_err-import.field-0.0) import_lines (ap givens c.as_slice.ensures.value)
    c.in_ok-folder.ensures.found (two_only import_names _ _ _ _ c.in_ok-folder.ensures.only) c.in_err-import.ensures)

pub returns : goal.returns
returns c =
    answered import_form _ (c.in_ok-folder.folder.now, c.in_ok-folder.pack.now) _ _ (Ok c.in_ok-import.import) import_lines (ap givens c.as_slice.ensures.value)
    c.in_ok-folder.ensures.found (two_only import_names _ _ _ _ c.in_ok-folder.ensures.only) c.in_ok-import.ensures
