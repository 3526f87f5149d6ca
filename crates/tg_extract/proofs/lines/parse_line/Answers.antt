use Rattle.std.proofs.Common.{◌≡◌}
use Rattle.std.proofs.lemmas.Result.{err_from_is_err_and}
use Rattle.tg_extract.proofs.LineTexts.{no_file, no_line, no_link}
use Rattle.tg_extract.proofs.lines.parse_line.Goals as goal

pub returns-in_err-size-clause-bad : goal.returns-in_err-size-clause-bad
returns-in_err-size-clause-bad c = λ bad.
    let p = err_from_is_err_and c.from_residual-in_err-size.result c.from_residual-in_err-size.ensures.1 in
    let from : p.0 ≡ c.in_err-size.field-0.0 = p.2 in
    let is = p.1 in
    no_file c.args.text.now c.in-Some-behind.rest.now c.in-Some-behind.ensures (c.in_err-size.ensures.bad (cc))

pub returns-in_err-size-2-clause-bad : goal.returns-in_err-size-2-clause-bad
returns-in_err-size-2-clause-bad c = λ bad.
    let p = err_from_is_err_and c.from_residual-in_err-size-2.result c.from_residual-in_err-size-2.ensures.1 in
    let from : p.0 ≡ c.in_err-size-2.field-0.0 = p.2 in
    let is = p.1 in
    no_link c.args.text.now c.in-Some-behind-2.rest.now c.in-Some-behind-2.ensures (c.in_err-size-2.ensures.bad (cc))

pub returns-clause-bad : goal.returns-clause-bad
returns-clause-bad c = λ bad. no_line c.args.text.now c.in_default.ensures c.in_default-behind.ensures c.in_default-behind-2.ensures
