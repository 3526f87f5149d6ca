use Rattle.std.proofs.Common.{length, inl, inr, refl}
use Rattle.std.proofs.lemmas.Result.{err_from_is_err_and}
use Rattle.tg_http.proofs.Grammar.{whole_request}
use Rattle.tg_http.proofs.Answering.{no_request, same_parts}
use Rattle.tg_http.proofs.request.whole_request.Goals as goal

pub returns-in_err-told-in-Ok-Complete : goal.returns-in_err-told-in-Ok-Complete
returns-in_err-told-in-Ok-Complete c =
    let p = err_from_is_err_and c.from_residual.result c.from_residual.ensures.1 in
    let at = (rw c.in-Ok-Complete.field-0-is at c.in-Ok-Complete.ensures.complete) in
    let whole = whole_request c.args.text.now _ at.0 c.requires.0 c.requires.1 at.1.reads in
    rw p.1 (inl (p.2, (at.0, whole.0)))

pub returns-in_ok-told-in-Ok-Complete : goal.returns-in_ok-told-in-Ok-Complete
returns-in_ok-told-in-Ok-Complete c =
    let at = (rw c.in-Ok-Complete.field-0-is at c.in-Ok-Complete.ensures.complete) in
    let whole = whole_request c.args.text.now _ at.0 c.requires.0 c.requires.1 at.1.reads in
    (at.0, whole.0, same_parts (length c.args.text.now) _ _ _ _ _ _ _ _ c.in_ok-told-in-Ok-Complete.field-0 at.1.method at.1.path at.1.version at.1.fields c.in_ok-told-in-Ok-Complete.ensures)

pub returns-in-Ok-Partial : goal.returns-in-Ok-Partial
returns-in-Ok-Partial c = inr (refl, no_request c.args.text.now c.requires (rw c.in-Ok-Partial.field-0-is at c.in-Ok-Partial.ensures.found))

pub returns-in-Err : goal.returns-in-Err
returns-in-Err c = inr (refl, no_request c.args.text.now c.requires c.in-Err.ensures.found)
