-- By what `from_prefix` answered.
use Rattle.std.proofs.Common.{ap, sym, ◌∙◌, subst, Err}
use Rattle.std.proofs.lemmas.Result.{err_from_is_err_and}
use Rattle.tg_cid.proofs.Whole.{WholeAnswers, whole_err, whole_trailed, whole_ok}
use Rattle.tg_cid.proofs.cid.Cid.from_bytes.Goals as goal

pub returns-in_err-cid : goal.returns-in_err-cid
returns-in_err-cid c =
    let bytes = c.args.bytes.now in
    let p = err_from_is_err_and c.from_residual.result c.from_residual.ensures.1 in
    let e = c.in_err-cid.ensures in
    let w = whole_err bytes c.in_err-cid.field-0.0 (record { found = e.found; only = e.only; cause = e.cause; given = e.given }) in
    let a = subst (WholeAnswers bytes) (sym (p.1 ∙ ap Err p.2)) w in
    record { found = a.found; only = a.only; cause = a.cause; given = a.given }

pub returns-then-length-bytes : goal.returns-then-length-bytes
returns-then-length-bytes c =
    let e = c.in_ok-cid.ensures in
    let a = whole_trailed c.args.bytes.now c.in_ok-cid.cid c.in_ok-cid.length
    (record { found = e.found; only = e.only; cause = e.cause; given = e.given }) c.if-length-bytes.true in
    record { found = a.found; only = a.only; cause = a.cause; given = a.given }

pub returns : goal.returns
returns c =
    let e = c.in_ok-cid.ensures in
    let a = whole_ok c.args.bytes.now c.in_ok-cid.cid c.in_ok-cid.length
    (record { found = e.found; only = e.only; cause = e.cause; given = e.given }) c.if-length-bytes.false in
    record { found = a.found; only = a.only; cause = a.cause; given = a.given }
