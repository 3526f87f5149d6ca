use Rattle.std.proofs.Common.{Err, Ok}
use Rattle.std.proofs.lemmas.Result.{err_from_is_err_and}
use Rattle.tg_words.proofs.Lines.{check_answer}
use Rattle.tg_words.proofs.check.Goals as goal

pub returns-in_err-one_cid : goal.returns-in_err-one_cid
returns-in_err-one_cid c =
    let p = err_from_is_err_and c.from_residual.result c.from_residual.ensures.1 in
    rw (p.1, p.2) (check_answer _ (Err c.in_err-one_cid.field-0.0) (record { found = tt; only = c.in_err-one_cid.ensures.only }))

pub returns : goal.returns
returns c = check_answer _ (Ok c.in_ok-one_cid.field-0) (record { found = c.in_ok-one_cid.ensures.found; only = c.in_ok-one_cid.ensures.only })
