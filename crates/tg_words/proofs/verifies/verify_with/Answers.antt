use Rattle.std.proofs.Common.{Ok, Err, None, Some}
use Rattle.std.proofs.lemmas.Result.{err_from_is_err_and}
use Rattle.tg_words.specs.Operands.{QueryBy, VerifyIntoGiven, givens}
use Rattle.tg_words.specs.declared.Command.TheVariants.{Verify, VerifyInto}
use Rattle.tg_words.proofs.IntoAnswers.{made}
use Rattle.tg_words.proofs.VerifyAnswers.{verify_where}
use Rattle.tg_words.proofs.verifies.verify_with.Goals as goal

pub returns-in_err-into : goal.returns-in_err-into
returns-in_err-into c =
    let p = err_from_is_err_and c.from_residual.result c.from_residual.ensures.1 in
    rw (p.1, p.2)
    (verify_where c.args.target.now (givens c.args.options.now) (Some c.in-Some.folder.now) (Err c.in_err-into.field-0.0) c.in-Some.ensures
    (made VerifyInto (VerifyIntoGiven c.args.target.now c.in-Some.folder.now (givens c.args.options.now)) (Err c.in_err-into.field-0.0) c.in_err-into.ensures))

pub returns-in-Some : goal.returns-in-Some
returns-in-Some c =
    verify_where c.args.target.now (givens c.args.options.now) (Some c.in-Some.folder.now) (Ok (VerifyInto c.in_ok-into.into)) c.in-Some.ensures
    (made VerifyInto (VerifyIntoGiven c.args.target.now c.in-Some.folder.now (givens c.args.options.now)) (Ok c.in_ok-into.into) c.in_ok-into.ensures)

pub returns-in_err-query : goal.returns-in_err-query
returns-in_err-query c =
    let p = err_from_is_err_and c.from_residual-in_err-query.result c.from_residual-in_err-query.ensures.1 in
    rw (p.1, p.2)
    (verify_where c.args.target.now (givens c.args.options.now) None (Err c.in_err-query.field-0.0) c.in_default.ensures
    (made Verify (QueryBy c.args.target.now (givens c.args.options.now)) (Err c.in_err-query.field-0.0) c.in_err-query.ensures))

pub returns : goal.returns
returns c =
    verify_where c.args.target.now (givens c.args.options.now) None (Ok (Verify c.in_ok-query.query)) c.in_default.ensures
    (made Verify (QueryBy c.args.target.now (givens c.args.options.now)) (Ok c.in_ok-query.query) c.in_ok-query.ensures)
