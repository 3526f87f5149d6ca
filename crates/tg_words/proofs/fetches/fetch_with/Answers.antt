use Rattle.std.proofs.Common.{Ok, Err, Some, true≢false, sym}
use Rattle.std.proofs.lemmas.Result.{err_from_is_err_and}
use Rattle.tg_words.specs.Operands.{FetchIntoGiven, givens}
use Rattle.tg_words.specs.declared.Command.TheVariants.{FetchInto}
use Rattle.tg_words.proofs.FetchAnswers.{addr_refused, fetch_where}
use Rattle.tg_words.proofs.IntoAnswers.{made}
use Rattle.tg_words.proofs.fetches.fetch_with.Goals as goal

pub returns-then-not-is_addr : goal.returns-then-not-is_addr
returns-then-not-is_addr c = addr_refused c.args.addr.now c.args.target.now (givens c.args.options.now) (λ addr. true≢false (sym (c.if-not-is_addr.ensures.1 addr)))

pub returns-in_err-into : goal.returns-in_err-into
returns-in_err-into c =
    let p = err_from_is_err_and c.from_residual.result c.from_residual.ensures.1 in
    rw (p.1, p.2)
    (fetch_where c.args.addr.now c.args.target.now (givens c.args.options.now) (Some c.in-Some.folder.now) (Err c.in_err-into.field-0.0) c.in-Some.ensures
    (made FetchInto (FetchIntoGiven c.args.addr.now c.args.target.now c.in-Some.folder.now (givens c.args.options.now)) (Err c.in_err-into.field-0.0) c.in_err-into.ensures))

pub returns-in-Some : goal.returns-in-Some
returns-in-Some c =
    fetch_where c.args.addr.now c.args.target.now (givens c.args.options.now) (Some c.in-Some.folder.now) (Ok (FetchInto c.in_ok-into.into)) c.in-Some.ensures
    (made FetchInto (FetchIntoGiven c.args.addr.now c.args.target.now c.in-Some.folder.now (givens c.args.options.now)) (Ok c.in_ok-into.into) c.in_ok-into.ensures)
