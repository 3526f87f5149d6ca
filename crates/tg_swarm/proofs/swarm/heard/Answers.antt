use Rattle.std.proofs.Common.{Err, Ok, subst, sym}
use Rattle.std.proofs.lemmas.Result.{err_from_is_err_and}
use Rattle.tg_swarm.proofs.Parting.{end_heard, end_refused, piece_heard}
use Rattle.tg_swarm.proofs.swarm.heard.Goals as goal
use Rattle.tg_swarm.specs.Said.{CallHeard}
use Rattle.tg_verify.specs.declared.verifier.Progress.TheVariants.{Done}

pub returns-in-Piece-clause-heard : goal.returns-in-Piece-clause-heard
returns-in-Piece-clause-heard c = λ heard.
    subst (λ e. CallHeard c.args.call.now
    (record { job = c.args.call.now.job; client = c.feed.new.self; text = c.feed.new.out }) heard e c.feed.result)
    (sym c.in-Piece.is)
    (piece_heard c.args.call.now c.feed.new.self c.feed.new.out heard c.in-Piece.piece c.feed.result c.feed.ensures.query c.feed.ensures.limits
    c.feed.ensures.refused c.feed.ensures.ends)

pub returns-in_ok-end-in-Ended-clause-heard : goal.returns-in_ok-end-in-Ended-clause-heard
returns-in_ok-end-in-Ended-clause-heard c = λ heard.
    subst (λ e. CallHeard c.args.call.now (record { job = c.args.call.now.job; client = c.end.new.self; text = c.end.new.out }) heard e (Ok Done))
    (sym c.in-Ended.is)
    (end_heard c.args.call.now c.end.new.self c.end.new.out heard c.end.result c.in_ok-end-in-Ended.field-0 c.in_ok-end-in-Ended.was
    c.end.ensures.query c.end.ensures.limits c.end.ensures.ends)

pub returns-in_err-end-in-Ended-clause-heard : goal.returns-in_err-end-in-Ended-clause-heard
returns-in_err-end-in-Ended-clause-heard c = λ heard.
    let p = err_from_is_err_and c.from_residual.result c.from_residual.ensures.1 in
    rw (p.1, p.2)
    (subst (λ e. CallHeard c.args.call.now
    (record { job = c.args.call.now.job; client = c.end.new.self; text = c.end.new.out }) heard e (Err c.in_err-end-in-Ended.field-0.0))
    (sym c.in-Ended.is)
    (end_refused c.args.call.now c.end.new.self c.end.new.out heard c.end.result c.in_err-end-in-Ended.field-0.0 c.in_err-end-in-Ended.was
    c.end.ensures.query c.end.ensures.limits c.end.ensures.ends))
