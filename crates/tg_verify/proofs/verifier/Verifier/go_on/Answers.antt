use Rattle.std.proofs.Common.{Ok, Option, subst, ◌++◌}
use Rattle.std.proofs.lemmas.Result.{err_from_is_err_and}
use Rattle.tg_streams.specs.Streams.{into}
use Rattle.tg_verify.proofs.Turns.{gone_later, one_turn}
use Rattle.tg_verify.specs.History.{HasTurned}
use Rattle.tg_verify.specs.declared.verifier.Progress.{Progress}
use Rattle.tg_verify.proofs.verifier.Verifier.go_on.Goals as goal

pub returns-in_err-progress-clause-stands : goal.returns-in_err-progress-clause-stands
returns-in_err-progress-clause-stands g c sections written on =
    let p = err_from_is_err_and c.from_residual.result c.from_residual.ensures.1 in
    rw (p.1, p.2) (gone_later g.S.Sink.sink g.met.S.Sink.joins c.args.out.now c.loop-progress.out c.turn.new.out c.loop-progress.self c.turn.new.self sections written _
    (c.loop-progress.invariant.stands sections written on) (λ text. c.in_err-progress.ensures.stands sections text))

pub returns-in-Some-clause-stands : goal.returns-in-Some-clause-stands
returns-in-Some-clause-stands g c sections written on =
    gone_later g.S.Sink.sink g.met.S.Sink.joins c.args.out.now c.loop-progress.out c.turn.new.out c.loop-progress.self c.turn.new.self sections written (Ok c.in-Some.progress)
    (c.loop-progress.invariant.stands sections written on) (λ text mid.
    subst (λ (turned : Option Progress). HasTurned c.turn.new.self sections text (into g.S.Sink.sink c.loop-progress.out c.turn.new.out) (Ok turned)) c.in-Some.is
    (c.in_ok-progress.ensures.stands sections text mid))

pub loop-progress-preserved : goal.loop-progress-preserved
loop-progress-preserved g c =
    one_turn g.S.Sink.sink g.met.S.Sink.joins c.args.out.now c.loop-progress.out c.turn.new.out c.args.self.now c.loop-progress.self c.turn.new.self c.loop-progress.invariant
    c.in_ok-progress.ensures.same c.in_ok-progress.ensures.taken c.in_ok-progress.ensures.cause c.in_ok-progress.ensures.told (λ sections text mid.
    subst (λ (turned : Option Progress). HasTurned c.turn.new.self sections text (into g.S.Sink.sink c.loop-progress.out c.turn.new.out) (Ok turned)) c.in_default.is
    (c.in_ok-progress.ensures.stands sections text mid))

pub returns-in_err-progress-clause-terminal : goal.returns-in_err-progress-clause-terminal
returns-in_err-progress-clause-terminal g c sections written on =
    let mid = c.loop-progress.invariant.stands sections written on in c.in_err-progress.ensures.terminal sections (written ++ mid.text) mid.on

pub returns-in-Some-clause-terminal : goal.returns-in-Some-clause-terminal
returns-in-Some-clause-terminal g c sections written on =
    let mid = c.loop-progress.invariant.stands sections written on in c.in_ok-progress.ensures.terminal sections (written ++ mid.text) mid.on
