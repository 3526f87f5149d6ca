use Rattle.std.proofs.Common.{[], subst}
use Rattle.std.proofs.lemmas.Result.{err_from_is_err_and}
use Rattle.tg_model.specs.LimitNumbers.{LimitNumbers}
use Rattle.tg_model.specs.Queries.{QueryParts}
use Rattle.tg_streams.specs.Joining.{put_nothing, took_nothing}
use Rattle.tg_streams.specs.Streams.{into, through}
use Rattle.tg_client.specs.Body.{IsVerified}
use Rattle.tg_client.specs.Telling.{HasTold, telling}
use Rattle.tg_client.proofs.Hearing.{none_heard}
use Rattle.tg_client.proofs.Tellers.{told_nothing}
use Rattle.tg_client.proofs.cars.hear.Goals as goal

pub returns-in_err-room-clause-verifies : goal.returns-in_err-room-clause-verifies
returns-in_err-room-clause-verifies g c =
    let p = err_from_is_err_and c.from_residual.result c.from_residual.ensures.1 in
    rw (p.1, p.2)
    (none_heard c.spelling_laws.ensures c.verified_answers.ensures c.args.query.now c.args.limits (through g.I.Source.source c.args.input.now c.args.input.now)
    (into (telling g.S.Sink.sink g.T.TellTerminal.wrote) c.args.out.now c.args.out.now) (took_nothing _ g.I.Source.source c.args.input.now (g.met.I.Source.rests c.args.input.now))
    (put_nothing _ (telling g.S.Sink.sink g.T.TellTerminal.wrote) c.args.out.now (g.met.T.TellTerminal.puts c.args.out.now c.args.out.now [] (g.met.S.Sink.rests c.args.out.now))))

pub returns-in_err-body-clause-verifies : goal.returns-in_err-body-clause-verifies
returns-in_err-body-clause-verifies g c =
    let p = err_from_is_err_and c.from_residual-in_err-body.result c.from_residual-in_err-body.ensures.1 in
    rw (p.1, p.2)
    (none_heard c.spelling_laws.ensures c.verified_answers.ensures c.args.query.now c.args.limits (through g.I.Source.source c.args.input.now c.args.input.now)
    (into (telling g.S.Sink.sink g.T.TellTerminal.wrote) c.args.out.now c.args.out.now) (took_nothing _ g.I.Source.source c.args.input.now (g.met.I.Source.rests c.args.input.now))
    (put_nothing _ (telling g.S.Sink.sink g.T.TellTerminal.wrote) c.args.out.now (g.met.T.TellTerminal.puts c.args.out.now c.args.out.now [] (g.met.S.Sink.rests c.args.out.now))))

pub returns-clause-verifies : goal.returns-clause-verifies
returns-clause-verifies g c =
    let input = through g.I.Source.source c.args.input.now c.hear_pieces.new.input in
    let out = into (telling g.S.Sink.sink g.T.TellTerminal.wrote) c.args.out.now c.hear_pieces.new.out in
    subst (λ (n : LimitNumbers). IsVerified c.args.query.now n input out c.hear_pieces.result) c.in_ok-body.ensures.limits
    (subst (λ (q : QueryParts). IsVerified q c.in_ok-body.body.verifier.limits input out c.hear_pieces.result) c.in_ok-body.ensures.query
    c.hear_pieces.ensures.verifies)

pub returns-in_err-room-clause-told : goal.returns-in_err-room-clause-told
returns-in_err-room-clause-told g c known =
    let p = err_from_is_err_and c.from_residual.result c.from_residual.ensures.1 in
    rw (p.1, p.2)
    (told_nothing c.args.query.now c.args.limits (through g.I.Source.source c.args.input.now c.args.input.now) (g.T.TellTerminal.knows c.args.out.now) c.spelling_laws.ensures _
    (took_nothing _ g.I.Source.source c.args.input.now (g.met.I.Source.rests c.args.input.now)) known)

pub returns-in_err-body-clause-told : goal.returns-in_err-body-clause-told
returns-in_err-body-clause-told g c known =
    let p = err_from_is_err_and c.from_residual-in_err-body.result c.from_residual-in_err-body.ensures.1 in
    rw (p.1, p.2)
    (told_nothing c.args.query.now c.args.limits (through g.I.Source.source c.args.input.now c.args.input.now) (g.T.TellTerminal.knows c.args.out.now) c.spelling_laws.ensures _
    (took_nothing _ g.I.Source.source c.args.input.now (g.met.I.Source.rests c.args.input.now)) known)

pub returns-clause-told : goal.returns-clause-told
returns-clause-told g c known =
    let input = through g.I.Source.source c.args.input.now c.hear_pieces.new.input in
    let knows = g.T.TellTerminal.knows c.hear_pieces.new.out in
    subst (λ (n : LimitNumbers). HasTold c.args.query.now n input knows c.hear_pieces.result) c.in_ok-body.ensures.limits
    (subst (λ (q : QueryParts). HasTold q c.in_ok-body.body.verifier.limits input knows c.hear_pieces.result) c.in_ok-body.ensures.query
    (c.hear_pieces.ensures.told known))
