use Rattle.std.proofs.Common.{List, [], ℕ, ◌∙◌, refl, subst}
use Rattle.std.proofs.lemmas.Result.{err_from_is_err_and}
use Rattle.tg_fetch.proofs.Fetching.{called_front, called_not, called_whole}
use Rattle.std.proofs.Common.{inr}
use Rattle.tg_fetch.proofs.KeptCalls.{asked_keeps, keeps_none}
use Rattle.tg_client.specs.Telling.{telling}
use Rattle.tg_fetch.proofs.TellingCalls.{asked_tells, unheard_tells}
use Rattle.tg_links.specs.Steps.{link_step}
use Rattle.tg_model.specs.Stores.{kept_in}
use Rattle.tg_streams.specs.Streams.{Put, PutFront, into}
use Rattle.tg_fetch.proofs.calls.ask.Goals as goal

pub returns-in_err-request-clause-called : goal.returns-in_err-request-clause-called
returns-in_err-request-clause-called g c =
    let p = err_from_is_err_and c.from_residual.result c.from_residual.ensures.1 in
    rw (p.1, p.2)
    (called_not g.L.Link.link g.L.Source.source g.L.Sink.sink g.met.L.Link.says g.met.L.Link.one_count c.args.client.now.query c.args.client.now.limits
    c.args.addr.now (telling g.S.Sink.sink g.T.TellTerminal.wrote) c.args.link.now c.args.out.now (g.met.T.TellTerminal.puts c.args.out.now c.args.out.now [] (g.met.S.Sink.rests c.args.out.now)))

pub returns-in_err-request-clause-cause : goal.returns-in_err-request-clause-cause
returns-in_err-request-clause-cause g c =
    let p = err_from_is_err_and c.from_residual.result c.from_residual.ensures.1 in
    rw (p.1, p.2) (refl, refl)

pub returns-in_err-put_all-clause-called : goal.returns-in_err-put_all-clause-called
returns-in_err-put_all-clause-called g c =
    let p = err_from_is_err_and c.from_residual-in_err-put_all.result c.from_residual-in_err-put_all.ensures.1 in
    rw (p.1, p.2)
    (called_front g.L.Link.link g.L.Source.source g.L.Sink.sink g.met.L.Link.says g.met.L.Link.one_count c.args.client.now.query c.args.client.now.limits
    c.args.addr.now (telling g.S.Sink.sink g.T.TellTerminal.wrote) c.args.link.now c.put_all.new.sink c.args.out.now (g.met.T.TellTerminal.puts c.args.out.now c.args.out.now [] (g.met.S.Sink.rests c.args.out.now))
    (subst (λ (l : List ℕ). PutFront l (into g.L.Sink.sink c.args.link.now c.put_all.new.sink)) (c.as_slice.ensures ∙ c.in_ok-request.ensures) c.in_err-put_all.ensures.err_front))

pub returns-in_err-put_all-clause-cause : goal.returns-in_err-put_all-clause-cause
returns-in_err-put_all-clause-cause g c =
    let p = err_from_is_err_and c.from_residual-in_err-put_all.result c.from_residual-in_err-put_all.ensures.1 in
    rw (p.1, p.2) (refl, refl)

pub returns-clause-called : goal.returns-clause-called
returns-clause-called g c =
    called_whole g.L.Link.link g.L.Source.source g.L.Sink.sink g.met.L.Link.says g.met.L.Link.one_count c.args.client.now.query c.args.client.now.limits
    c.args.addr.now c.args.link.now c.put_all.new.sink c.hear.new.link c.in_ok-put_all.ensures.quiet (into (telling g.S.Sink.sink g.T.TellTerminal.wrote) c.args.out.now c.hear.new.out)
    c.hear.result
    (subst (λ (l : List ℕ). Put l (into g.L.Sink.sink c.args.link.now c.put_all.new.sink)) (c.as_slice.ensures ∙ c.in_ok-request.ensures) c.in_ok-put_all.ensures.put)
    c.hear.ensures.heard

pub returns-in_err-request-clause-kept : goal.returns-in_err-request-clause-kept
returns-in_err-request-clause-kept g c =
    let p = err_from_is_err_and c.from_residual.result c.from_residual.ensures.1 in
    rw (p.1, p.2)
    (inr (keeps_none (telling g.S.Sink.sink g.T.TellTerminal.wrote) c.args.out.now (g.met.T.TellTerminal.puts c.args.out.now c.args.out.now [] (g.met.S.Sink.rests c.args.out.now))
    g.K.Keep.keeper c.args.keep.now (g.met.K.Keep.rests c.args.keep.now) _ tt))

pub returns-in_err-put_all-clause-kept : goal.returns-in_err-put_all-clause-kept
returns-in_err-put_all-clause-kept g c =
    let p = err_from_is_err_and c.from_residual-in_err-put_all.result c.from_residual-in_err-put_all.ensures.1 in
    rw (p.1, p.2)
    (inr (keeps_none (telling g.S.Sink.sink g.T.TellTerminal.wrote) c.args.out.now (g.met.T.TellTerminal.puts c.args.out.now c.args.out.now [] (g.met.S.Sink.rests c.args.out.now))
    g.K.Keep.keeper c.args.keep.now (g.met.K.Keep.rests c.args.keep.now) _ tt))

pub returns-clause-kept : goal.returns-clause-kept
returns-clause-kept g c =
    asked_keeps g.L.Link.link g.L.Source.source g.L.Sink.sink g.met.L.Link.says c.args.client.now.query c.args.client.now.limits c.args.link.now c.put_all.new.sink c.hear.new.link
    _ c.in_ok-put_all.ensures.put.moved (into (telling g.S.Sink.sink g.T.TellTerminal.wrote) c.args.out.now c.hear.new.out) (kept_in g.K.Keep.keeper c.args.keep.now c.hear.new.keep) c.hear.result c.hear.ensures.kept

pub returns-in_err-request-clause-told : goal.returns-in_err-request-clause-told
returns-in_err-request-clause-told g c known =
    let p = err_from_is_err_and c.from_residual.result c.from_residual.ensures.1 in
    rw (p.1, p.2)
    (unheard_tells c.args.client.now.query c.args.client.now.limits (link_step g.L.Link.link g.L.Source.source c.args.link.now c.args.link.now) refl (g.T.TellTerminal.knows c.args.out.now) known _)

pub returns-in_err-put_all-clause-told : goal.returns-in_err-put_all-clause-told
returns-in_err-put_all-clause-told g c known =
    let p = err_from_is_err_and c.from_residual-in_err-put_all.result c.from_residual-in_err-put_all.ensures.1 in
    rw (p.1, p.2)
    (unheard_tells c.args.client.now.query c.args.client.now.limits (link_step g.L.Link.link g.L.Source.source c.args.link.now c.put_all.new.sink)
    (g.met.L.Link.says c.args.link.now c.put_all.new.sink _ c.in_err-put_all.ensures.err_front.put.moved).heard (g.T.TellTerminal.knows c.args.out.now) known _)

pub returns-clause-told : goal.returns-clause-told
returns-clause-told g c known =
    asked_tells g.L.Link.link g.L.Source.source g.L.Sink.sink g.met.L.Link.says c.args.client.now.query c.args.client.now.limits c.args.link.now c.put_all.new.sink c.hear.new.link
    _ c.in_ok-put_all.ensures.put.moved (g.T.TellTerminal.knows c.hear.new.out) c.hear.result (c.hear.ensures.told known)
