use Rattle.std.proofs.Common.{[], inr, refl}
use Rattle.tg_client.specs.Telling.{telling}
use Rattle.tg_fetch.proofs.TellingCalls.{called_tells, missed_tells}
use Rattle.tg_fetch.proofs.KeptCalls.{called_keeps, keeps_none}
use Rattle.tg_dials.specs.Dials.{at_dial}
use Rattle.tg_links.specs.Views.{view_of}
use Rattle.tg_model.specs.Stores.{kept_in}
use Rattle.std.proofs.lemmas.Result.{err_from_is_err_and}
use Rattle.tg_fetch.proofs.Fetching.{fetch_called, fetch_missed, hung_up}
use Rattle.tg_streams.specs.Streams.{into}
use Rattle.tg_fetch.proofs.calls.dialled.Goals as goal

pub returns-in_err-link-clause-ends : goal.returns-in_err-link-clause-ends
returns-in_err-link-clause-ends g c =
    let p = err_from_is_err_and c.from_residual.result c.from_residual.ensures.1 in
    rw (p.1, p.2)
    (fetch_missed g.D.Dial.dial (telling g.S.Sink.sink g.T.TellTerminal.wrote) c.args.query.now c.args.limits c.args.addr.now c.args.dial.now c.dial.new.self c.args.out.now c.in_err-link.field-0.0
    (g.met.T.TellTerminal.puts c.args.out.now c.args.out.now [] (g.met.S.Sink.rests c.args.out.now)) (c.dial.ensures.address _) c.in_err-link.ensures.dialled c.dial.ensures.calls)

pub returns-in_err-link-clause-cause : goal.returns-in_err-link-clause-cause
returns-in_err-link-clause-cause g c =
    let p = err_from_is_err_and c.from_residual.result c.from_residual.ensures.1 in
    rw (p.1, p.2) (refl, refl)

pub returns-clause-ends : goal.returns-clause-ends
returns-clause-ends g c =
    fetch_called g.D.Dial.dial g.D.Link.Link.link g.D.Link.Source.source c.args.dial.now c.dial.new.self c.done.new.self c.in_ok-link.link c.call-end.new.link
    c.in_ok-link.ensures.dialled c.dial.ensures.calls c.done.ensures.done c.done.ensures.missed c.done.ensures.coming c.args.query.now c.args.limits c.args.addr.now
    (into (telling g.S.Sink.sink g.T.TellTerminal.wrote) c.args.out.now c.call-end.new.out) c.call-end.result (c.done.ensures.address _ _ (c.dial.ensures.address _)) c.call-end.ensures.called

pub returns-in_err-link-clause-kept : goal.returns-in_err-link-clause-kept
returns-in_err-link-clause-kept g c =
    let p = err_from_is_err_and c.from_residual.result c.from_residual.ensures.1 in
    rw (p.1, p.2)
    (inr (keeps_none (telling g.S.Sink.sink g.T.TellTerminal.wrote) c.args.out.now (g.met.T.TellTerminal.puts c.args.out.now c.args.out.now [] (g.met.S.Sink.rests c.args.out.now))
    g.K.Keep.keeper c.args.keep.now (g.met.K.Keep.rests c.args.keep.now) _ tt))

pub returns-clause-kept : goal.returns-clause-kept
returns-clause-kept g c =
    called_keeps c.args.query.now c.args.limits (at_dial g.D.Dial.dial c.args.dial.now c.done.new.self) (view_of g.D.Link.Link.link g.D.Link.Source.source c.in_ok-link.link)
    (view_of g.D.Link.Link.link g.D.Link.Source.source c.call-end.new.link) c.in_ok-link.ensures.dialled.0.heard
    (hung_up g.D.Dial.dial g.D.Link.Link.link g.D.Link.Source.source c.args.dial.now c.dial.new.self c.done.new.self c.in_ok-link.link c.call-end.new.link
    c.in_ok-link.ensures.dialled c.dial.ensures.calls c.done.ensures.done c.done.ensures.missed c.done.ensures.coming)
    (into (telling g.S.Sink.sink g.T.TellTerminal.wrote) c.args.out.now c.call-end.new.out) (kept_in g.K.Keep.keeper c.args.keep.now c.call-end.new.keep) c.call-end.result c.call-end.ensures.kept

pub returns-in_err-link-clause-told : goal.returns-in_err-link-clause-told
returns-in_err-link-clause-told g c known =
    let p = err_from_is_err_and c.from_residual.result c.from_residual.ensures.1 in
    rw (p.1, p.2)
    (missed_tells c.args.query.now c.args.limits (at_dial g.D.Dial.dial c.args.dial.now c.dial.new.self) c.dial.ensures.calls (g.T.TellTerminal.knows c.args.out.now) known _)

pub returns-clause-told : goal.returns-clause-told
returns-clause-told g c known =
    called_tells c.args.query.now c.args.limits (at_dial g.D.Dial.dial c.args.dial.now c.done.new.self) (view_of g.D.Link.Link.link g.D.Link.Source.source c.in_ok-link.link)
    (view_of g.D.Link.Link.link g.D.Link.Source.source c.call-end.new.link) c.in_ok-link.ensures.dialled.0.heard
    (hung_up g.D.Dial.dial g.D.Link.Link.link g.D.Link.Source.source c.args.dial.now c.dial.new.self c.done.new.self c.in_ok-link.link c.call-end.new.link
    c.in_ok-link.ensures.dialled c.dial.ensures.calls c.done.ensures.done c.done.ensures.missed c.done.ensures.coming)
    (g.T.TellTerminal.knows c.call-end.new.out) c.call-end.result (c.call-end.ensures.told known)
