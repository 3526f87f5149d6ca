use Rattle.std.proofs.Common.{[], inr, refl}
use Rattle.tg_client.specs.Telling.{telling}
use Rattle.tg_fetch.proofs.KeptCalls.{keeps_none}
use Rattle.tg_fetch.proofs.Fetching.{called_not}
use Rattle.tg_fetch.proofs.TellingCalls.{unheard_tells}
use Rattle.tg_links.specs.Steps.{link_step}
use Rattle.tg_fetch.proofs.calls.call.Goals as goal

pub returns-in-Err-clause-called : goal.returns-in-Err-clause-called
returns-in-Err-clause-called g c =
    called_not g.L.Link.link g.L.Source.source g.L.Sink.sink g.met.L.Link.says g.met.L.Link.one_count c.args.query.now c.args.limits c.args.addr.now
    (telling g.S.Sink.sink g.T.TellTerminal.wrote) c.args.link.now c.args.out.now (g.met.T.TellTerminal.puts c.args.out.now c.args.out.now [] (g.met.S.Sink.rests c.args.out.now))

pub returns-in-Err-clause-kept : goal.returns-in-Err-clause-kept
returns-in-Err-clause-kept g c =
    inr (keeps_none (telling g.S.Sink.sink g.T.TellTerminal.wrote) c.args.out.now (g.met.T.TellTerminal.puts c.args.out.now c.args.out.now [] (g.met.S.Sink.rests c.args.out.now))
    g.K.Keep.keeper c.args.keep.now (g.met.K.Keep.rests c.args.keep.now) _ tt)

pub returns-in-Err-clause-told : goal.returns-in-Err-clause-told
returns-in-Err-clause-told g c known =
    unheard_tells c.args.query.now c.args.limits (link_step g.L.Link.link g.L.Source.source c.args.link.now c.args.link.now) refl (g.T.TellTerminal.knows c.args.out.now) known _
