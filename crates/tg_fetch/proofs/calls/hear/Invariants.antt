-- what was heard and put so far, for which the client stands
use Rattle.std.proofs.Common.{◌<◌, ◌-◌, [], None, length}
use Rattle.tg_client.specs.Telling.{telling}
use Rattle.tg_fetch.proofs.Calling.{HasHeard}
use Rattle.tg_fetch.specs.KeepingSteps.{StandsKeeping}
use Rattle.tg_fetch.specs.Telling.{Tells, terminal_of}
use Rattle.tg_links.specs.Steps.{link_step}
use Rattle.tg_model.specs.Stores.{kept_in}
use Rattle.tg_streams.specs.Streams.{into}
use Rattle.tg_fetch.proofs.calls.hear.Given as goal

abbrev pub invariant-loop-size : goal.invariant-loop-size
invariant-loop-size g l = record {
  room : 0 < length l.room;
  heard : HasHeard l.fn.client.query l.fn.client.limits l.client (link_step g.L.Link.link g.L.Source.source l.fn.link l.link)
      (into (telling g.S.Sink.sink g.T.TellTerminal.wrote) l.fn.out l.out);
  keeps : StandsKeeping l.fn.client.query l.fn.client.limits heard.heard [] (kept_in g.K.Keep.keeper l.fn.keep l.keep);
  told : g.T.TellTerminal.knows l.fn.out None → g.T.TellTerminal.knows l.out (terminal_of l.client);
  tells : Tells l.client heard.heard;
}

abbrev pub decreases-loop-size : goal.decreases-loop-size
decreases-loop-size g l = l.client.limits.received - l.client.heard
