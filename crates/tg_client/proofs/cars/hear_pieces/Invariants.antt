-- what came so far
use Rattle.std.proofs.Common.{◌≡◌, ◌≤◌, ◌<◌, ◌-◌, None, length}
use Rattle.tg_client.proofs.Coming.{HasCome}
use Rattle.tg_client.specs.Telling.{telling}
use Rattle.tg_streams.specs.Streams.{InputQuiet, OutputQuiet, into, through}
use Rattle.tg_client.proofs.cars.hear_pieces.Given as goal

abbrev pub invariant-loop-filled : goal.invariant-loop-filled
invariant-loop-filled g l = record {
  room : 0 < length l.room;
  query : l.body.verifier.left.query ≡ l.fn.body.verifier.left.query;
  limits : l.body.verifier.limits ≡ l.fn.body.verifier.limits;
  fresh : l.body.verifier.refused ≡ None;
  unrefused : l.body.refused ≡ None;
  within : l.body.heard ≤ l.body.most;
  heard_quiet : InputQuiet (through g.I.Source.source l.fn.input l.input);
  put_quiet : OutputQuiet (into g.S.Sink.sink l.fn.out l.out);
  come : HasCome l.body (through g.I.Source.source l.fn.input l.input) (into (telling g.S.Sink.sink g.T.TellTerminal.wrote) l.fn.out l.out);
  told : g.T.TellTerminal.knows l.fn.out None → g.T.TellTerminal.knows l.out l.body.verifier.terminal;
}

abbrev pub decreases-loop-filled : goal.decreases-loop-filled
decreases-loop-filled g l = l.body.most - l.body.heard
