use Rattle.std.proofs.Common.{map, string_bytes}
use Rattle.tg_swarming.proofs.Stepping.{HasCome}
use Rattle.tg_swarming.specs.Counts.{KeepsCount, open_count}
use Rattle.tg_swarming.specs.Rounds.{AreLinked, GoOn, HasAddrs, IsUnended, meanings, moment_of}
use Rattle.tg_swarming.proofs.rounds.round.Given as goal

-- what ran at the beginning runs, as many links are told of, and more is wanted
abbrev pub invariant-loop-peer : goal.invariant-loop-peer
invariant-loop-peer g l = record {
  goes : GoOn (meanings g.D.Dial.dial g.D.Link.Link.link g.D.Link.Source.source g.S.Sink.sink) (HasAddrs (map string_bytes l.fn.addrs))
      (moment_of l.fn.swarm l.fn.lines l.fn.dial l.fn.out) (moment_of l.swarm l.lines l.dial l.out);
  count : KeepsCount g.D.Dial.dial l.fn.dial (open_count l.fn.lines) l.dial (open_count l.lines);
  linked : AreLinked l.swarm l.lines;
  unended : IsUnended l.swarm;
  come : HasCome l.waits l.fn.swarm l.swarm l.peer;
}
