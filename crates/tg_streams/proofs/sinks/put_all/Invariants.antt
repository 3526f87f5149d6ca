use Rattle.std.proofs.Common.{◌≤◌, ◌-◌, length, take}
use Rattle.tg_streams.specs.Streams.{OutputQuiet, Put, into}
use Rattle.tg_streams.proofs.sinks.put_all.Given as goal

-- the front up to `at` went in, and no call failed
abbrev pub invariant-loop-at : goal.invariant-loop-at
invariant-loop-at g l = record {
  within : l.at ≤ length l.bytes;
  put : Put (take l.at l.bytes) (into g.S.Sink.sink l.fn.sink l.sink);
  quiet : OutputQuiet (into g.S.Sink.sink l.fn.sink l.sink);
}

abbrev pub decreases-loop-at : goal.decreases-loop-at
decreases-loop-at g l = length l.bytes - l.at
