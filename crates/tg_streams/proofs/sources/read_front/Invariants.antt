use Rattle.std.proofs.Common.{◌≤◌, ◌-◌, length, take}
use Rattle.tg_streams.specs.Streams.{InputQuiet, Took, through}
use Rattle.tg_streams.proofs.sources.read_front.Given as goal

-- what was read stands in the front of the buffer
abbrev pub invariant-loop-filled : goal.invariant-loop-filled
invariant-loop-filled g l = record {
  within : l.filled ≤ length l.buffer;
  took : Took (take l.filled l.buffer) (through g.I.Source.source l.fn.source l.source);
  quiet : InputQuiet (through g.I.Source.source l.fn.source l.source);
}

abbrev pub decreases-loop-filled : goal.decreases-loop-filled
decreases-loop-filled g l = length l.initial.buffer - l.filled
