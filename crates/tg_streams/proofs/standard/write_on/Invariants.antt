use Rattle.std.specs.Io.KnownBytes.{Keeps}
use Rattle.tg_streams.proofs.standard.write_on.Given as goal

-- a write that was interrupted put nothing
abbrev pub invariant-loop : goal.invariant-loop
invariant-loop g l = Keeps (g.W.Write.contents l.fn.writer) (g.W.Write.contents l.writer)
