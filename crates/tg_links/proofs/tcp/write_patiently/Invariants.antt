use Rattle.std.specs.Io.KnownBytes.{Keeps}
use Rattle.tg_links.proofs.tcp.write_patiently.Given as goal

-- a write of which nothing was taken put nothing
abbrev pub invariant-loop : goal.invariant-loop
invariant-loop g l = Keeps (g.W.Write.contents l.fn.writer) (g.W.Write.contents l.writer)
