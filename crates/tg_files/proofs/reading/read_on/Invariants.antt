use Rattle.std.specs.Io.KnownBytes.{Keeps}
use Rattle.tg_files.proofs.reading.read_on.Given as goal

-- a read that was interrupted took nothing
abbrev pub invariant-loop : goal.invariant-loop
invariant-loop g l = Keeps (g.F.Read.remaining l.fn.file) (g.F.Read.remaining l.file)
