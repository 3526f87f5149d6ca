use Rattle.std.proofs.Common.{map, take}
use Rattle.tg_streams.specs.Streams.{into}
use Rattle.tg_verify.proofs.Lists.{AreTaken}
use Rattle.tg_verify.specs.History.{section_of_pair}
use Rattle.tg_verify.proofs.all.take_all.Given as goal

-- the sections so far were taken
abbrev pub invariant-loop-cid : goal.invariant-loop-cid
invariant-loop-cid g l = AreTaken l.fn.verifier.left.query l.fn.verifier.limits l.verifier (map section_of_pair (take l.cid-index l.sections)) (into g.S.Sink.sink l.fn.out l.out)
