use Rattle.std.proofs.Common.{length}
use Rattle.tg_verify.specs.Steps.{left_of}
use Rattle.tg_verify.proofs.Gathered.{LeadsOn}
use Rattle.tg_verify.proofs.opener.Opener.gather.Given as goal

abbrev pub invariant-loop : goal.invariant-loop
invariant-loop l = LeadsOn l.fn.self l.fn.ends l.self l.ends

abbrev pub decreases-loop : goal.decreases-loop
decreases-loop l = length (left_of l.self)
