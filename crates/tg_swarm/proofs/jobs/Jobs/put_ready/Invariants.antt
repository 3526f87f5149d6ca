use Rattle.tg_swarm.proofs.Putting.{IsPutting}
use Rattle.tg_streams.specs.Streams.{into}
use Rattle.tg_swarm.specs.Jobs.{text_count}
use Rattle.tg_swarm.proofs.jobs.Jobs.put_ready.Given as goal

abbrev pub invariant-loop-text : goal.invariant-loop-text
invariant-loop-text g l = IsPutting l.fn.self l.self (into g.S.Sink.sink l.fn.out l.out)

abbrev pub decreases-loop-text : goal.decreases-loop-text
decreases-loop-text g l = text_count l.self.parts
