use Rattle.tg_reply.proofs.Memory.{never_memory}
use Rattle.tg_reply.proofs.laws.no_memory.Goals as goal

pub returns : goal.returns
returns c = never_memory c.roots_read.ensures.cause c.paths_read.ensures.fault c.spans_read.ensures.fault
