use Rattle.tg_reply.proofs.WrittenFor.{written_for}
use Rattle.tg_reply.proofs.Writings.{one_writing_each}
use Rattle.tg_reply.proofs.streams.one_writing.Goals as goal

pub returns-clause-one : goal.returns-clause-one
returns-clause-one c = one_writing_each

pub returns-clause-computes : goal.returns-clause-computes
returns-clause-computes c = written_for c.first_heads.ensures
