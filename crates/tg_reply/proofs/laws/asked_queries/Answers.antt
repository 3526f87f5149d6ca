use Rattle.tg_reply.proofs.AskedQueries.{asked_spells}
use Rattle.tg_reply.proofs.laws.asked_queries.Goals as goal

pub returns : goal.returns
returns c = asked_spells c.targets_read.ensures
