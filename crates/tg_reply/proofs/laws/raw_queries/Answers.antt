use Rattle.tg_reply.proofs.RawQueries.{raw_path}
use Rattle.tg_reply.proofs.laws.raw_queries.Goals as goal

pub returns : goal.returns
returns c = raw_path
