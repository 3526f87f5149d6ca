use Rattle.tg_reply.proofs.AskedQueries.{targets_are_bytes}
use Rattle.tg_reply.proofs.laws.request_targets.Goals as goal

pub returns : goal.returns
returns c = targets_are_bytes
