use Rattle.tg_reply.proofs.Shaped.{shaped}
use Rattle.tg_reply.proofs.sending.sent_is_shaped.Goals as goal

pub returns : goal.returns
returns c = shaped c.request_targets.ensures c.asked_queries.ensures c.raw_queries.ensures
