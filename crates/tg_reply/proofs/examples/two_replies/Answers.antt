use Rattle.tg_reply.proofs.TwoRequests.{both_written}
use Rattle.tg_reply.proofs.examples.two_replies.Goals as goal

pub returns : goal.returns
returns c = both_written c.request_heads.ensures
