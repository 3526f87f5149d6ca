use Rattle.tg_reply.proofs.AsReplies.{as_replies, some_sent}
use Rattle.tg_reply.proofs.Begins.{determined}
use Rattle.tg_reply.proofs.sending.sent_is_determined.Goals as goal

pub returns-clause-determined : goal.returns-clause-determined
returns-clause-determined c = determined c.longer_bytes.ensures.request c.one_request.ensures

pub returns-clause-replies : goal.returns-clause-replies
returns-clause-replies c = as_replies c.one_writing.ensures.one c.one_writing.ensures.computes

pub returns-clause-some : goal.returns-clause-some
returns-clause-some c = some_sent c.first_heads.ensures
