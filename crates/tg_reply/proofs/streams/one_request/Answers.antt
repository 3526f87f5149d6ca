use Rattle.tg_reply.proofs.OneHead.{one_request}
use Rattle.tg_reply.proofs.streams.one_request.Goals as goal

pub returns : goal.returns
returns c = one_request
