use Rattle.tg_heard.proofs.OwnRequests.{printed_is_read}
use Rattle.tg_heard.proofs.own.own_requests.Goals as goal

pub returns : goal.returns
returns c = printed_is_read c.printed_requests.ensures c.first_heads.ensures c.longer_bytes.ensures.request
