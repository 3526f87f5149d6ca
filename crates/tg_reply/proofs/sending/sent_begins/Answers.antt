use Rattle.tg_reply.proofs.Begins.{sent_begins}
use Rattle.tg_reply.proofs.Sessions.{sent_extends}
use Rattle.tg_reply.proofs.sending.sent_begins.Goals as goal

pub returns-clause-extends : goal.returns-clause-extends
returns-clause-extends c = sent_extends c.longer_bytes.ensures.request c.first_heads.ensures

pub returns-clause-begins : goal.returns-clause-begins
returns-clause-begins c = sent_begins c.longer_bytes.ensures.request c.one_request.ensures
