use Rattle.tg_heard.proofs.HeadsFinal.{head_laws}
use Rattle.tg_heard.proofs.heads_go_on.Goals as goal

pub returns : goal.returns
returns c = head_laws c.longer_bytes.ensures.reply
