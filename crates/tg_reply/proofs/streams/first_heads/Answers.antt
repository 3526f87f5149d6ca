use Rattle.tg_reply.proofs.FirstHeads.{first_heads}
use Rattle.tg_reply.proofs.streams.first_heads.Goals as goal

pub returns : goal.returns
returns c = first_heads c.line_laws.ensures
