use Rattle.tg_reply.proofs.Cutting.{cuts}
use Rattle.tg_reply.proofs.laws.cut_places.Goals as goal

pub returns : goal.returns
returns c = cuts
