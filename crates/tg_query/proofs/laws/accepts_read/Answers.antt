use Rattle.tg_query.proofs.AcceptedTexts.{accept_law}
use Rattle.tg_query.proofs.laws.accepts_read.Goals as goal

pub returns : goal.returns
returns c = accept_law c.cuts_read.ensures.cut
