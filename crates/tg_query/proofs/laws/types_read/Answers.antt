use Rattle.tg_query.proofs.AcceptedTexts.{type_law}
use Rattle.tg_query.proofs.laws.types_read.Goals as goal

pub returns : goal.returns
returns c = λ q kind. type_law c.cuts_read.ensures.cut q.form q.dups kind
