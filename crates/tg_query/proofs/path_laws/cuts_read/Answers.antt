use Rattle.tg_query.proofs.FirstCuts.{cut_law}
use Rattle.tg_query.proofs.Fronts.{front_law}
use Rattle.tg_query.proofs.path_laws.cuts_read.Goals as goal

pub returns-clause-cut : goal.returns-clause-cut
returns-clause-cut c = cut_law

pub returns-clause-front : goal.returns-clause-front
returns-clause-front c = front_law
