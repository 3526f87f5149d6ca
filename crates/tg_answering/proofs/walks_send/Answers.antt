use Rattle.tg_answering.proofs.SentFronts.{fronts}
use Rattle.tg_answering.proofs.walks_send.Goals as goal

pub returns-clause-fronts : goal.returns-clause-fronts
returns-clause-fronts c = fronts
