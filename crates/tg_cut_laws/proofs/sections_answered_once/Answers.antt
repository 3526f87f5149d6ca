use Rattle.tg_cut_laws.proofs.Single.{sections_once}
use Rattle.tg_cut_laws.proofs.sections_answered_once.Goals as goal

pub returns : goal.returns
returns c = sections_once
