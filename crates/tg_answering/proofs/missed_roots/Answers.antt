use Rattle.tg_answering.proofs.MissedRoots.{missed}
use Rattle.tg_answering.proofs.missed_roots.Goals as goal

pub returns : goal.returns
returns c = missed
