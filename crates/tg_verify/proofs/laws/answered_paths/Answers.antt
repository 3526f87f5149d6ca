use Rattle.tg_verify.proofs.Absent.{leads_there}
use Rattle.tg_verify.proofs.laws.answered_paths.Goals as goal

pub returns : goal.returns
returns c = leads_there
