use Rattle.tg_reply.proofs.Paths.{path_passes}
use Rattle.tg_reply.proofs.laws.told_paths.Goals as goal

pub returns : goal.returns
returns c = path_passes c.computes.ensures.text
