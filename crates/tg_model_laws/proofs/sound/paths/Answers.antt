use Rattle.tg_model_laws.proofs.PathEnds.{path_alike}
use Rattle.tg_model_laws.proofs.sound.paths.Goals as goal

-- src/laws.rt:31:1
pub returns : goal.returns
returns c = path_alike
