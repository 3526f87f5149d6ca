use Rattle.tg_filedag.proofs.Cutting.{keeps_bytes}
use Rattle.tg_filedag.proofs.laws.kept_bytes.Goals as goal

pub returns : goal.returns
returns c = keeps_bytes
