use Rattle.tg_model_laws.proofs.PlaceLaws.{met_by_bytes}
use Rattle.tg_model_laws.proofs.places.met_parts.Goals as goal

pub returns : goal.returns
returns c = met_by_bytes
