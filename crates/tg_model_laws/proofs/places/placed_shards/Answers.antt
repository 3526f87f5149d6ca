use Rattle.tg_model_laws.proofs.PlaceLaws.{faultless_shard}
use Rattle.tg_model_laws.proofs.places.placed_shards.Goals as goal

pub returns : goal.returns
returns c = faultless_shard
