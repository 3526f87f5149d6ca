use Rattle.tg_model_laws.proofs.ContentSizes.{total_is_length}
use Rattle.tg_model_laws.proofs.sizes.file_sizes.Goals as goal

pub returns : goal.returns
returns c = total_is_length
