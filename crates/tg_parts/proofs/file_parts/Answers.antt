use Rattle.tg_parts.proofs.Written.{part_is_slice}
use Rattle.tg_parts.proofs.file_parts.Goals as goal

pub returns : goal.returns
returns c = part_is_slice
