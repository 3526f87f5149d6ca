use Rattle.tg_answering.proofs.StoredRoots.{stored_blocks}
use Rattle.tg_answering.proofs.stored_blocks.Goals as goal

pub returns : goal.returns
returns c = stored_blocks
