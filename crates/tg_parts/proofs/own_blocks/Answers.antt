use Rattle.tg_parts.proofs.OwnBlocks.{opened_are_blocks, own_are_blocks}
use Rattle.tg_parts.proofs.own_blocks.Goals as goal

pub returns-clause-opened : goal.returns-clause-opened
returns-clause-opened c = opened_are_blocks

pub returns-clause-sent : goal.returns-clause-sent
returns-clause-sent c = own_are_blocks
