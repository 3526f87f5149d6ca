-- Blocks that are logged, as sections.
use Rattle.tg_model.specs.Dag.{Section}
use Rattle.tg_block_log.specs.BlockLogLaws.{IsGoodSection}
use Rattle.tg_block_log.specs.declared.logged_block.LoggedBlock.{LoggedBlock}

-- the CID and the block
abbrev pub section_of : LoggedBlock → Section
section_of held = record { cid = held.cid; block = held.block }

-- the CID names the block, which is no larger than a block may be
pub are_good : (held : LoggedBlock) → IsGoodSection (section_of held)
are_good held = record { named = held.named; small = held.small }
