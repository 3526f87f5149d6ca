-- what is found among the blocks that are left is what is found
use Rattle.std.proofs.Common.{◌≡◌, drop, map}
use Rattle.tg_model.specs.Stores.{as_v1}
use Rattle.tg_block_log.specs.BlockLog.{first_block}
use Rattle.tg_block_log.specs.LoggedBlocks.{section_of}
use Rattle.tg_block_log.proofs.block_log.first_block.Given as goal

abbrev pub invariant-loop-held : goal.invariant-loop-held
invariant-loop-held l =
    (first_block (map section_of l.blocks) l.fn.cid ≡ first_block (map section_of (drop l.held-index l.blocks)) l.fn.cid)
    × (l.form ≡ as_v1 l.fn.cid)
