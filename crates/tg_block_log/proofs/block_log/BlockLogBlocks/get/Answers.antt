use Rattle.std.proofs.Common.{◌≡◌, ap, map, ◌∙◌}
use Rattle.tg_block_log.proofs.block_log.BlockLogBlocks.get.Goals as goal
use Rattle.tg_block_log.specs.BlockLog.{first_block}
use Rattle.tg_block_log.specs.BlockLogLaws.{found_named, log_is_store}
use Rattle.tg_block_log.specs.LoggedBlocks.{are_good, section_of}

pub returns-in-Ok-clause-gotten : goal.returns-in-Ok-clause-gotten
returns-in-Ok-clause-gotten c =
    let same : c.in-Ok.found ≡ first_block (map section_of c.args.self.now.blocks) c.args.cid.now =
    c.in-Ok.ensures ∙ ap (λ blocks. first_block (map section_of blocks) c.args.cid.now) c.as_slice.ensures in
    record { stored = same; named = found_named _ _ _ (log_is_store section_of are_good c.args.self.now.blocks) same }
