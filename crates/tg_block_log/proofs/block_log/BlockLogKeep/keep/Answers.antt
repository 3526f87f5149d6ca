use Rattle.std.proofs.Common.{sym, ◌∙◌}
use Rattle.tg_block_log.proofs.BlockLogs.{logged_one, told_one}
use Rattle.tg_block_log.proofs.block_log.BlockLogKeep.keep.Goals as goal

-- src/block_log.rt:75:5
pub returns-in-Ok-push-clause-kept : goal.returns-in-Ok-push-clause-kept
returns-in-Ok-push-clause-kept c = record {
  moved = logged_one _ _ _ _ c.args.cid c.args.block.now c.in-Ok-push.ensures.ok c.to_v1.ensures c.in-Ok.ensures;
  stored = told_one _ _ _ c.args.cid c.args.block.now c.in-Ok-push.ensures.ok c.to_v1.ensures c.in-Ok.ensures;
}
