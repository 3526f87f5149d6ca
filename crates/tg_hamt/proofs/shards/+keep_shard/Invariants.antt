use Rattle.std.proofs.Common.{length, ◌-◌}
use Rattle.tg_hamt.proofs.Making.{IsMaking}
use Rattle.tg_hamt.proofs.shards.+keep_shard.Given as goal

abbrev pub decreases-keep_shard : goal.decreases-keep_shard
decreases-keep_shard g l = 8 - l.level

abbrev pub invariant-loop-start : goal.invariant-loop-start
invariant-loop-start g l = IsMaking g.K.Keep.keeper l.fn.keep l.keep l.entries l.order l.level l.start l.shard.links.items l.shard.bits

abbrev pub decreases-loop-start : goal.decreases-loop-start
decreases-loop-start g l = length l.order - l.start
