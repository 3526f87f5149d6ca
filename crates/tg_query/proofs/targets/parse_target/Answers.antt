use Rattle.std.proofs.Common.{rules}
use Rattle.tg_query.proofs.GoodTargets.{target_good}
use Rattle.tg_query.proofs.targets.parse_target.Goals as goal

pub returns-clause-good : goal.returns-clause-good
returns-clause-good c = target_good c.spans_read.ensures.span c.roots_read.ensures.rooted c.args.target.now _ (search rules)
