use Rattle.tg_query.proofs.TargetTexts.{target_law}
use Rattle.tg_query.proofs.laws.targets_read.Goals as goal

pub returns : goal.returns
returns c = target_law c.cuts_read.ensures.cut c.cuts_read.ensures.front c.roots_read.ensures.rooted c.spans_read.ensures.span
