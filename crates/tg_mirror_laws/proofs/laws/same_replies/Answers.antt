use Rattle.tg_mirror_laws.proofs.SameReplies.{same_replies, same_views}
use Rattle.tg_mirror_laws.proofs.laws.same_replies.Goals as goal

pub returns-clause-views : goal.returns-clause-views
returns-clause-views c = same_views c.cut_traversals.ensures.shown

pub returns-clause-replies : goal.returns-clause-replies
returns-clause-replies c = same_replies (same_views c.cut_traversals.ensures.shown)
