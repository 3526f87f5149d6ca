use Rattle.tg_cut_laws.proofs.ReplyOnce.{replies_once}
use Rattle.tg_cut_laws.proofs.replies_answered_once.Goals as goal

pub returns : goal.returns
returns c =
    replies_once c.heads_go_on.ensures c.bodies_go_on.ensures c.bodies_answered_once.ensures
