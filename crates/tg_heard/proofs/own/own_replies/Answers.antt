use Rattle.tg_heard.proofs.Held.{held_have_one_block, own_reply_is}
use Rattle.tg_heard.proofs.own.own_replies.Goals as goal

pub returns-clause-one_block : goal.returns-clause-one_block
returns-clause-one_block c = held_have_one_block

pub returns-clause-reply : goal.returns-clause-reply
returns-clause-reply c =
    own_reply_is (record { answers = c.own_replies.ensures.answers; absences = c.own_replies.ensures.absences; raws = c.own_replies.ensures.raws; alike = c.paths.ensures })
