use Rattle.tg_heard.proofs.OwnSent.{own_is_sent, sent_carries}
use Rattle.tg_heard.proofs.own.own_sessions.Goals as goal

pub returns-clause-sent : goal.returns-clause-sent
returns-clause-sent c =
    own_is_sent c.own_requests.ensures c.own_replies.ensures.reply c.one_writing.ensures.one c.sent_is_determined.ensures.replies

pub returns-clause-carries : goal.returns-clause-carries
returns-clause-carries c = sent_carries c.sent_is_determined.ensures.replies c.own_replies_carry.ensures.carry
