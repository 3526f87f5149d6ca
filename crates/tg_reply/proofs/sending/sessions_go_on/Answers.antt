use Rattle.tg_reply.proofs.Sessions.{broken_is_front, limit_is_front, sessions_go_on, sessions_stay_closed, stands_sent}
use Rattle.tg_reply.proofs.sending.sessions_go_on.Goals as goal

pub returns-clause-sent : goal.returns-clause-sent
returns-clause-sent c = stands_sent c.longer_bytes.ensures.request

pub returns-clause-go_on : goal.returns-clause-go_on
returns-clause-go_on c = sessions_go_on c.longer_bytes.ensures.request

pub returns-clause-closed : goal.returns-clause-closed
returns-clause-closed c = sessions_stay_closed

pub returns-clause-limit : goal.returns-clause-limit
returns-clause-limit c = limit_is_front c.longer_bytes.ensures.request

pub returns-clause-front : goal.returns-clause-front
returns-clause-front c = broken_is_front c.longer_bytes.ensures.request
