use Rattle.tg_gateway.proofs.Standing.{broken_next, limit_all, longer}
use Rattle.tg_gateway.proofs.laws.sessions_refuse.Goals as goal

pub returns-clause-limit_all : goal.returns-clause-limit_all
returns-clause-limit_all c = limit_all c.sessions_go_on.ensures.go_on

pub returns-clause-broken_next : goal.returns-clause-broken_next
returns-clause-broken_next c =
    broken_next c.sent_joins.ensures.joins c.sent_joins.ensures.stays c.sessions_go_on.ensures.front

pub returns-clause-longer : goal.returns-clause-longer
returns-clause-longer c = longer c.sent_joins.ensures.joins c.sent_joins.ensures.stays
