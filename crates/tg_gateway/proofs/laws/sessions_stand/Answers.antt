use Rattle.tg_gateway.proofs.Standing.{sessions_begin, stands_in_full}
use Rattle.tg_gateway.proofs.laws.sessions_stand.Goals as goal

pub returns-clause-begin : goal.returns-clause-begin
returns-clause-begin c = sessions_begin

pub returns-clause-in_full : goal.returns-clause-in_full
returns-clause-in_full c = stands_in_full c.sent_joins.ensures.stays
