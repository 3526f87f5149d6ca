use Rattle.tg_lanes.proofs.Replies.{broken_rise, fails_by, in_turn}
use Rattle.tg_lanes.proofs.laws.lanes_reply.Goals as goal

pub returns-clause-in_turn : goal.returns-clause-in_turn
returns-clause-in_turn c = in_turn

pub returns-clause-broken : goal.returns-clause-broken
returns-clause-broken c = broken_rise c.numbers_of_sent.ensures.counted

pub returns-clause-fails : goal.returns-clause-fails
returns-clause-fails c = fails_by c.numbers_of_sent.ensures.counted
