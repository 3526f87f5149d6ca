use Rattle.tg_lanes.proofs.Apart.{breaks_by, lane_writes, lanes_apart, lanes_differ}
use Rattle.tg_lanes.proofs.laws.lanes_are_apart.Goals as goal

pub returns-clause-writes : goal.returns-clause-writes
returns-clause-writes c = lane_writes c.sent_is_determined.ensures.replies c.sessions_stand.ensures.in_full

pub returns-clause-breaks : goal.returns-clause-breaks
returns-clause-breaks c = breaks_by c.numbers_of_sent.ensures.counted

pub returns-clause-apart : goal.returns-clause-apart
returns-clause-apart c = lanes_apart c.sent_is_determined.ensures.replies c.sessions_stand.ensures.in_full

pub returns-clause-differ : goal.returns-clause-differ
returns-clause-differ c =
    lanes_differ c.sent_is_determined.ensures.replies c.sessions_stand.ensures.in_full c.numbers_of_sent.ensures.counted
