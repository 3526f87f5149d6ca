use Rattle.tg_heard.proofs.Receiving.{carried_is_got, got_fronts, one_got}
use Rattle.tg_heard.proofs.received_so_far.Goals as goal

pub returns-clause-one : goal.returns-clause-one
returns-clause-one c = one_got c.longer_bytes.ensures.reply c.body_laws.ensures c.received_sections.ensures

pub returns-clause-fronts : goal.returns-clause-fronts
returns-clause-fronts c = got_fronts c.longer_bytes.ensures.reply c.body_laws.ensures c.received_sections.ensures

pub returns-clause-carried : goal.returns-clause-carried
returns-clause-carried c = carried_is_got c.longer_bytes.ensures.reply c.body_laws.ensures c.received_sections.ensures
