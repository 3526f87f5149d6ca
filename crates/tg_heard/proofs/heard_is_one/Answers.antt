use Rattle.tg_heard.proofs.Heads.{one_final_head}
use Rattle.tg_heard.proofs.Single.{not_both, one_carried, one_carried_by}
use Rattle.tg_heard.proofs.heard_is_one.Goals as goal

pub returns-clause-head : goal.returns-clause-head
returns-clause-head c = one_final_head c.longer_bytes.ensures.reply

pub returns-clause-carried : goal.returns-clause-carried
returns-clause-carried c = one_carried c.longer_bytes.ensures.reply c.car_laws.ensures c.body_laws.ensures.one_whole

pub returns-clause-not_both : goal.returns-clause-not_both
returns-clause-not_both c = not_both c.longer_bytes.ensures.reply

pub returns-clause-carried_by : goal.returns-clause-carried_by
returns-clause-carried_by c = one_carried_by c.longer_bytes.ensures.reply c.car_laws.ensures c.body_laws.ensures.one_whole
