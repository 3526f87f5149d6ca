use Rattle.tg_reply.proofs.ReplyHeads.{car_back, raw_back, refusals_back}
use Rattle.tg_reply.proofs.laws.reply_heads.Goals as goal

pub returns-clause-refusals : goal.returns-clause-refusals
returns-clause-refusals c = refusals_back

pub returns-clause-raw : goal.returns-clause-raw
returns-clause-raw c = raw_back

pub returns-clause-car : goal.returns-clause-car
returns-clause-car c = car_back
