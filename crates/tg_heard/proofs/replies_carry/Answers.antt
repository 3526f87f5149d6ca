use Rattle.tg_heard.proofs.Carrying.{cars_carry, raws_carry}
use Rattle.tg_heard.proofs.Cutting.{cuts_carry_nothing}
use Rattle.tg_heard.proofs.Refusing.{refusals_carry_nothing}
use Rattle.tg_heard.proofs.replies_carry.Goals as goal

pub returns-clause-car : goal.returns-clause-car
returns-clause-car c = cars_carry c.replies_read.ensures.car

pub returns-clause-raw : goal.returns-clause-raw
returns-clause-raw c = raws_carry c.replies_read.ensures.raw

pub returns-clause-cut : goal.returns-clause-cut
returns-clause-cut c = cuts_carry_nothing c.longer_bytes.ensures.reply c.replies_read.ensures.car c.reply_bodies.ensures.cut c.body_laws.ensures.cut_not_whole

pub returns-clause-refusals : goal.returns-clause-refusals
returns-clause-refusals c = refusals_carry_nothing c.longer_bytes.ensures.reply c.replies_read.ensures.refusals
