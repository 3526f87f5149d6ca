use Rattle.tg_gateway.proofs.Standing.{failures_rise}
use Rattle.tg_gateway.proofs.laws.failures_rise.Goals as goal

pub returns : goal.returns
returns c = failures_rise c.numbers_of_sent.ensures.counted
