use Rattle.tg_filedag.proofs.Order.{kept_in_order}
use Rattle.tg_filedag.proofs.laws.kept_in_order.Goals as goal

pub returns : goal.returns
returns c = kept_in_order c.readings.ensures.one_kind
