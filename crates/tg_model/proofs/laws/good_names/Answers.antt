use Rattle.tg_model.proofs.NameTests.{good_decides}
use Rattle.tg_model.proofs.laws.good_names.Goals as goal

pub returns : goal.returns
returns c = good_decides
