use Rattle.std.proofs.Common.{[], refl}
use Rattle.tg_car.proofs.Openings.{nothing_in_head}
use Rattle.tg_car.proofs.laws.nothing_in_head.Goals as goal

pub returns : goal.returns
returns c = nothing_in_head c.text_laws.ensures [] refl
