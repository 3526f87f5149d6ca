use Rattle.tg_pbtable.proofs.Ranges.{range_in}
use Rattle.tg_pbtable.proofs.laws.place_laws.Goals as goal

pub returns : goal.returns
returns c = record { in_part = range_in }
