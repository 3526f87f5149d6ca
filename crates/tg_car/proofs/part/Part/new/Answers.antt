use Rattle.std.proofs.Common.{sym, subst}
use Rattle.tg_car.specs.Heads.{IsInHead}
use Rattle.tg_car.proofs.part.Part.new.Goals as goal

pub returns-clause-part : goal.returns-clause-part
returns-clause-part c = (subst IsInHead (sym c.new.ensures) c.nothing_in_head.ensures, c.new-2.ensures.items)
