use Rattle.std.proofs.Common.{rules, sym, subst}
use Rattle.tg_car.specs.Heads.{IsInHead}
use Rattle.tg_car.proofs.part.Part.take_block.Goals as goal

pub returns-clause-part : goal.returns-clause-part
returns-clause-part c = (subst IsInHead (sym c.clear.ensures) c.nothing_in_head.ensures, search rules)
