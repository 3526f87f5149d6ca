use Rattle.std.proofs.Common.{None, [], refl}
use Rattle.tg_filedag.proofs.Beginnings.{nothing_stands}
use Rattle.tg_filedag.proofs.balanced.Balanced.new.Goals as goal

pub invariant_of-result : goal.invariant_of-result
invariant_of-result c = λ e. ([], [], nothing_stands c.args.width None c.new.result.items c.requires.low c.requires.high refl c.new.ensures.items)

pub returns-clause-stands : goal.returns-clause-stands
returns-clause-stands c = nothing_stands c.args.width None c.new.result.items c.requires.low c.requires.high refl c.new.ensures.items
