use Rattle.std.proofs.Common.{refl}
use Rattle.tg_car.proofs.Feeding.{stands_new}
use Rattle.tg_car.proofs.reader.CarReader.new.Goals as goal

pub returns-clause-stands : goal.returns-clause-stands
returns-clause-stands c = stands_new c.text_laws.ensures _ refl refl refl c.new-2.ensures.items c.new-3.ensures.nothing c.new.ensures
