use Rattle.tg_audit.proofs.Holding.{attached_holds, collides_or_not}
use Rattle.tg_audit.proofs.laws.attached_packs.Goals as goal

pub returns-clause-collides : goal.returns-clause-collides
returns-clause-collides c = collides_or_not

pub returns-clause-holds : goal.returns-clause-holds
returns-clause-holds c = attached_holds c.car_laws.ensures
