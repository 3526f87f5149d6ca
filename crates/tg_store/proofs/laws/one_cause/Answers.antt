use Rattle.tg_store.proofs.Causes.{no_cause, one_cause}
use Rattle.tg_store.proofs.laws.one_cause.Goals as goal

pub returns-clause-one : goal.returns-clause-one
returns-clause-one c = λ content f g h k. one_cause c.car_laws.ensures c.spelling_laws.ensures c.one_spelling.ensures.no_front content f g h k

pub returns-clause-none : goal.returns-clause-none
returns-clause-none c = λ content store fault a h. no_cause c.car_laws.ensures c.spelling_laws.ensures c.one_spelling.ensures.no_front content store fault a h
