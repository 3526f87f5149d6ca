use Rattle.tg_fetch.proofs.CarriedAbsences.{absence_is_no_answer, absence_is_told}
use Rattle.tg_fetch.proofs.laws.carried_absences.Goals as goal

pub returns-clause-told : goal.returns-clause-told
returns-clause-told c =
    absence_is_told c.heads_go_on.ensures c.heard_is_one.ensures.head c.bodies_go_on.ensures c.bodies.ensures c.received_sections.ensures c.verified_sections.ensures

pub returns-clause-none : goal.returns-clause-none
returns-clause-none c = absence_is_no_answer c.heard_is_one.ensures.not_both
