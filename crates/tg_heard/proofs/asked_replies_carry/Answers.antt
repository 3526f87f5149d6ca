use Rattle.tg_heard.proofs.Asked.{asked_absences_carry, asked_answers_carry}
use Rattle.tg_heard.proofs.asked_replies_carry.Goals as goal

pub returns-clause-answers : goal.returns-clause-answers
returns-clause-answers c = asked_answers_carry c.asked_replies_read.ensures

pub returns-clause-absences : goal.returns-clause-absences
returns-clause-absences c = asked_absences_carry c.asked_replies_read.ensures
