use Rattle.tg_fetch.proofs.CarriedAnswer.{carried_is_answer}
use Rattle.tg_fetch.proofs.CarriedTaken.{carried_is_taken}
use Rattle.tg_fetch.proofs.laws.carried_replies.Goals as goal

pub returns-clause-taken : goal.returns-clause-taken
returns-clause-taken c =
    carried_is_taken c.heads_go_on.ensures c.heard_is_one.ensures.head c.bodies_go_on.ensures c.bodies.ensures c.verified_answers.ensures c.verified_sections.ensures

pub returns-clause-answer : goal.returns-clause-answer
returns-clause-answer c = carried_is_answer c.heard_is_one.ensures.carried c.verified_answers.ensures c.one_fit.ensures.fits
