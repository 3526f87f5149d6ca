use Rattle.tg_heard.proofs.Worked.{heard_absence, heard_answer}
use Rattle.tg_heard.proofs.examples.heard_examples.Goals as goal

pub returns-clause-answer : goal.returns-clause-answer
returns-clause-answer c = heard_answer c.replies_read.ensures.car

pub returns-clause-absence : goal.returns-clause-absence
returns-clause-absence c = heard_absence c.replies_carry.ensures.car
