use Rattle.tg_swarm.proofs.EachJob.{each_job, unstuck}
use Rattle.tg_swarm.specs.Swarms.{AnswersJob}
use Rattle.tg_swarm.proofs.laws.each_job.Goals as goal

pub returns-clause-places : goal.returns-clause-places
returns-clause-places c = λ a s job w below. each_job (AnswersJob a) s w job below

pub returns-clause-unstuck : goal.returns-clause-unstuck
returns-clause-unstuck c = λ a s w below none. unstuck (AnswersJob a) s w below none
