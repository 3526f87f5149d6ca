use Rattle.tg_model_laws.proofs.SameOpenings.{one_opened}
use Rattle.tg_model_laws.proofs.SentOpenings.{fit_or_in_progress, one_fit, one_in_progress, sent_opened}
use Rattle.tg_model_laws.proofs.fitting.one_fit.Goals as goal

pub returns-clause-fits : goal.returns-clause-fits
returns-clause-fits c = one_fit c.readings.ensures.one_kind

pub returns-clause-in_progress : goal.returns-clause-in_progress
returns-clause-in_progress c = one_in_progress c.readings.ensures.one_kind

pub returns-clause-either : goal.returns-clause-either
returns-clause-either c = fit_or_in_progress c.readings.ensures.one_kind

pub returns-clause-opened : goal.returns-clause-opened
returns-clause-opened c = one_opened c.readings.ensures.one_kind

pub returns-clause-sent : goal.returns-clause-sent
returns-clause-sent c = sent_opened c.readings.ensures.one_kind
