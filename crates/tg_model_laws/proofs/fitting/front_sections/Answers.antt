use Rattle.tg_model_laws.proofs.FrontLaws.{fits_by_fronts, progress_by_fronts}
use Rattle.tg_model_laws.proofs.fitting.front_sections.Goals as goal

pub returns-clause-fits : goal.returns-clause-fits
returns-clause-fits c = fits_by_fronts

pub returns-clause-in_progress : goal.returns-clause-in_progress
returns-clause-in_progress c = progress_by_fronts
