use Rattle.tg_model_laws.proofs.Terminals.{steps_lead}
use Rattle.tg_model_laws.proofs.VisitPlaces.{visits_stand}
use Rattle.tg_model_laws.proofs.places.placed_children.Goals as goal

pub returns-clause-visits : goal.returns-clause-visits
returns-clause-visits c = visits_stand

pub returns-clause-steps : goal.returns-clause-steps
returns-clause-steps c = steps_lead
