use Rattle.tg_model_laws.proofs.StoppedPaths.{leads_nowhere, own_opened}
use Rattle.tg_model_laws.proofs.fitting.own_absences.Goals as goal

pub returns-clause-nowhere : goal.returns-clause-nowhere
returns-clause-nowhere c q d stop sound e = let h = leads_nowhere q d stop sound e in (h.end, h.none)

pub returns-clause-opened : goal.returns-clause-opened
returns-clause-opened c = own_opened
