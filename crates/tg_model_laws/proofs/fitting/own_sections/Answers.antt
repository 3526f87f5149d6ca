use Rattle.tg_model_laws.proofs.OwnSections.{own_sections_fit}
use Rattle.tg_model_laws.proofs.fitting.own_sections.Goals as goal

-- src/fitting.rt:20:1
pub returns : goal.returns
returns c = own_sections_fit
