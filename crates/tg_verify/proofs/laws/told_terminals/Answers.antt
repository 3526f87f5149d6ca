use Rattle.tg_verify.proofs.Told.{terminals_told}
use Rattle.tg_verify.proofs.laws.told_terminals.Goals as goal

pub returns : goal.returns
returns c = terminals_told c.verified_sections.ensures c.beside_dags.ensures c.readings.ensures.computed c.paths.ensures
