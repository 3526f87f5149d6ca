use Rattle.tg_query.proofs.PathTexts.{path_fault, path_law}
use Rattle.tg_query.proofs.path_laws.paths_read.Goals as goal

pub returns-clause-path : goal.returns-clause-path
returns-clause-path c = path_law c.good_names.ensures

pub returns-clause-fault : goal.returns-clause-fault
returns-clause-fault c = path_fault
