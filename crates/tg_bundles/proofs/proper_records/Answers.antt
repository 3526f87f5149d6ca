use Rattle.tg_bundles.proofs.Proper.{records_are_proper, records_have_names}
use Rattle.tg_bundles.proofs.proper_records.Goals as goal

pub returns-clause-names : goal.returns-clause-names
returns-clause-names c = records_have_names

pub returns-clause-proper : goal.returns-clause-proper
returns-clause-proper c = records_are_proper c.file_sizes.ensures
