use Rattle.tg_bundles.proofs.Bundles.{answers_have_records, bundles_have_records}
use Rattle.tg_bundles.proofs.bundle_records.Goals as goal

pub returns-clause-at : goal.returns-clause-at
returns-clause-at c = bundles_have_records c.file_sizes.ensures

pub returns-clause-answer : goal.returns-clause-answer
returns-clause-answer c = answers_have_records c.file_sizes.ensures
