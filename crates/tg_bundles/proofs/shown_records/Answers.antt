use Rattle.tg_bundles.proofs.Shown.{records_are_tree}
use Rattle.tg_bundles.proofs.shown_records.Goals as goal

pub returns : goal.returns
returns c = records_are_tree
