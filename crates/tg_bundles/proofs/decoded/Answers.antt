use Rattle.tg_bundles.proofs.Escapes.{escaped_differ, escaped_is_plain}
use Rattle.tg_bundles.proofs.decoded.Goals as goal

pub returns-clause-names : goal.returns-clause-names
returns-clause-names c = escaped_differ

pub returns-clause-plain : goal.returns-clause-plain
returns-clause-plain c = escaped_is_plain
