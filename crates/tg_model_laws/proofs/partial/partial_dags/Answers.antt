use Rattle.tg_model_laws.proofs.PartialLaws.{followed, one_block, opened_is_checked, opened_or_pair}
use Rattle.tg_model_laws.proofs.partial.partial_dags.Goals as goal

pub returns-clause-one_block : goal.returns-clause-one_block
returns-clause-one_block c = one_block

pub returns-clause-opened : goal.returns-clause-opened
returns-clause-opened c = opened_or_pair c.readings.ensures.one_kind

pub returns-clause-checked : goal.returns-clause-checked
returns-clause-checked c = opened_is_checked

pub returns-clause-followed : goal.returns-clause-followed
returns-clause-followed c = followed
