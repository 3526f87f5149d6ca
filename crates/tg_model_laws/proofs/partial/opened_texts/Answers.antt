use Rattle.tg_model_laws.proofs.OpenedReads.{meet_entries, say_texts}
use Rattle.tg_model_laws.proofs.partial.opened_texts.Goals as goal

pub returns-clause-text : goal.returns-clause-text
returns-clause-text c = say_texts

pub returns-clause-listing : goal.returns-clause-listing
returns-clause-listing c = meet_entries
