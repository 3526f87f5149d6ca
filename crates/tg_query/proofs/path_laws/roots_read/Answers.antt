use Rattle.tg_query.proofs.RootTexts.{root_fault, root_law, rooted_law, word_law}
use Rattle.tg_query.proofs.path_laws.roots_read.Goals as goal

pub returns-clause-root : goal.returns-clause-root
returns-clause-root c = root_law c.spelling_laws.ensures c.text_laws.ensures

pub returns-clause-cause : goal.returns-clause-cause
returns-clause-cause c = root_fault c.spelling_laws.ensures c.text_laws.ensures

pub returns-clause-rooted : goal.returns-clause-rooted
returns-clause-rooted c = rooted_law c.spelling_laws.ensures c.text_laws.ensures c.good_names.ensures

pub returns-clause-word : goal.returns-clause-word
returns-clause-word c = word_law c.spelling_laws.ensures c.text_laws.ensures c.good_names.ensures
