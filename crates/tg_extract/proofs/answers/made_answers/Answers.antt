use Rattle.tg_extract.proofs.Made.{bad_answers, front_answers, front_trees, link_answers, whole_answers, whole_trees}
use Rattle.tg_extract.proofs.answers.made_answers.Goals as goal

pub returns-clause-whole : goal.returns-clause-whole
returns-clause-whole c =
    whole_answers c.bundle_records.ensures.answer c.proper_records.ensures.proper c.made_records.ensures.front c.made_records.ensures.file

pub returns-clause-front : goal.returns-clause-front
returns-clause-front c =
    front_answers c.bundle_records.ensures.answer c.proper_records.ensures.proper c.made_records.ensures.front c.made_records.ensures.file

pub returns-clause-link : goal.returns-clause-link
returns-clause-link c =
    link_answers c.bundle_records.ensures.answer c.proper_records.ensures.proper c.made_records.ensures.front c.made_records.ensures.file

pub returns-clause-bad : goal.returns-clause-bad
returns-clause-bad c =
    bad_answers c.bundle_records.ensures.answer c.proper_records.ensures.proper c.made_records.ensures.front c.made_records.ensures.file

pub returns-clause-whole_trees : goal.returns-clause-whole_trees
returns-clause-whole_trees c = whole_trees c.shown_records.ensures

pub returns-clause-front_trees : goal.returns-clause-front_trees
returns-clause-front_trees c = front_trees c.shown_records.ensures
