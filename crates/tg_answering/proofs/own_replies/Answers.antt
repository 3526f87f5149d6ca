use Rattle.tg_answering.proofs.OwnReplies.{own_absences, own_answers, own_raws, own_sections}
use Rattle.tg_answering.proofs.own_replies.Goals as goal

pub returns-clause-sections : goal.returns-clause-sections
returns-clause-sections c = own_sections (record { cuts = c.cut_places.ensures; shown = c.cut_traversals.ensures.shown; alike = c.paths.ensures; through = c.traversals.ensures.through; pathless = c.raw_queries.ensures })

pub returns-clause-answers : goal.returns-clause-answers
returns-clause-answers c = own_answers (record { cuts = c.cut_places.ensures; shown = c.cut_traversals.ensures.shown; alike = c.paths.ensures; through = c.traversals.ensures.through; pathless = c.raw_queries.ensures })

pub returns-clause-absences : goal.returns-clause-absences
returns-clause-absences c = own_absences (record { cuts = c.cut_places.ensures; shown = c.cut_traversals.ensures.shown; alike = c.paths.ensures; through = c.traversals.ensures.through; pathless = c.raw_queries.ensures })

pub returns-clause-raws : goal.returns-clause-raws
returns-clause-raws c = own_raws (record { cuts = c.cut_places.ensures; shown = c.cut_traversals.ensures.shown; alike = c.paths.ensures; through = c.traversals.ensures.through; pathless = c.raw_queries.ensures })
