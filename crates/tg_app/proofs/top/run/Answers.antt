use Rattle.tg_app.proofs.Running.{runs}
use Rattle.tg_app.proofs.top.run.Goals as goal

pub returns-clause-runs : goal.returns-clause-runs
returns-clause-runs g c =
    runs _ _ c.verified_answers.ensures.through c.verified_answers.ensures.answer_front c.verified_sections.ensures.misses
    c.cut_traversals.ensures.cut c.cut_traversals.ensures.shown c.finished_packs.ensures.same c.one_cause.ensures.none
    (record { through = c.verified_answers.ensures.through; received = c.received_sections.ensures; alike = c.one_fit.ensures.fits; own = c.own_sections.ensures })
    (record { beside = c.beside_dags.ensures; opened = c.own_blocks.ensures.opened; walks = c.store_walks.ensures; computed = c.readings.ensures.computed; alike = c.paths.ensures; through = c.traversals.ensures.through })
    (record {
      whole = c.made_answers.ensures.whole;
      front = c.made_answers.ensures.front;
      link = c.made_answers.ensures.link;
      bad = c.made_answers.ensures.bad;
      whole_trees = c.made_answers.ensures.whole_trees;
      front_trees = c.made_answers.ensures.front_trees;
    })
    c.tell.ensures.status c.tell.ensures.line c.command-end.ensures.ends
